-- The answer to a question, from what was seen in a search.
use Rattle.std.proofs.Common.{rules, ◌≡◌, ◌≢◌, ℕ, Bool, true, false, List, [], refl, sym, subst, Option, Some, None, Vec, Global}
use Rattle.std.specs.Prelude.{if◌then◌else◌}
use Rattle.srp_core.specs.declared.route.Route.{Route}
use Rattle.srp_core.specs.Problem.{Problem, IsProblem}
use Rattle.srp_core.specs.Solutions.{AreAllSolutions}
use Rattle.srp_questions.specs.declared.question.Question.{Question}
use Rattle.srp_questions.specs.declared.verdict.Verdict.{Verdict}
use Rattle.srp_questions.specs.declared.verdict.Verdict.TheVariants.{Yes, No, NoSolution}
use Rattle.srp_questions.specs.Laws.{KeysDecide}
use Rattle.solution_search.specs.declared.board.Tie.{Tie}
use Rattle.solution_search.specs.declared.searching.Ending.TheVariants.{All as AllSeen}
use Rattle.solution_search.specs.Endings.{EndsWith}
use Rattle.solution_answers.specs.Questions.{IsShown}
use Rattle.solution_answers.specs.Seen.{IsFailure, HasAsked}
use Rattle.solution_answers.specs.Verdicts.{IsTold, IsAnswer}
use Rattle.solution_answers.proofs.Seen.{in_all, none_at_all}

module _ (problem : Problem) (asked : Question) where
  -- nothing has been seen
  pub unseen : (shows : Bool) → HasAsked problem asked shows false None []
  unseen shows = record { none = λ e. refl; any = λ e. absurd cc; holds = λ e. search rules; fails = tt }

  -- ---- false in some labels

  pub shown_no : (shows : Bool) (text : List ℕ) → IsFailure problem asked shows text → IsShown shows No problem asked text
  shown_no true text failure = record { labels = failure.labels; stable = failure.stable; fails = failure.fails; text_is = failure.text_is }
  shown_no false text failure = failure.text_is

  pub answer_no : (shows : Bool) (text : List ℕ) → IsFailure problem asked shows text → IsAnswer problem asked No None
  answer_no shows text failure = record {
    is = record { labels = failure.labels; stable = failure.stable; fails = failure.fails };
    told = record { unasked = λ e. refl; tieless = λ other none. absurd (other refl); router = tt };
  }

  -- ---- true in all labels, or there are none

  module _ (found : List (List (Option Route))) (wants : Bool) where
    all_seen : (tie : Option Tie) → EndsWith problem found wants (AllSeen tie) → AreAllSolutions problem found
    all_seen None ends = ends.0
    all_seen (Some tie) ends = ends.0

    told_all : (verdict : Verdict) → verdict ≢ No → (tie : Option Tie) → EndsWith problem found wants (AllSeen tie) → IsTold problem verdict tie
    told_all verdict other None ends = record {
      unasked = λ e. refl;
      tieless = λ unlike none. record { found = found; are = ends.0; holds = ends.1 };
      router = tt;
    }
    told_all verdict other (Some tie) ends = record {
      unasked = λ e. absurd (other e);
      tieless = λ unlike none. absurd cc;
      router = ends.1;
    }

    answer_by : KeysDecide → IsProblem problem → (shows some : Bool) → HasAsked problem asked shows some None found → (tie : Option Tie)
        → EndsWith problem found wants (AllSeen tie) → IsAnswer problem asked (if some then Yes else NoSolution) tie
    answer_by keys rules shows true seen tie ends = record {
      is = in_all problem keys asked found rules (all_seen tie ends) (seen.holds refl) (seen.any refl);
      told = told_all Yes (λ e. cc) tie ends;
    }
    answer_by keys rules shows false seen tie ends = record {
      is = none_at_all problem found (all_seen tie ends) (seen.none refl);
      told = told_all NoSolution (λ e. cc) tie ends;
    }

    pub answer_all : KeysDecide → IsProblem problem → (shows some : Bool) (failed : Option (Vec ℕ Global)) → HasAsked problem asked shows some failed found
        → failed ≡ None → (tie : Option Tie) → EndsWith problem found wants (AllSeen tie) → (verdict : Verdict) → verdict ≡ (if some then Yes else NoSolution)
        → IsAnswer problem asked verdict tie
    answer_all keys rules shows some failed seen none tie ends verdict is =
        subst (λ (v : Verdict). IsAnswer problem asked v tie) (sym is)
        (answer_by keys rules shows some (subst (λ (f : Option (Vec ℕ Global)). HasAsked problem asked shows some f found) none seen) tie ends)

  shown_by : (shows some : Bool) (text : List ℕ) → text ≡ [] → IsShown shows (if some then Yes else NoSolution) problem asked text
  shown_by true true text e = e
  shown_by true false text e = e
  shown_by false true text e = e
  shown_by false false text e = e

  pub shown_all : (shows some : Bool) (text : List ℕ) → text ≡ [] → (verdict : Verdict) → verdict ≡ (if some then Yes else NoSolution) →
      IsShown shows verdict problem asked text
  shown_all shows some text e verdict is = subst (λ (v : Verdict). IsShown shows v problem asked text) (sym is) (shown_by shows some text e)

-- What was seen by a visitor that is as it was before.
pub seen_as : (problem problem' : Problem) (asked asked' : Question) (shows shows' some : Bool) (failed : Option (Vec ℕ Global))
    (found : List (List (Option Route)))
    → problem' ≡ problem → asked' ≡ asked → shows' ≡ shows → HasAsked problem' asked' shows' some failed found → HasAsked problem asked shows some failed found
seen_as problem problem' asked asked' shows shows' some failed found e f g seen =
    subst (λ (p : Problem). HasAsked p asked shows some failed found) e
    (subst (λ (q : Question). HasAsked problem' q shows some failed found) f
    (subst (λ (b : Bool). HasAsked problem' asked' b some failed found) g seen))
