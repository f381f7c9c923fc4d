-- Questions about problems that are alike have one verdict.
use Rattle.std.proofs.Common.{◌≡◌, ◌≢◌, ℕ, List, [], ◌∷◌, Option, None, refl, sym, ap, ◌∙◌}
use Rattle.std.specs.Prelude.{All, slice_index_or}
use Rattle.srp_core.specs.declared.route.Route.{Route}
use Rattle.srp_core.specs.Alike.{ProblemsAlike}
use Rattle.srp_core.specs.Problem.{Problem}
use Rattle.srp_core.specs.Stability.{AreLabels, IsStable}
use Rattle.srp_core.proofs.Alike.{one_start, same_forwards, same_stable, turned}
use Rattle.srp_questions.specs.declared.question.Question.{Question}
use Rattle.srp_questions.specs.declared.question.Question.TheVariants as question
use Rattle.srp_questions.specs.declared.verdict.Verdict.{Verdict}
use Rattle.srp_questions.specs.declared.verdict.Verdict.TheVariants.{Yes, No, NoSolution}
use Rattle.srp_questions.specs.Answers.{IsVerdict}
use Rattle.srp_questions.specs.Chains.{IsChain, end_of}
use Rattle.srp_questions.specs.Questions.{IsTrueIn, IsWithinHops, PassesThrough, StaysOff}

each : (F G : ℕ → Type 0) (us : List ℕ) → ((u : ℕ) → F u → G u) → All F us → All G us
each F G us more all = λ k d inside. more (slice_index_or us k d) (all k d inside)

module _ (P Q : Problem) (same : ProblemsAlike P Q) (L : List (Option Route)) (fit : AreLabels Q L) where
  chain_back : (u : ℕ) (behind : List ℕ) → IsChain Q L u behind → IsChain P L u behind
  chain_back u [] chain = tt
  chain_back u (v ∷ rest) chain = (same_forwards Q P (turned P Q same) L fit u v chain.0, chain_back v rest chain.1)

  -- what is true in labels of a problem is true in them as labels of the other
  true_too : (asked : Question) → IsTrueIn asked P L → IsTrueIn asked Q L
  true_too (question.Route routers) is = is
  true_too (question.Isolated routers) is = is
  true_too (question.Hops most routers) is = each (IsWithinHops P L most) (IsWithinHops Q L most) routers
      (λ u all behind chain. all behind (chain_back u behind chain)) is
  true_too (question.Through way routers) is = each (PassesThrough P L way) (PassesThrough Q L way) routers
      (λ u all behind chain ends. all behind (chain_back u behind chain) (λ none. ends (sym (one_start P Q same (end_of u behind)) ∙ none))) is
  true_too (question.Avoids way routers) is = each (StaysOff P L way) (StaysOff Q L way) routers
      (λ u all behind chain. all behind (chain_back u behind chain)) is
  true_too (question.Carries community routers) is = is
  true_too (question.Lacks community routers) is = is

module _ (P Q : Problem) (same : ProblemsAlike P Q) (asked : Question) where
  back : ProblemsAlike Q P
  back = turned P Q same

  verdict_too : (v : Verdict) → IsVerdict P (IsTrueIn asked P) v → IsVerdict Q (IsTrueIn asked Q) v
  verdict_too Yes is = record {
    some = is.some;
    stable = same_stable P Q same is.some is.stable;
    all = λ L st. true_too P Q same L st.fitting asked (is.all L (same_stable Q P back L st));
  }
  verdict_too No is = record {
    labels = is.labels;
    stable = same_stable P Q same is.labels is.stable;
    fails = λ holds. is.fails (true_too Q P back is.labels is.stable.fitting asked holds);
  }
  verdict_too NoSolution is = λ L st. is L (same_stable Q P back L st)

-- a question about a problem has one verdict
one_verdict : (P : Problem) (asks : List (Option Route) → Type 0) (v w : Verdict) → IsVerdict P asks v → IsVerdict P asks w → v ≡ w
one_verdict P asks Yes Yes a b = refl
one_verdict P asks Yes No a b = absurd (b.fails (a.all b.labels b.stable))
one_verdict P asks Yes NoSolution a b = absurd (b a.some a.stable)
one_verdict P asks No Yes a b = absurd (a.fails (b.all a.labels a.stable))
one_verdict P asks No No a b = refl
one_verdict P asks No NoSolution a b = absurd (b a.labels a.stable)
one_verdict P asks NoSolution Yes a b = absurd (a b.some b.stable)
one_verdict P asks NoSolution No a b = absurd (a b.labels b.stable)
one_verdict P asks NoSolution NoSolution a b = refl

pub same_verdict : (P Q : Problem) → ProblemsAlike P Q → (asked : Question) (v w : Verdict) → IsVerdict P (IsTrueIn asked P) v
    → IsVerdict Q (IsTrueIn asked Q) w → v ≡ w
same_verdict P Q same asked v w a b = one_verdict Q (IsTrueIn asked Q) v w (verdict_too P Q same asked v a) b
