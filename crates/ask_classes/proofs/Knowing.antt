-- Links without which the answer is known.
use Rattle.std.proofs.Common.{◌≡◌, ℕ, ◌<◌, Bool, true, false, cond, not, ◌&&◌, ◌||◌, List, [], ◌∷◌, length, refl, sym, ap, ◌∙◌, subst, inl, inr, arith}
use Rattle.std.specs.Prelude.{◌≢◌, Option, Some, None, IfSome, filter, nat_eq, slice_index_or, slice_set}
use Rattle.std.proofs.lemmas.Bool.{cases_eq, eq-eqb, ne_eqb}
use Rattle.std.proofs.lemmas.List.{get_or-set_same, get_or-set_other}
use Rattle.base_kit.specs.declared.act_graph.Edge.{Edge}
use Rattle.srp_core.specs.Problem.{Problem, count}
use Rattle.srp_core.specs.Without.{Down, marked_down, is_left, IsWithout}
use Rattle.srp_questions.specs.Answers.{IsVerdict}
use Rattle.srp_questions.specs.Questions.{IsTrueIn}
use Rattle.srp_questions.specs.declared.question.Question.{Question}
use Rattle.srp_questions.specs.declared.verdict.Verdict.{Verdict}
use Rattle.srp_questions.specs.declared.verdict.Verdict.TheVariants.{Yes, No, NoSolution}
use Rattle.spare_links.specs.Spare.{link_down, IsVerdictKept, SpareLinksKeepVerdicts}
use Rattle.ask_words.specs.declared.request.AskedOf.{AskedOf}
use Rattle.ask_words.specs.declared.request.AskedOf.TheVariants as asked
use Rattle.ask_names.specs.Routers.{question_for, routers_for}
use Rattle.solution_search.specs.declared.board.Tie.{Tie}
use Rattle.solution_answers.specs.Verdicts.{IsAnswer}
use Rattle.ask_classes.specs.declared.asking.Asking.{Asking}
use Rattle.ask_classes.specs.Failing.{Loss, IsTried}
use Rattle.ask_classes.specs.Known.{keeps_verdict, tie_at, tie_beside, HasSpareLinks}
use Rattle.ask_classes.specs.Scenes.{IsAsking}
use Rattle.ask_classes.proofs.Losses.{asked_of_left}

-- ---- one link more

at_set : (marks : List Bool) (place k : ℕ) → place < length marks →
    slice_index_or (slice_set marks place true) k false ≡ (nat_eq k place || slice_index_or marks k false)
at_set marks place k inside = elim (cases_eq k place) [
  | inl same ↦ subst (λ (n : ℕ). slice_index_or (slice_set marks place true) n false ≡ (nat_eq n place || slice_index_or marks n false)) (sym same)
      (get_or-set_same marks place true false inside ∙ ap (λ (b : Bool). b || slice_index_or marks place false) (sym (eq-eqb place place refl)))
  | inr other ↦ get_or-set_other marks place k true false other ∙ ap (λ (b : Bool). b || slice_index_or marks k false) (sym (ne_eqb k place other))
]

both_left : (a b c : Bool) → (not (a || b) && c) ≡ ((not b && c) && (not (a || false) && (not false && not false)))
both_left true true c = refl
both_left true false true = refl
both_left true false false = refl
both_left false true c = refl
both_left false false true = refl
both_left false false false = refl

filtered : (p q r : Edge → Bool) → ((e : Edge) → r e ≡ (p e && q e)) → (es : List Edge) → filter q (filter p es) ≡ filter r es
filtered p q r same [] = refl
filtered p q r same (e ∷ es) = by (p e) (q e) refl refl (filtered p q r same es)
  where
    kept : (b : Bool) → r e ≡ b → cond b (e ∷ filter r es) (filter r es) ≡ filter r (e ∷ es)
    kept b is = ap (λ c. cond c (e ∷ filter r es) (filter r es)) (sym is)

    by : (a b : Bool) → p e ≡ a → q e ≡ b → filter q (filter p es) ≡ filter r es → filter q (cond a (e ∷ filter p es) (filter p es)) ≡ filter r (e ∷ es)
    by true true first second rest =
        ap (λ c. cond c (e ∷ filter q (filter p es)) (filter q (filter p es))) second ∙ ap (λ l. e ∷ l) rest ∙ kept true (same e ∙ (λ i. first i && second i))
    by true false first second rest =
        ap (λ c. cond c (e ∷ filter q (filter p es)) (filter q (filter p es))) second ∙ rest ∙ kept false (same e ∙ (λ i. first i && second i))
    by false b first second rest = rest ∙ kept false (same e ∙ ap (λ c. c && q e) first)

-- what is left without one link more
also_without : (whole left other : Problem) (routers links : List Bool) (place : ℕ) → place < length links → IsWithout whole (marked_down routers links) left →
    IsWithout left (link_down place) other → IsWithout whole (marked_down routers (slice_set links place true)) other
also_without whole left other routers links place inside first second = record {
  rules = second.rules;
  protocol = second.protocol ∙ first.protocol;
  names = second.names ∙ first.names;
  numbers = second.numbers ∙ first.numbers;
  acts = second.acts ∙ first.acts;
  init = λ u. second.init u ∙ first.init u;
  edges = second.edges ∙ ap (filter (is_left (link_down place))) first.edges
      ∙ filtered (is_left (marked_down routers links)) (is_left (link_down place))
      (is_left (marked_down routers (slice_set links place true))) is_both whole.edges;
}
  where
    is_both : (e : Edge) → is_left (marked_down routers (slice_set links place true)) e ≡ (is_left (marked_down routers links) e && is_left (link_down place) e)
    is_both e =
        let ends : Bool = not (slice_index_or routers e.importer false) && not (slice_index_or routers e.exporter false) in
        ap (λ (b : Bool). not b && ends) (at_set links place e.link inside) ∙ both_left (nat_eq e.link place) (slice_index_or links e.link false) ends

-- ---- the question

-- it asks of the routers that are left, whatever links are
same_question : (names : List (List ℕ)) (routers links others : List Bool) (asks : AskedOf) →
    question_for names (marked_down routers links) asks ≡ question_for names (marked_down routers others) asks
unfolding routers_for
same_question names routers links others (asked.Route of) = refl
same_question names routers links others (asked.Isolated of) = refl
same_question names routers links others (asked.Hops most of) = refl
same_question names routers links others (asked.Through way of) = refl
same_question names routers links others (asked.Avoids way of) = refl
same_question names routers links others (asked.Carries community of) = refl
same_question names routers links others (asked.Lacks community of) = refl

kept_no : (names : List (List ℕ)) (down : Down) (asks : AskedOf) → keeps_verdict asks No ≡ true → IsVerdictKept (question_for names down asks) No
kept_no names down (asked.Route of) e = tt
kept_no names down (asked.Isolated of) e = tt
kept_no names down (asked.Hops most of) e = absurd cc
kept_no names down (asked.Through way of) e = absurd cc
kept_no names down (asked.Avoids way of) e = absurd cc
kept_no names down (asked.Carries community of) e = tt
kept_no names down (asked.Lacks community of) e = tt

kept_for : (names : List (List ℕ)) (down : Down) (asks : AskedOf) (verdict : Verdict) → keeps_verdict asks verdict ≡ true →
    IsVerdictKept (question_for names down asks) verdict
kept_for names down asks Yes e = tt
kept_for names down asks No e = kept_no names down asks e
kept_for names down asks NoSolution e = absurd cc

-- ---- the tie

no_told : (verdict : Verdict) (tied : Option ℕ) → verdict ≡ No → tie_beside verdict tied ≡ None
no_told Yes tied is = absurd cc
no_told No tied is = refl
no_told NoSolution tied is = absurd cc

none_at : (tied : Option ℕ) → tie_at tied ≡ None → tied ≡ None
none_at None none = refl
none_at (Some router) none = absurd cc

none_told : (verdict : Verdict) (tied : Option ℕ) → verdict ≢ No → tie_beside verdict tied ≡ None → tied ≡ None
none_told Yes tied other none = none_at tied none
none_told No tied other none = absurd (other refl)
none_told NoSolution tied other none = none_at tied none

at_inside : (tied : Option ℕ) (bound : ℕ) → IfSome tied (λ u. u < bound) → IfSome (tie_at tied) (λ (t : Tie). t.router < bound)
at_inside None bound inside = tt
at_inside (Some router) bound inside = inside

told_inside : (verdict : Verdict) (tied : Option ℕ) (bound : ℕ) → IfSome tied (λ u. u < bound) →
    IfSome (tie_beside verdict tied) (λ (t : Tie). t.router < bound)
told_inside Yes tied bound inside = at_inside tied bound inside
told_inside No tied bound inside = tt
told_inside NoSolution tied bound inside = at_inside tied bound inside

-- ---- the trial

abbrev pub question_left : Asking → Question
question_left asking = question_for asking.problems.now.whole.now.names
    (marked_down asking.scene.now.routers_down.now asking.scene.now.links_down.now) asking.asks.now

pub is_known : SpareLinksKeepVerdicts → (asking : Asking) → IsAsking asking → (verdict : Verdict) → keeps_verdict asking.asks.now verdict ≡ true →
    IsVerdict asking.problems.now.left.now (IsTrueIn (question_left asking) asking.problems.now.left.now) verdict → (marks : List Bool) (tied : Option ℕ) →
    HasSpareLinks asking.problems.now.left.now marks tied → (place : ℕ) (loss : Loss) → place < length asking.scene.now.links.now →
    slice_index_or marks place false ≡ true → loss.down ≡ marked_down asking.scene.now.routers_down.now (slice_set asking.scene.now.links_down.now place true) →
    IsTried asking.problems.now.whole.now asking.asks.now loss (record { verdict = verdict; tied = tie_beside verdict tied })
is_known law asking is verdict keeps holds marks tied found place loss less marked down_is =
    let whole = asking.problems.now.whole.now in
    let left = asking.problems.now.left.now in
    let asks = asking.asks.now in
    let routers = asking.scene.now.routers_down.now in
    let links = asking.scene.now.links_down.now in
    let more = slice_set links place true in
    let down = marked_down routers links in
    let as_many = is.scene.each_link in
    let is_asked = asked_of_left whole left down down asks (question_left asking) is.scene.left refl in
    let told = tie_beside verdict tied in
    let stays = law left found.labels marks tied place (question_left asking) verdict found.are marked is_asked
    (kept_for whole.names down asks verdict keeps) holds in
    let without = also_without whole left stays.other routers links place (omega arith) is.scene.left stays.without in
    let many : count stays.other ≡ count left = ap (λ (ns : List ℕ). length ns) stays.without.numbers in
    let answer : IsAnswer stays.other (question_left asking) verdict told = record {
      is = stays.is;
      told = record {
        unasked = λ is_no. no_told verdict tied is_no;
        tieless = λ other none. record { found = stays.solution ∷ []; are = stays.all; holds = stays.holds (none_told verdict tied other none) };
        router = told_inside verdict tied (count stays.other) (subst (λ (n : ℕ). IfSome tied (λ u. u < n)) (sym many) found.are.router);
      };
    } in
    record {
      other = stays.other;
      without = subst (λ (d : Down). IsWithout whole d stays.other) (sym down_is) without;
      answer = subst (λ (d : Down). IsAnswer stays.other (question_for whole.names d asks) verdict told) (sym down_is)
          (subst (λ (q : Question). IsAnswer stays.other q verdict told) (same_question whole.names routers links more asks) answer);
    }
