use Rattle.std.proofs.Common.{◌≡◌, ◌≢◌, nat_eq, sym, ap, ◌∙◌, subst, length, List, ℕ, Option, Some, false}
use Rattle.std.specs.Prelude.{MatchOption}
use Rattle.std.specs.HashSet.{contains}
use Rattle.srp_core.specs.declared.route.Candidate.{Candidate}
use Rattle.srp_core.specs.declared.route.Route.{Route}
use Rattle.route_run.specs.Activations.{chosen_of, is_still_best}
use Rattle.route_run.specs.Choices.{IsBestUpto}
use Rattle.route_run.proofs.BestChoices.{chosen_none, chosen_kept, best_taken}
use Rattle.route_run.proofs.choosing.choose.Goals as goal

pub returns-in-Some-label : goal.returns-in-Some-label
returns-in-Some-label c =
    let all = c.as_slice.result.now in
    let none : length all ≡ 0 = subst (λ (o : Option ℕ). MatchOption o (length all ≡ 0) (IsBestUpto (contains nat_eq c.args.lone.now) all (length all)))
    c.in-None.is c.in_ok-first_best.ensures in (
      chosen_none (contains nat_eq c.args.lone.now) c.args.candidates.items c.args.label.now (sym (ap length c.as_slice.ensures.value) ∙ none),
      (λ e. let some = c.in-Some-label.is in absurd cc),
    )

pub returns-in-None : goal.returns-in-None
returns-in-None c =
    let all = c.as_slice.result.now in
    let none : length all ≡ 0 = subst (λ (o : Option ℕ). MatchOption o (length all ≡ 0) (IsBestUpto (contains nat_eq c.args.lone.now) all (length all)))
    c.in-None.is c.in_ok-first_best.ensures in
    chosen_none (contains nat_eq c.args.lone.now) c.args.candidates.items c.args.label.now (sym (ap length c.as_slice.ensures.value) ∙ none)
    ∙ sym c.in-None-label.is

pub returns-then-branch : goal.returns-then-branch
returns-then-branch c =
    let kept = chosen_kept (contains nat_eq c.args.lone.now) _ c.args.label.now (sym c.in_ok-is_kept-in-Some.ensures ∙ c.if-branch.true) in
    let same = c.as_slice-in-Some.ensures.value in
    cc

pub returns : goal.returns
returns c =
    let test = contains nat_eq c.args.lone.now in
    let all = c.args.candidates.items in
    let first = c.as_slice.result.now in
    let found : IsBestUpto test first (length first) c.in-Some.best =
    subst (λ (o : Option ℕ). MatchOption o (length first ≡ 0) (IsBestUpto test first (length first))) c.in-Some.is c.in_ok-first_best.ensures in
    let best : IsBestUpto test all (length all) c.in-Some.best =
    subst (λ (l : List Candidate). IsBestUpto test l (length l) c.in-Some.best) c.as_slice.ensures.value found in
    let other = sym c.in_ok-is_kept-in-Some.ensures ∙ c.if-branch.false in
    let kept : is_still_best test c.args.candidates.items c.args.label.now ≡ false = (let same = c.as_slice-in-Some.ensures.value in cc) in
    let candidate = c.swap_remove-candidate.result in
    subst (λ (r : Route). (chosen_of test all c.args.label.now ≡ Some r) × (Some r ≢ c.args.label.now)) (sym c.into_route.ensures)
    (best_taken test all c.in-Some.best best c.args.label.now candidate kept c.swap_remove-candidate.ensures.value)
