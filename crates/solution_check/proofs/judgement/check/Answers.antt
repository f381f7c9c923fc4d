use Rattle.std.proofs.Common.{◌≡◌, ℕ, sym, subst, arith, inl, inr, Option, MatchOption}
use Rattle.std.proofs.lemmas.Bool.{cases_lt}
use Rattle.srp_core.specs.Problem.{AreOrdered}
use Rattle.solution_check.specs.Breaks.{HoldsBest, BreaksBy}
use Rattle.route_offers.proofs.OwnEdges.{Stand, passed_more, left_more, own_are}
use Rattle.solution_check.proofs.Judged.{all_hold}
use Rattle.solution_check.proofs.judgement.check.Goals as goal

pub judge-requires-clause-own : goal.judge-requires-clause-own
judge-requires-clause-own c =
    let P = c.args.srp.now in
    let edges = c.edges-edges.result.now in
    let rules = c.count-router-end.ensures.rules in
    let up = subst AreOrdered (sym c.edges-edges.ensures) rules.edges.ordered in
    let stand : Stand edges c.loop-router.router c.loop-router.first c.end_of-end.result = record {
      forward = c.end_of-end.ensures.bounds.0;
      inside = c.end_of-end.ensures.bounds.1;
      passed = c.loop-router.invariant.passed;
      left = c.loop-router.invariant.left;
      own = c.end_of-end.ensures.own;
      other = c.end_of-end.ensures.other;
    } in
    own_are P edges c.loop-router.router c.loop-router.first c.end_of-end.result c.edges-edges.ensures up stand

pub loop-router-preserved : goal.loop-router-preserved
loop-router-preserved c =
    let P = c.args.srp.now in
    let edges = c.edges-edges.result.now in
    let rules = c.count-router-end.ensures.rules in
    let up = subst AreOrdered (sym c.edges-edges.ensures) rules.edges.ordered in
    let stand : Stand edges c.loop-router.router c.loop-router.first c.end_of-end.result = record {
      forward = c.end_of-end.ensures.bounds.0;
      inside = c.end_of-end.ensures.bounds.1;
      passed = c.loop-router.invariant.passed;
      left = c.loop-router.invariant.left;
      own = c.end_of-end.ensures.own;
      other = c.end_of-end.ensures.other;
    } in
    let here : HoldsBest P c.args.labels.now c.loop-router.router =
    subst (λ (why : Option ℕ). MatchOption why (HoldsBest P c.args.labels.now c.loop-router.router) (BreaksBy P c.args.labels.now c.loop-router.router))
    c.in-None.is c.in_ok-why.ensures in
    record {
      inside = c.end_of-end.ensures.bounds.1;
      passed = passed_more edges c.loop-router.router c.loop-router.first c.end_of-end.result stand;
      left = left_more edges c.loop-router.router c.loop-router.first c.end_of-end.result up stand;
      before = λ v lt. elim (cases_lt v c.loop-router.router) [
        | inl less ↦ c.loop-router.invariant.before v less
        | inr le ↦ (let same : c.loop-router.router ≡ v = omega arith in subst (HoldsBest P c.args.labels.now) same here)
      ];
    }

pub returns : goal.returns
returns c = all_hold c.args.srp.now c.args.labels.now c.requires
    (λ v lt. c.loop-router.invariant.before v (omega (arith, lt, c.loop-router-test.false, c.count-router-end.ensures.count)))
