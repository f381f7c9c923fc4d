use Rattle.std.proofs.Common.{◌∷◌, [], sym, subst, arith, length-append, ap, length, List, ℕ}
use Rattle.srp_core.specs.Problem.{AreOrdered}
use Rattle.route_offers.proofs.OwnEdges.{Stand, passed_more, left_more, own_are}
use Rattle.srp_questions.specs.NextHops.{AreNextOf}
use Rattle.srp_questions.proofs.Exporters.{own_rise, list_more}
use Rattle.srp_questions.proofs.forwarding.hops_under.Goals as goal

pub next_of-requires-clause-own : goal.next_of-requires-clause-own
next_of-requires-clause-own c =
    let P = c.args.srp.now in
    let edges = c.edges-edges.result.now in
    let rules = c.count-router-end.ensures.rules in
    let up = subst AreOrdered (sym c.edges-edges.ensures) rules.edges.ordered in
    let stand : Stand edges c.loop-router.router c.loop-router.first c.end_of-end.result = record {
      forward = c.end_of-end.ensures.bounds.0;
      inside = c.end_of-end.ensures.bounds.1;
      passed = c.loop-router.invariant.passed;
      left = c.loop-router.invariant.left;
      own = c.end_of-end.ensures.own;
      other = c.end_of-end.ensures.other;
    } in
    own_are P edges c.loop-router.router c.loop-router.first c.end_of-end.result c.edges-edges.ensures up stand

pub next_of-requires-clause-rising : goal.next_of-requires-clause-rising
next_of-requires-clause-rising c =
    own_rise c.edges-edges.result.now c.loop-router.router c.loop-router.first c.end_of-end.result
    (subst AreOrdered (sym c.edges-edges.ensures) c.count-router-end.ensures.rules.edges.ordered) c.end_of-end.ensures.bounds.0 c.end_of-end.ensures.bounds.1
    c.end_of-end.ensures.own

pub loop-router-preserved : goal.loop-router-preserved
loop-router-preserved c =
    let edges = c.edges-edges.result.now in
    let up = subst AreOrdered (sym c.edges-edges.ensures) c.count-router-end.ensures.rules.edges.ordered in
    let stand : Stand edges c.loop-router.router c.loop-router.first c.end_of-end.result = record {
      forward = c.end_of-end.ensures.bounds.0;
      inside = c.end_of-end.ensures.bounds.1;
      passed = c.loop-router.invariant.passed;
      left = c.loop-router.invariant.left;
      own = c.end_of-end.ensures.own;
      other = c.end_of-end.ensures.other;
    } in
    let longer = ap (λ (l : List (List ℕ)). length l) c.in_ok-push.ensures.ok in
    let total = length-append c.loop-router.hops (c.in_ok-next.next ∷ []) in
    let before = c.loop-router.invariant.total in
    record {
      inside = c.end_of-end.ensures.bounds.1;
      passed = passed_more edges c.loop-router.router c.loop-router.first c.end_of-end.result stand;
      left = left_more edges c.loop-router.router c.loop-router.first c.end_of-end.result up stand;
      total = omega (arith, longer, total, before);
      each = list_more (AreNextOf c.args.srp.now c.args.labels.now) c.loop-router.router c.loop-router.hops c.push.new.self c.in_ok-next.next before
          c.in_ok-push.ensures.ok c.loop-router.invariant.each c.in_ok-next.ensures;
    }
