use Rattle.std.proofs.Common.{◌≡◌, ◌≢◌, true, List, ap, sym, ◌∙◌, arith, nat_eq}
use Rattle.std.specs.HashSet.{contains}
use Rattle.base_kit.specs.declared.act_graph.Edge.{Edge}
use Rattle.srp_core.specs.declared.route.Candidate.{Candidate}
use Rattle.srp_core.specs.Problem.{is_lone_number, key_of}
use Rattle.srp_core.specs.Routes.{IsRouteOf}
use Rattle.solution_lift.specs.Sides.{is_from}
use Rattle.solution_lift.proofs.Fitting.{fit_has_key, unfit_has_other_key}
use Rattle.solution_lift.proofs.Takings.{takes_first, takes_none, get_is, none_more, each_of}
use Rattle.solution_lift.proofs.next.taken.Goals as goal

pub returns-then-is_fit : goal.returns-then-is_fit
returns-then-is_fit c =
    let list = c.as_slice-candidate-items.result.now in
    let i = c.loop-candidate.candidate-index in
    let d = c.candidate-item.result in
    let P = c.args.target.now in
    let E = c.edges-edges.result.now in
    let fit = fit_has_key (is_lone_number P) (contains nat_eq c.args.lone.now) c.requires.lone (is_from E c.args.sides.now c.args.source d) d.route
    c.args.asked.now c.in_ok-wanted.wanted c.in_ok-wanted.ensures c.in_ok-is_fit.is_fit c.in_ok-is_fit.ensures c.if-is_fit.true in
    takes_first P c.args.labels.now c.args.router c.args.sides.now c.args.source (key_of P c.args.asked.now) list
    (c.as_slice-candidate-items.ensures.value ∙ c.in_ok-candidates.ensures.list) c.count-known.ensures.rules.edges.ordered i d _
    (get_is list i d c.loop-candidate-test.true c.candidate-item.is)
    (ap (λ (edges : List Edge). is_from edges c.args.sides.now c.args.source d) (sym c.edges-edges.ensures) ∙ fit.0) fit.1
    (c.in_ok-copy.ensures ∙ c.route.ensures)
    c.loop-candidate.invariant

pub loop-candidate-preserved : goal.loop-candidate-preserved
loop-candidate-preserved c =
    let list = c.as_slice-candidate-items.result.now in
    let i = c.loop-candidate.candidate-index in
    let d = c.candidate-item.result in
    let P = c.args.target.now in
    let E = c.edges-edges.result.now in
    let at = get_is list i d c.loop-candidate-test.true c.candidate-item.is in
    let routes = c.in_ok-candidates.ensures.routes in
    none_more (λ k (d : Candidate). is_from P.edges c.args.sides.now c.args.source d ≡ true → key_of P d.route ≢ key_of P c.args.asked.now) list i d at
    c.loop-candidate.invariant
    (λ from.
    unfit_has_other_key (is_lone_number P) (contains nat_eq c.args.lone.now) c.requires.lone (is_from E c.args.sides.now c.args.source d) d.route
    c.args.asked.now c.in_ok-wanted.wanted c.in_ok-wanted.ensures P.protocol
    (each_of (λ (k : Candidate). IsRouteOf P.protocol k.route) c.in_ok-candidates.candidates.items list c.as_slice-candidate-items.ensures.value routes i d at)
    c.requires.asked c.in_ok-is_fit.is_fit c.in_ok-is_fit.ensures c.if-is_fit.false
    (ap (λ (edges : List Edge). is_from edges c.args.sides.now c.args.source d) c.edges-edges.ensures ∙ from))

pub returns : goal.returns
returns c =
    takes_none c.args.target.now c.args.labels.now c.args.router c.args.sides.now c.args.source (key_of c.args.target.now c.args.asked.now)
    c.as_slice-candidate-items.result.now
    (c.as_slice-candidate-items.ensures.value ∙ c.in_ok-candidates.ensures.list)
    (λ k d less g. c.loop-candidate.invariant k d (let past = c.loop-candidate-test.false in omega arith) g)
