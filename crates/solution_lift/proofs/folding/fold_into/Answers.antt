use Rattle.std.proofs.Common.{ℕ, List, sym, ◌∙◌}
use Rattle.solution_lift.proofs.Carries.{quotient_size, folding_of_routes, folding_of_costs, member_costs}
use Rattle.solution_lift.proofs.folding.fold_into.Goals as goal

pub fold_routes-requires-clause-can : goal.fold_routes-requires-clause-can
fold_routes-requires-clause-can c =
    record {
      problem_rules = c.count-known.ensures.rules;
      small_rules = c.count-also_known.ensures.rules;
      admissible = c.requires.groups;
      quotient = c.requires.quotient;
      protocol = sym c.in-Bgp.ensures;
      stable = c.requires.stable;
    }

pub fold_routes-requires-clause-size : goal.fold_routes-requires-clause-size
fold_routes-requires-clause-size c =
    quotient_size c.args.srp.now c.args.small.now c.args.p.now c.groups-count.result c.requires.groups c.requires.quotient c.groups-count.ensures

pub returns-in_ok-lower-in-Bgp : goal.returns-in_ok-lower-in-Bgp
returns-in_ok-lower-in-Bgp c =
    let S = c.args.srp.now in
    let Q = c.args.small.now in
    let groups : List ℕ = c.args.p.now in
    let labels = c.args.labels.now in
    let lower = c.in_ok-lower-in-Bgp.lower in
    let rules = c.count-known.ensures.rules in
    let small_rules = c.count-also_known.ensures.rules in
    let bgp = sym c.in-Bgp.ensures in
    let is = c.in_ok-lower-in-Bgp.ensures in
    folding_of_routes S Q groups labels lower bgp
    (c.folds.ensures.stable S Q groups labels lower rules small_rules c.requires.groups c.requires.quotient bgp c.requires.stable is)
    (c.folds.ensures.corresponds S Q groups labels lower rules small_rules c.requires.groups c.requires.quotient bgp c.requires.stable is)
    is

pub returns-in_ok-lower-in-Ospf : goal.returns-in_ok-lower-in-Ospf
returns-in_ok-lower-in-Ospf c =
    let S = c.args.srp.now in
    let Q = c.args.small.now in
    let groups : List ℕ = c.args.p.now in
    let labels = c.args.labels.now in
    let lower = c.in_ok-lower-in-Ospf.lower in
    let rules = c.count-known.ensures.rules in
    let small_rules = c.count-also_known.ensures.rules in
    let ospf = sym c.in-Ospf.ensures in
    let costs = member_costs S Q groups c.groups-count.result labels lower c.requires.groups c.groups-count.ensures ospf c.requires.stable
    (λ u v h k same. c.equal_keys.ensures S groups labels rules c.requires.groups c.requires.stable u v h k same) c.in_ok-lower-in-Ospf.ensures.costs in
    let total = c.in_ok-lower-in-Ospf.ensures.total ∙ sym (quotient_size S Q groups c.groups-count.result c.requires.groups c.requires.quotient
    c.groups-count.ensures) in
    folding_of_costs S Q groups labels lower ospf
    (c.ospf_folds.ensures.stable S Q groups labels lower rules small_rules c.requires.groups c.requires.quotient ospf c.requires.stable total costs)
    (c.ospf_folds.ensures.corresponds S Q groups labels lower rules small_rules c.requires.groups c.requires.quotient ospf c.requires.stable total costs)
    costs
