use Rattle.std.proofs.Common.{◌<◌, ℕ, List, sym, ◌∙◌, subst}
use Rattle.srp_core.specs.Problem.{count}
use Rattle.solution_lift.proofs.Carries.{lifting_of_routes, lifting_of_costs}
use Rattle.solution_lift.proofs.lifting.lift_from.Goals as goal

pub lift_routes-requires : goal.lift_routes-requires
lift_routes-requires c =
    record {
      problem_rules = c.count-routers.ensures.rules;
      small_rules = c.count-known.ensures.rules;
      admissible = c.requires.groups;
      quotient = c.requires.quotient;
      protocol = sym c.requires.quotient.protocol ∙ sym c.in-Bgp.ensures;
      stable = c.requires.stable;
    }

pub returns-in_ok-upper-in-Bgp : goal.returns-in_ok-upper-in-Bgp
returns-in_ok-upper-in-Bgp c =
    let S = c.args.srp.now in
    let Q = c.args.small.now in
    let groups : List ℕ = c.args.p.now in
    let lower = c.args.labels.now in
    let upper = c.in_ok-upper-in-Bgp.upper in
    let rules = c.count-routers.ensures.rules in
    let small_rules = c.count-known.ensures.rules in
    let bgp = sym c.in-Bgp.ensures in
    let small_bgp = sym c.requires.quotient.protocol ∙ bgp in
    let is = c.in_ok-upper-in-Bgp.ensures in
    lifting_of_routes S Q groups lower upper bgp
    (c.lifts.ensures.stable S Q groups upper lower rules small_rules c.requires.groups c.requires.quotient small_bgp c.requires.stable is)
    (c.lifts.ensures.corresponds S Q groups upper lower rules small_rules c.requires.groups c.requires.quotient small_bgp c.requires.stable is)
    is

pub returns-in_ok-upper-in-Ospf : goal.returns-in_ok-upper-in-Ospf
returns-in_ok-upper-in-Ospf c =
    let S = c.args.srp.now in
    let Q = c.args.small.now in
    let groups : List ℕ = c.args.p.now in
    let lower = c.args.labels.now in
    let upper = c.in_ok-upper-in-Ospf.upper in
    let rules = c.count-routers.ensures.rules in
    let small_rules = c.count-known.ensures.rules in
    let ospf = sym c.in-Ospf.ensures in
    let small_ospf = sym c.requires.quotient.protocol ∙ ospf in
    let costs = λ (u : ℕ) (h : u < count S). c.in_ok-upper-in-Ospf.ensures.costs u (subst (λ (n : ℕ). u < n) (sym c.count-routers.ensures.count) h) in
    let total = c.in_ok-upper-in-Ospf.ensures.total ∙ c.count-routers.ensures.count in
    lifting_of_costs S Q groups lower upper ospf
    (c.ospf_lifts.ensures.stable S Q groups upper lower rules small_rules c.requires.groups c.requires.quotient small_ospf c.requires.stable total costs)
    (c.ospf_lifts.ensures.corresponds S Q groups upper lower rules small_rules c.requires.groups c.requires.quotient small_ospf c.requires.stable total costs)
    costs
