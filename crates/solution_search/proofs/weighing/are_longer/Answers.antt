use Rattle.std.proofs.Common.{◌+◌, ◌<◌, ◌≤◌, length, ap, sym, ◌∙◌, subst, arith}
use Rattle.std.proofs.lemmas.Bool.{leb-true, ltb-true}
use Rattle.srp_core.specs.declared.route.Act.{Act}
use Rattle.srp_core.specs.declared.route.Act.TheVariants.{Import, Cost}
use Rattle.srp_core.specs.declared.route.Route.{Route}
use Rattle.shared_routes.specs.Parts.{route_of}
use Rattle.solution_search.specs.Weighing.{AreLonger}
use Rattle.solution_search.proofs.Weighed.{import_are_longer, cost_are_longer}
use Rattle.solution_search.proofs.weighing.are_longer.Goals as goal

pub returns-in-Import-Bgp : goal.returns-in-Import-Bgp
returns-in-Import-Bgp c = λ t.
    let m = c.in-Import-Bgp in
    let len = c.len.ensures in
    let h : c.args.size ≤ length m.path = (let le = leb-true c.args.size c.len.result t in omega (arith, le, len)) in
    subst (λ (a : Act). AreLonger a c.args.from.now c.args.size) (sym m.is-0)
    (subst (λ (r : Route). AreLonger (Import m.out-0 m.sends-0 m.into-0) r c.args.size) (ap route_of (sym m.is-1) ∙ c.parts.ensures)
    (import_are_longer m.out-0 m.sends-0 m.into-0 m.lp-1 m.path m.comms-1 c.args.size h))

pub returns-in-Cost-Ospf : goal.returns-in-Cost-Ospf
returns-in-Cost-Ospf c = λ t.
    let m = c.in-Cost-Ospf in
    let a = c.from.ensures in
    let b = c.from-in-Cost-Ospf.ensures in
    let h : c.args.size < m.cost + m.other = (let lt = ltb-true c.args.size (c.from.result + c.from-in-Cost-Ospf.result) t in omega (arith, lt, a, b)) in
    subst (λ (a : Act). AreLonger a c.args.from.now c.args.size) (sym m.is-0)
    (subst (λ (r : Route). AreLonger (Cost m.cost) r c.args.size) (ap route_of (sym m.is-1) ∙ c.parts.ensures) (cost_are_longer m.cost m.other c.args.size h))
