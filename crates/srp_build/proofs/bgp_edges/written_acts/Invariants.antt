use Rattle.std.proofs.Common.{◌≡◌, ◌++◌, drop, map}
use Rattle.srp_build.specs.declared.acts.BgpAct.{BgpAct}
use Rattle.srp_build.specs.Lines.{act_of_hop}
use Rattle.srp_build.proofs.bgp_edges.written_acts.Given as goal

abbrev pub invariant-loop-act : goal.invariant-loop-act
invariant-loop-act l = l.written ++ map (λ (act : BgpAct). act_of_hop l.p l.routers act.first) (drop l.act-index l.acts) ≡ map
    (λ (act : BgpAct). act_of_hop l.p l.routers act.first) l.acts
