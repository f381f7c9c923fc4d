use Rattle.std.proofs.Common.{◌∙◌, List, ap}
use Rattle.cfg_ast.specs.declared.network.Network.{Network}
use Rattle.cfg_ast.specs.declared.network.Router.{Router}
use Rattle.config_emit.specs.Emitted.{emitted}
use Rattle.config_emit.specs.Sources.{plan_of}
use Rattle.config_emit.proofs.JoinedGroups.{act_links_few, act_links_join}
use Rattle.config_emit.proofs.network.network_of.Goals as goal

pub by_group-requires-clause-few : goal.by_group-requires-clause-few
by_group-requires-clause-few c =
    let e = plan_of c.args.source.now in
    act_links_few e.problem.protocol e.problem.edges e.links c.deref.result.now (c.deref.ensures.value ∙ c.in_ok-links.ensures) c.requires.source.few

pub by_group-requires-clause-ends : goal.by_group-requires-clause-ends
by_group-requires-clause-ends c =
    let e = plan_of c.args.source.now in
    act_links_join e.problem.protocol e.problem.edges e.links c.deref.result.now e.count (c.deref.ensures.value ∙ c.in_ok-links.ensures) c.requires.source.ends

pub returns : goal.returns
unfolding emitted
returns c =
    let of : List Router → Network = λ rs. record { routers = rs } in
    ap of c.in_ok-routers.ensures
