-- The links of the groups are no more than those of the network read.
use Rattle.std.proofs.Common.{◌≤◌, length, arith}
use Rattle.cfg_ast.specs.meaning.Topology.{links_of}
use Rattle.abstract_net.specs.Links.{NoMoreLinks}
use Rattle.net_topology.specs.Laws.{FewLinks}
use Rattle.config_emit.specs.Laws.{IsPlan}
use Rattle.config_emit.specs.Plan.{Plan}
use Rattle.config_emit.proofs.FewLinks as links
use Rattle.emit_form_laws.specs.Laws.{GroupsHaveNoMoreLinks, GroupsHaveFewLinks}
use Rattle.emit_form_laws.proofs.Groups.{problem_of}

pub no_more_links : NoMoreLinks → (e : Plan) → IsPlan e → length e.links ≤ length (links_of e.network)
no_more_links law e plan = let stands = problem_of e plan in links.no_more_links law e stands.prefix stands.of plan.links

pub few : GroupsHaveNoMoreLinks → FewLinks → GroupsHaveFewLinks
few no_more law e plan = let less = no_more e plan in let most = law e.network plan.well_formed plan.faultless in omega arith
