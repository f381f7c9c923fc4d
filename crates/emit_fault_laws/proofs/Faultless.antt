-- No fault of meaning stands in the network of the groups, kind by kind.
use Rattle.cfg_check.specs.Faultless.{IsFaultless}
use Rattle.cfg_check.specs.Laws.{FewCommunities}
use Rattle.abstract_net.specs.Links.{QuotientCarries}
use Rattle.line_number_laws.specs.Laws.{FewCommunitiesPass}
use Rattle.net_topology.specs.Laws.{FewSessions}
use Rattle.config_emit.specs.Emitted.{emitted}
use Rattle.config_emit.specs.Laws.{IsPlan}
use Rattle.config_emit.specs.Plan.{Plan}
use Rattle.emit_fault_laws.proofs.Addresses.{no_overlapping, no_shared_address}
use Rattle.emit_fault_laws.proofs.Apart.{no_shared_name, no_shared_as, no_internal_peer}
use Rattle.emit_fault_laws.proofs.Communities.{few_communities}
use Rattle.emit_fault_laws.proofs.Costs.{no_wide_loopback, none_without_cost}
use Rattle.emit_fault_laws.proofs.Counts.{no_more_routers, no_more_neighbors}
use Rattle.emit_fault_laws.proofs.Deletions.{no_wide_deletion}
use Rattle.emit_fault_laws.proofs.Limits.{bgp_links_few, no_more_links}
use Rattle.emit_fault_laws.proofs.Policies.{no_undefined_map, no_undefined_list}
use Rattle.emit_fault_laws.proofs.Prepends.{no_foreign_prepend, none_inbound}
use Rattle.emit_fault_laws.proofs.Processes.{no_mixed_protocols, no_other_area}
use Rattle.emit_form_laws.specs.Laws.{GroupsAreNoMore, GroupsHaveNoMoreLinks, GroupsHaveFewLinks}

-- the laws below on which the proof depends
pub record HasLaws : Type 0 where
  pub carries : QuotientCarries
  pub no_more_groups : GroupsAreNoMore
  pub no_more_links : GroupsHaveNoMoreLinks
  pub few_links : GroupsHaveFewLinks
  pub few_sessions : FewSessions
  pub few_communities : FewCommunities
  pub communities_pass : FewCommunitiesPass

pub faultless : HasLaws → (e : Plan) → IsPlan e → IsFaultless (emitted e)
faultless laws e plan =
    let few = laws.few_links e plan in
    record {
      shared_name = no_shared_name e plan;
      shared_as = no_shared_as e plan;
      internal_peer = no_internal_peer e plan laws.carries;
      mixed_protocols = no_mixed_protocols e;
      other_area = no_other_area e;
      undefined_map = no_undefined_map e;
      undefined_list = no_undefined_list e;
      delete_list = no_wide_deletion e plan few;
      shared_address = no_shared_address e plan few;
      overlapping = no_overlapping e plan few;
      loopback_mask = no_wide_loopback e plan;
      no_cost = none_without_cost e plan;
      too_many_routers = no_more_routers laws.no_more_groups e plan;
      too_many_communities = laws.communities_pass (emitted e) (few_communities laws.few_communities e plan few);
      too_many_neighbors = no_more_neighbors e (bgp_links_few laws.no_more_links laws.few_sessions e plan);
      too_many_links = no_more_links laws.few_links e plan;
      prepend_form = no_foreign_prepend e plan laws.carries few;
      prepend_in = none_inbound e plan few;
    }
