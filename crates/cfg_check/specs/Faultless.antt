-- What it means, kind by kind, that a network has no fault of meaning.
use Rattle.std.specs.Prelude.{◌≡◌, []}
use Rattle.cfg_ast.specs.declared.network.Network.{Network}
use Rattle.cfg_ast.specs.meaning.PolicyFaults.{undefined_map_lines, undefined_list_lines, delete_list_lines, too_many_communities_lines, prepend_form_lines, prepend_in_lines}
use Rattle.cfg_ast.specs.meaning.RouterFaults.{shared_name_lines, shared_as_lines, internal_peer_lines, mixed_protocol_lines, other_area_lines, shared_address_lines, overlapping_lines, loopback_mask_lines, no_cost_lines, too_many_routers_lines, too_many_neighbors_lines, too_many_links_lines}

pub record IsFaultless (n : Network) : Type 0 where
  pub shared_name : shared_name_lines n ≡ []
  pub shared_as : shared_as_lines n ≡ []
  pub internal_peer : internal_peer_lines n ≡ []
  pub mixed_protocols : mixed_protocol_lines n ≡ []
  pub other_area : other_area_lines n ≡ []
  pub undefined_map : undefined_map_lines n ≡ []
  pub undefined_list : undefined_list_lines n ≡ []
  pub delete_list : delete_list_lines n ≡ []
  pub shared_address : shared_address_lines n ≡ []
  pub overlapping : overlapping_lines n ≡ []
  pub loopback_mask : loopback_mask_lines n ≡ []
  pub no_cost : no_cost_lines n ≡ []
  pub too_many_routers : too_many_routers_lines n ≡ []
  pub too_many_communities : too_many_communities_lines n ≡ []
  pub too_many_neighbors : too_many_neighbors_lines n ≡ []
  pub too_many_links : too_many_links_lines n ≡ []
  pub prepend_form : prepend_form_lines n ≡ []
  pub prepend_in : prepend_in_lines n ≡ []
