-- If a network has no fault of meaning, a network that is the same except for line numbers has none
-- either.
use Rattle.std.proofs.Common.{◌≡◌, ◌≤◌, ℕ, List, [], length, sym, ap, subst, ◌∙◌}
use Rattle.cfg_ast.specs.declared.network.Network.{Network}
use Rattle.cfg_ast.specs.meaning.PolicyFaults.{communities_of, undefined_map_lines, undefined_list_lines, delete_list_lines, prepend_form_lines, prepend_in_lines}
use Rattle.cfg_ast.specs.meaning.RouterFaults.{shared_name_lines, shared_as_lines, internal_peer_lines, other_area_lines, shared_address_lines, overlapping_lines, loopback_mask_lines, no_cost_lines, too_many_routers_lines, too_many_neighbors_lines, too_many_links_lines}
use Rattle.cfg_ast.specs.printing.Bare.{bare}
use Rattle.cfg_check.specs.Faultless.{IsFaultless}
use Rattle.cfg_check.specs.Laws.{FewCommunities}
use Rattle.line_number_laws.specs.Laws.{FaultsAside}
use Rattle.line_number_laws.proofs.Communities.{communities_aside, few_are_no_fault}
use Rattle.line_number_laws.proofs.PolicyLines.{undefined_map_bare, undefined_list_bare, delete_list_bare, prepend_form_bare, prepend_in_bare}
use Rattle.line_number_laws.proofs.Protocols.{mixed_aside}
use Rattle.line_number_laws.proofs.RouterLines.{no_items, at_zero, shared_name_bare, shared_as_bare, internal_peer_bare, other_area_bare, shared_address_bare, overlapping_bare, loopback_mask_bare, no_cost_bare, too_many_routers_bare, too_many_neighbors_bare, too_many_links_bare}

-- lines that are as many in the network without numbers
carried : (lines : Network → List ℕ) → ((n : Network) → lines (bare n) ≡ at_zero (lines n)) → (m n : Network) → bare m ≡ bare n → lines n ≡ [] → lines m ≡ []
carried lines zero m n same none = no_items (λ line. 0) (lines m) (sym (zero m) ∙ ap lines same ∙ zero n ∙ ap at_zero none)

with_few : (m n : Network) → bare m ≡ bare n → length (communities_of n) ≤ 1024 → IsFaultless n → IsFaultless m
with_few m n same few ok = record {
  shared_name = carried shared_name_lines shared_name_bare m n same ok.shared_name;
  shared_as = carried shared_as_lines shared_as_bare m n same ok.shared_as;
  internal_peer = carried internal_peer_lines internal_peer_bare m n same ok.internal_peer;
  mixed_protocols = mixed_aside m n same ok.mixed_protocols;
  other_area = carried other_area_lines other_area_bare m n same ok.other_area;
  undefined_map = carried undefined_map_lines undefined_map_bare m n same ok.undefined_map;
  undefined_list = carried undefined_list_lines undefined_list_bare m n same ok.undefined_list;
  delete_list = carried delete_list_lines delete_list_bare m n same ok.delete_list;
  shared_address = carried shared_address_lines shared_address_bare m n same ok.shared_address;
  overlapping = carried overlapping_lines overlapping_bare m n same ok.overlapping;
  loopback_mask = carried loopback_mask_lines loopback_mask_bare m n same ok.loopback_mask;
  no_cost = carried no_cost_lines no_cost_bare m n same ok.no_cost;
  too_many_routers = carried too_many_routers_lines too_many_routers_bare m n same ok.too_many_routers;
  too_many_communities = few_are_no_fault m (let P : List ℕ → Type 0 = λ cs. length cs ≤ 1024 in subst P (sym (communities_aside m n same)) few);
  too_many_neighbors = carried too_many_neighbors_lines too_many_neighbors_bare m n same ok.too_many_neighbors;
  too_many_links = carried too_many_links_lines too_many_links_bare m n same ok.too_many_links;
  prepend_form = carried prepend_form_lines prepend_form_bare m n same ok.prepend_form;
  prepend_in = carried prepend_in_lines prepend_in_bare m n same ok.prepend_in;
}

pub aside : FewCommunities → FaultsAside
aside few_communities m n same ok = with_few m n same (few_communities n ok) ok
