-- The heads of the lines that are printed.
use Rattle.std.proofs.Common.{◌≡◌, ℕ, false, List, [], ◌∷◌, Some, refl}
use Rattle.std.specs.Prelude.{codes, bytes_eq, is_some}
use Rattle.cfg_ast.specs.declared.items.Scope.{Scope}
use Rattle.cfg_ast.specs.declared.items.Scope.TheVariants as scope
use Rattle.cfg_ast.specs.declared.items.PolicyScope.{PolicyScope}
use Rattle.cfg_ast.specs.declared.items.PolicyScope.TheVariants as policy_scope
use Rattle.cfg_ast.specs.declared.heads.HeadClass.TheVariants.{Router, Policy}
use Rattle.cfg_ast.specs.declared.heads.RouterForm.{RouterForm}
use Rattle.cfg_ast.specs.declared.heads.RouterForm.TheVariants as form
use Rattle.cfg_ast.specs.declared.heads.PolicyForm.{PolicyForm}
use Rattle.cfg_ast.specs.declared.heads.PolicyForm.TheVariants as policy_form
use Rattle.cfg_ast.specs.text.Words.{number_word, number_between}
use Rattle.cfg_ast.specs.text.Heads.{class_in, top_heads, interface_heads, bgp_heads, ospf_heads, entry_heads, heads_of, policy_heads_of}
use Rattle.cfg_ast.specs.text.Lines.{words_of}

abbrev pub IsHeadOf : Scope → RouterForm → List (List ℕ) → Type 0
IsHeadOf s f words = class_in (heads_of s) words ≡ Some (Router f)

abbrev pub IsPolicyHeadOf : PolicyScope → PolicyForm → List (List ℕ) → Type 0
IsPolicyHeadOf s f words = class_in (policy_heads_of s) words ≡ Some (Policy f)

-- ---- top lines

pub hostname_head : (rest : List (List ℕ)) → IsHeadOf scope.Top form.Hostname (codes "hostname" ∷ rest)
unfolding heads_of top_heads words_of
hostname_head rest = refl

pub interface_head : (rest : List (List ℕ)) → IsHeadOf scope.Top form.Interface (codes "interface" ∷ rest)
unfolding heads_of top_heads words_of
interface_head rest = refl

pub bgp_head : (rest : List (List ℕ)) → IsHeadOf scope.Top form.Bgp (codes "router" ∷ codes "bgp" ∷ rest)
unfolding heads_of top_heads words_of
bgp_head rest = refl

pub ospf_head : (rest : List (List ℕ)) → IsHeadOf scope.Top form.Ospf (codes "router" ∷ codes "ospf" ∷ rest)
unfolding heads_of top_heads words_of
ospf_head rest = refl

pub end_head : IsHeadOf scope.Top form.End (codes "end" ∷ [])
unfolding heads_of top_heads words_of
end_head = refl

pub prefix_list_head : (name : List ℕ) (rest : List (List ℕ))
    → IsPolicyHeadOf policy_scope.Top policy_form.PrefixEntry (codes "ip" ∷ codes "prefix-list" ∷ name ∷ codes "seq" ∷ rest)
unfolding policy_heads_of top_heads words_of
prefix_list_head name rest = refl

pub standard_head : (rest : List (List ℕ)) → IsPolicyHeadOf policy_scope.Top policy_form.CommunityLine
    (codes "ip" ∷ codes "community-list" ∷ codes "standard" ∷ rest)
unfolding policy_heads_of top_heads number_between number_word words_of
standard_head rest = refl

pub numbered_head : (name : List ℕ) (rest : List (List ℕ)) → bytes_eq (codes "expanded") name ≡ false → is_some (number_between 100 500 name) ≡ false
    → IsPolicyHeadOf policy_scope.Top policy_form.CommunityLine (codes "ip" ∷ codes "community-list" ∷ name ∷ rest)
unfolding policy_heads_of top_heads words_of
numbered_head name rest other small = rw (other, small) refl

pub map_head : (rest : List (List ℕ)) → IsPolicyHeadOf policy_scope.Top policy_form.MapHead (codes "route-map" ∷ rest)
unfolding policy_heads_of top_heads words_of
map_head rest = refl

-- ---- lines of an interface

pub address_head : (rest : List (List ℕ)) → IsHeadOf scope.Interface form.IpAddress (codes "ip" ∷ codes "address" ∷ rest)
unfolding heads_of interface_heads words_of
address_head rest = refl

pub cost_head : (rest : List (List ℕ)) → IsHeadOf scope.Interface form.Cost (codes "ip" ∷ codes "ospf" ∷ codes "cost" ∷ rest)
unfolding heads_of interface_heads words_of
cost_head rest = refl

pub shutdown_head : IsHeadOf scope.Interface form.Shutdown (codes "shutdown" ∷ [])
unfolding heads_of interface_heads words_of
shutdown_head = refl

-- ---- lines of a BGP process

pub base_head : (rest : List (List ℕ)) → IsHeadOf scope.Bgp form.Base (codes "bgp" ∷ codes "default" ∷ codes "local-preference" ∷ rest)
unfolding heads_of bgp_heads words_of
base_head rest = refl

pub network_head : (rest : List (List ℕ)) → IsHeadOf scope.Bgp form.Network (codes "network" ∷ rest)
unfolding heads_of bgp_heads words_of
network_head rest = refl

pub remote_as_head : (address : List ℕ) (rest : List (List ℕ)) → IsHeadOf scope.Bgp form.RemoteAs (codes "neighbor" ∷ address ∷ codes "remote-as" ∷ rest)
unfolding heads_of bgp_heads words_of
remote_as_head address rest = refl

pub peer_shut_head : (address : List ℕ) (rest : List (List ℕ)) → IsHeadOf scope.Bgp form.PeerShut (codes "neighbor" ∷ address ∷ codes "shutdown" ∷ rest)
unfolding heads_of bgp_heads words_of
peer_shut_head address rest = refl

pub peer_sends_head : (address : List ℕ) → IsHeadOf scope.Bgp form.PeerSends (codes "neighbor" ∷ address ∷ codes "send-community" ∷ [])
unfolding heads_of bgp_heads words_of
peer_sends_head address = refl

pub peer_list_head : (address : List ℕ) (rest : List (List ℕ)) → IsHeadOf scope.Bgp form.PeerList (codes "neighbor" ∷ address ∷ codes "prefix-list" ∷ rest)
unfolding heads_of bgp_heads words_of
peer_list_head address rest = refl

pub peer_map_head : (address : List ℕ) (rest : List (List ℕ)) → IsHeadOf scope.Bgp form.PeerMap (codes "neighbor" ∷ address ∷ codes "route-map" ∷ rest)
unfolding heads_of bgp_heads words_of
peer_map_head address rest = refl

-- ---- lines of an OSPF process

pub area_head : (rest : List (List ℕ)) → IsHeadOf scope.Ospf form.Area (codes "network" ∷ rest)
unfolding heads_of ospf_heads words_of
area_head rest = refl

pub passive_head : (rest : List (List ℕ)) → IsHeadOf scope.Ospf form.Passive (codes "passive-interface" ∷ rest)
unfolding heads_of ospf_heads words_of
passive_head rest = refl

pub not_passive_head : (rest : List (List ℕ)) → IsHeadOf scope.Ospf form.NotPassive (codes "no" ∷ codes "passive-interface" ∷ rest)
unfolding heads_of ospf_heads words_of
not_passive_head rest = refl

-- ---- lines of an entry of a route map

pub match_prefixes_head : (rest : List (List ℕ)) → IsPolicyHeadOf policy_scope.Entry policy_form.MatchPrefixes
    (codes "match" ∷ codes "ip" ∷ codes "address" ∷ codes "prefix-list" ∷ rest)
unfolding policy_heads_of entry_heads words_of
match_prefixes_head rest = refl

pub match_comms_head : (rest : List (List ℕ)) → IsPolicyHeadOf policy_scope.Entry policy_form.MatchComms (codes "match" ∷ codes "community" ∷ rest)
unfolding policy_heads_of entry_heads words_of
match_comms_head rest = refl

pub lp_head : (rest : List (List ℕ)) → IsPolicyHeadOf policy_scope.Entry policy_form.Lp (codes "set" ∷ codes "local-preference" ∷ rest)
unfolding policy_heads_of entry_heads words_of
lp_head rest = refl

pub comms_head : (rest : List (List ℕ)) → IsPolicyHeadOf policy_scope.Entry policy_form.Comms (codes "set" ∷ codes "community" ∷ rest)
unfolding policy_heads_of entry_heads words_of
comms_head rest = refl

pub delete_head : (rest : List (List ℕ)) → IsPolicyHeadOf policy_scope.Entry policy_form.Delete (codes "set" ∷ codes "comm-list" ∷ rest)
unfolding policy_heads_of entry_heads words_of
delete_head rest = refl

pub prepend_head : (rest : List (List ℕ)) → IsPolicyHeadOf policy_scope.Entry policy_form.Prepend (codes "set" ∷ codes "as-path" ∷ codes "prepend" ∷ rest)
unfolding policy_heads_of entry_heads words_of
prepend_head rest = refl
