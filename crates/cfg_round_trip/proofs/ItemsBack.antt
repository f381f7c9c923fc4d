-- What a printed router line says.
use Rattle.std.proofs.Common.{◌≡◌, ℕ, Bool, true, false, List, [], ◌∷◌, Option, Some, Result, Ok, refl, sym, ap, ◌∙◌, arith, inl, inr}
use Rattle.std.specs.Prelude.{codes, bytes_eq, if◌then◌else◌}
use Rattle.std.specs.Fmt.{decimal}
use Rattle.std.proofs.lemmas.Bool.{eq-eqb, cases_Bool}
use Rattle.std.proofs.lemmas.Slice.Eq.{bytes_eq-Decides}
use Rattle.base_kit.specs.Prefixes.{Prefix}
use Rattle.cfg_ast.specs.meaning.Addresses.{Address}
use Rattle.cfg_ast.specs.declared.network.Named.{Named}
use Rattle.cfg_ast.specs.declared.bgp.Base.{Base}
use Rattle.cfg_ast.specs.declared.bgp.NetLine.{NetLine}
use Rattle.cfg_ast.specs.declared.ospf.AreaLine.{AreaLine}
use Rattle.cfg_ast.specs.declared.heads.HeadClass.{HeadClass}
use Rattle.cfg_ast.specs.declared.heads.RouterForm.{RouterForm}
use Rattle.cfg_ast.specs.declared.heads.RouterForm.TheVariants as form
use Rattle.cfg_ast.specs.declared.items.Scope.{Scope}
use Rattle.cfg_ast.specs.declared.items.Scope.TheVariants as scope
use Rattle.cfg_ast.specs.declared.items.RouterItem.{RouterItem}
use Rattle.cfg_ast.specs.declared.items.RouterItem.TheVariants as item
use Rattle.cfg_ast.specs.declared.refusal.FormFault.{FormFault}
use Rattle.cfg_ast.specs.text.Words.{is_router_name, is_interface_name, exact_prefix, bits_behind, mask_of}
use Rattle.cfg_ast.specs.text.FormSteps.{named_of}
use Rattle.cfg_ast.specs.text.RouterForms.{net_line, is_inward, peer_item, area_word, router_form, router_item_by, router_item_of}
use Rattle.cfg_ast.specs.printing.Printed.{address_text, ip_address_line, cost_line, shutdown_line, base_line, network_line, remote_line, peer_shut_line, peer_sends_line, applied_line, passive_default_line, passive_line, not_passive_line, network_area_line}
use Rattle.cfg_ast.specs.printing.Bare.{bare_named, bare_address, bare_base, bare_net, bare_area}
use Rattle.cfg_ast.specs.printing.WellFormed.{IsBetween, IsNumber, IsInterfaceName, IsWellFormedAddress, IsWellFormedNetLine, IsWellFormedNamed, IsWellFormedArea}
use Rattle.cfg_round_trip.proofs.WordsBack.{number_back, between_back, as_number_back, address_back, mask_back}
use Rattle.cfg_round_trip.proofs.HeadsBack.{IsHeadOf, hostname_head, interface_head, bgp_head, ospf_head, end_head, address_head, cost_head, shutdown_head, base_head, network_head, remote_as_head, peer_shut_head, peer_sends_head, peer_list_head, peer_map_head, area_head, passive_head, not_passive_head}

of_head : (s : Scope) (f : RouterForm) (words : List (List ℕ)) (r : Result RouterItem FormFault) → IsHeadOf s f words → router_form f 0 words ≡ r →
    router_item_of s 0 words ≡ r
unfolding router_item_by
of_head s f words r head said = ap (λ (o : Option HeadClass). router_item_by o 0 words) head ∙ said

-- ---- top lines

pub hostname_item : (name : List ℕ) → is_router_name name ≡ true → router_item_of scope.Top 0 (codes "hostname" ∷ name ∷ []) ≡ Ok (item.Hostname name)
unfolding router_form
hostname_item name is = of_head scope.Top form.Hostname _ _ (hostname_head (name ∷ [])) (rw is refl)

pub interface_item : (name : List ℕ) → IsInterfaceName name → router_item_of scope.Top 0 (codes "interface" ∷ name ∷ []) ≡ Ok (item.Interface name)
unfolding router_form
interface_item name is = of_head scope.Top form.Interface _ _ (interface_head (name ∷ [])) (rw is refl)

pub bgp_item : (n : ℕ) → IsBetween 1 4294967295 n → router_item_of scope.Top 0 (codes "router" ∷ codes "bgp" ∷ decimal n ∷ []) ≡ Ok (item.Bgp n)
unfolding router_form
bgp_item n range = of_head scope.Top form.Bgp _ _ (bgp_head (decimal n ∷ [])) (rw (as_number_back n range) refl)

short : (n : ℕ) → IsBetween 1 65535 n → IsNumber n
short n range = let high = range.1 in omega arith

pub ospf_item : (n : ℕ) → IsBetween 1 65535 n → router_item_of scope.Top 0 (codes "router" ∷ codes "ospf" ∷ decimal n ∷ []) ≡ Ok (item.Ospf n)
unfolding router_form
ospf_item n range = of_head scope.Top form.Ospf _ _ (ospf_head (decimal n ∷ [])) (rw (between_back 1 65535 n (short n range) range) refl)

pub end_item : router_item_of scope.Top 0 (codes "end" ∷ []) ≡ Ok item.End
unfolding router_form
end_item = of_head scope.Top form.End _ _ end_head refl

-- ---- lines of an interface

pub address_item : (a : Address) → IsWellFormedAddress a → router_item_of scope.Interface 0 (ip_address_line a).words ≡ Ok (item.IpAddress (bare_address a))
unfolding ip_address_line router_form
address_item a is = of_head scope.Interface form.IpAddress _ _ (address_head (address_text a.addr ∷ address_text (mask_of a.len) ∷ []))
    (rw (address_back a.addr is.addr, mask_back a.len is.len) refl)

pub cost_item : (n : ℕ) → IsBetween 1 65535 n → router_item_of scope.Interface 0 (cost_line n).words ≡ Ok (item.Cost n)
unfolding cost_line router_form
cost_item n range = of_head scope.Interface form.Cost _ _ (cost_head (decimal n ∷ [])) (rw (between_back 1 65535 n (short n range) range) refl)

pub shutdown_item : router_item_of scope.Interface 0 shutdown_line.words ≡ Ok item.Shutdown
unfolding router_form
shutdown_item = of_head scope.Interface form.Shutdown _ _ shutdown_head refl

-- ---- lines of a BGP process

pub base_item : (base : Base) → IsNumber base.value → router_item_of scope.Bgp 0 (base_line base).words ≡ Ok (item.Base (bare_base base))
unfolding base_line router_form
base_item base is = of_head scope.Bgp form.Base _ _ (base_head (decimal base.value ∷ [])) (rw (number_back base.value is) refl)

exact_back : (p : Prefix) → bits_behind p.len p.addr ≡ 0 → exact_prefix p.addr p.len ≡ Some p
unfolding exact_prefix
exact_back p exact = rw (eq-eqb (bits_behind p.len p.addr) 0 exact) refl

pub network_item : (net : NetLine) → IsWellFormedNetLine net → router_item_of scope.Bgp 0 (network_line net).words ≡ Ok (item.Network (bare_net net))
unfolding network_line router_form net_line
network_item net is =
    of_head scope.Bgp form.Network _ _ (network_head (address_text net.prefix.addr ∷ codes "mask" ∷ address_text (mask_of net.prefix.len) ∷ []))
    (rw (address_back net.prefix.addr is.prefix.addr, mask_back net.prefix.len (is.some, is.prefix.len), exact_back net.prefix is.prefix.exact) refl)

pub remote_item : (addr n : ℕ) → IsNumber addr → IsBetween 1 4294967295 n → router_item_of scope.Bgp 0 (remote_line addr n).words ≡ Ok (item.RemoteAs addr n)
unfolding remote_line router_form
remote_item addr n is range = of_head scope.Bgp form.RemoteAs _ _ (remote_as_head (address_text addr) (decimal n ∷ []))
    (rw (address_back addr is, as_number_back n range) refl)

pub peer_shut_item : (addr : ℕ) → IsNumber addr → router_item_of scope.Bgp 0 (peer_shut_line addr).words ≡ Ok (item.PeerShut addr)
unfolding peer_shut_line router_form
peer_shut_item addr is = of_head scope.Bgp form.PeerShut _ _ (peer_shut_head (address_text addr) []) (rw (address_back addr is) refl)

pub peer_sends_item : (addr : ℕ) → IsNumber addr → router_item_of scope.Bgp 0 (peer_sends_line addr).words ≡ Ok (item.PeerSends addr)
unfolding peer_sends_line router_form
peer_sends_item addr is = of_head scope.Bgp form.PeerSends _ _ (peer_sends_head (address_text addr)) (rw (address_back addr is) refl)

pub named_back : (named : Named) → IsWellFormedNamed named → named_of 0 named.name ≡ Ok (bare_named named)
unfolding named_of
named_back named is = rw is.long refl

-- in, or out
abbrev pub way_text : Bool → List ℕ
way_text inward = if inward then codes "in" else codes "out"

way_back : (inward : Bool) → is_inward (way_text inward) ≡ Some inward
unfolding is_inward
way_back true = refl
way_back false = refl

pub peer_list_item : (addr : ℕ) (inward : Bool) (list : Named) → IsNumber addr → IsWellFormedNamed list
    → router_item_of scope.Bgp 0 (applied_line addr (codes "prefix-list") (way_text inward) list).words ≡ Ok (item.PeerList addr (bare_named list) inward)
unfolding applied_line router_form peer_item
peer_list_item addr inward list is named =
    of_head scope.Bgp form.PeerList _ _ (peer_list_head (address_text addr) (list.name ∷ way_text inward ∷ []))
    (rw (address_back addr is, way_back inward, named_back list named) refl)

pub peer_map_item : (addr : ℕ) (inward : Bool) (map : Named) → IsNumber addr → IsWellFormedNamed map
    → router_item_of scope.Bgp 0 (applied_line addr (codes "route-map") (way_text inward) map).words ≡ Ok (item.PeerMap addr (bare_named map) inward)
unfolding applied_line router_form peer_item
peer_map_item addr inward map is named =
    of_head scope.Bgp form.PeerMap _ _ (peer_map_head (address_text addr) (map.name ∷ way_text inward ∷ []))
    (rw (address_back addr is, way_back inward, named_back map named) refl)

-- ---- lines of an OSPF process

area_back : (n : ℕ) → IsNumber n → area_word (decimal n) ≡ Some n
unfolding area_word
area_back n is = rw (number_back n is) refl

pub area_item : (area : AreaLine) → IsWellFormedArea area → router_item_of scope.Ospf 0 (network_area_line area).words ≡ Ok (item.Area (bare_area area))
unfolding network_area_line router_form
area_item area is =
    of_head scope.Ospf form.Area _ _ (area_head (address_text area.addr ∷ address_text area.wild ∷ codes "area" ∷ decimal area.area ∷ []))
    (rw (address_back area.addr is.addr, address_back area.wild is.wild, area_back area.area is.area) refl)

pub passive_default_item : router_item_of scope.Ospf 0 passive_default_line.words ≡ Ok item.PassiveDefault
unfolding router_form
passive_default_item = of_head scope.Ospf form.Passive _ _ (passive_head (codes "default" ∷ [])) refl

-- a name of an interface has a digit
no_default : (name : List ℕ) → IsInterfaceName name → bytes_eq name (codes "default") ≡ false
unfolding is_interface_name
no_default name is = elim (cases_Bool (bytes_eq name (codes "default"))) [
  | inl same ↦
      let e : name ≡ codes "default" = (bytes_eq-Decides name (codes "default")).0 same in
      let h : is_interface_name (codes "default") ≡ true = ap is_interface_name (sym e) ∙ is in
      absurd (cc)
  | inr other ↦ other
]

pub passive_item : (name : List ℕ) → IsInterfaceName name → router_item_of scope.Ospf 0 (passive_line name).words ≡ Ok (item.Passive name)
unfolding router_form
passive_item name is = of_head scope.Ospf form.Passive _ _ (passive_head (name ∷ [])) (rw (no_default name is, is) refl)

pub not_passive_item : (name : List ℕ) → IsInterfaceName name → router_item_of scope.Ospf 0 (not_passive_line name).words ≡ Ok (item.NotPassive name)
unfolding router_form
not_passive_item name is = of_head scope.Ospf form.NotPassive _ _ (not_passive_head (name ∷ [])) (rw is refl)
