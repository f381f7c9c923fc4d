-- Each interface of the network of the groups has a cost, and none is a loopback.
use Rattle.std.proofs.Common.{◌≡◌, ℕ, ◌+◌, Bool, true, false, cond, not, ◌&&◌, List, [], ◌∷◌, ◌++◌, map, take, inl, inr, Option, Some, None, refl, sym, ◌∙◌, ap, subst, arith, codes, decimal, bytes_eq}
use Rattle.std.specs.Prelude.{is_some, flat_map, nat_eq}
use Rattle.std.specs.List.{before_first, prefix_len}
use Rattle.std.proofs.lemmas.Bool.{le-leb}
use Rattle.std.specs.Option.{option_map_or}
use Rattle.base_kit.specs.Numbers.{is_digit}
use Rattle.base_kit.proofs.Elements.{In, append_in}
use Rattle.cfg_ast.specs.meaning.Addresses.{Address}
use Rattle.cfg_ast.specs.declared.interface.Interface.{Interface}
use Rattle.cfg_ast.specs.declared.network.Router.{Router}
use Rattle.cfg_ast.specs.meaning.RouterFaults.{address_line, is_wide_loopback, area_addresses_with, loopback_mask_lines, no_cost_lines}
use Rattle.cfg_check.specs.Items.{area_address_with, has_no_cost}
use Rattle.cfg_ast.specs.meaning.Topology.{up_address, is_in_area_interface, type_of, default_costs, default_cost_of, cost_of_interface}
use Rattle.config_emit.specs.Emitted.{emitted_router, emitted}
use Rattle.config_emit.specs.Interfaces.{class_interfaces, link_interfaces}
use Rattle.config_emit.specs.Laws.{IsPlan}
use Rattle.config_emit.specs.Plan.{Plan}
use Rattle.emit_fault_laws.proofs.Routers.{of_routers}
use Rattle.emit_form_laws.proofs.Interfaces.{class_at, class_numbers, link_at}
use Rattle.emit_form_laws.proofs.Names.{IsDecimal, decimal_is}
use Rattle.emit_form_laws.proofs.Pairwise.{flat_none, filter_map_none}

-- ---- types

vlan_before : (word : List ℕ) → IsDecimal word → before_first is_digit (codes "Vlan" ++ word) ≡ codes "Vlan"
vlan_before [] is = absurd (let some = is.some in omega arith)
vlan_before (b ∷ word) is = step (is_digit b) (let low = is.digits.0.0 in let high = is.digits.0.1 in rw (le-leb 48 b low, le-leb b 57 high) refl)
  where
    step : (d : Bool) → d ≡ true → take (1 + (1 + (1 + (1 + cond (not d) (1 + prefix_len (λ c. not (is_digit c)) word) 0)))) (codes "Vlan" ++ (b ∷ word))
        ≡ codes "Vlan"
    step true e = refl
    step false e = absurd cc

link_before : (word : List ℕ) → before_first is_digit (codes "GigabitEthernet0/" ++ word) ≡ codes "GigabitEthernet"
link_before word = refl

abbrev IsLinkType : List ℕ → Type 0
IsLinkType name = (bytes_eq name (codes "Loopback") ≡ false) × (is_some (default_cost_of name) ≡ true)

vlan_type : IsLinkType (codes "Vlan")
unfolding default_costs
vlan_type = (refl, refl)

link_type : IsLinkType (codes "GigabitEthernet")
unfolding default_costs
link_type = (refl, refl)

type_is : (e : Plan) → IsPlan e → (g : ℕ) (x : Interface) → In (class_interfaces e g ++ link_interfaces e g) x → IsLinkType (type_of x)
type_is e plan g x h = elim (append_in (class_interfaces e g) (link_interfaces e g) x h) [
  | inl i ↦ (
      let c = class_at e g x i in
      let few = class_numbers e plan g x c in
      subst (λ (y : Interface). IsLinkType (type_of y)) c.is
      (subst IsLinkType (sym (vlan_before (decimal c.number) (decimal_is c.number (omega arith)))) vlan_type))
  | inr i ↦ (let l = link_at e g x i in subst (λ (y : Interface). IsLinkType (type_of y)) l.is
      (subst IsLinkType (sym (link_before (decimal l.number))) link_type))
]

-- ---- no fault in the area

none_in_area : (has_fault : Interface → Bool) (r : Router) → ((x : Interface) → In r.interfaces x → has_fault x ≡ false) → area_addresses_with has_fault r ≡ []
none_in_area has_fault r none =
    filter_map_none (area_address_with has_fault r) r.interfaces
    (λ x h. ap (λ b. cond (is_in_area_interface r x && b) (up_address x) None) (none x h) ∙ step x (is_in_area_interface r x))
  where
    step : (x : Interface) (b : Bool) → cond (b && false) (up_address x) None ≡ None
    step x true = refl
    step x false = refl

none_anywhere : (e : Plan) (has_fault : Interface → Bool) →
    ((g : ℕ) (x : Interface) → In (class_interfaces e g ++ link_interfaces e g) x → has_fault x ≡ false) →
    flat_map (area_addresses_with has_fault) (emitted e).routers ≡ []
none_anywhere e has_fault none =
    flat_none (area_addresses_with has_fault) (emitted e).routers
    (of_routers e (λ r. area_addresses_with has_fault r ≡ []) (λ g below. none_in_area has_fault (emitted_router e g) (none g)))

pub no_wide_loopback : (e : Plan) → IsPlan e → loopback_mask_lines (emitted e) ≡ []
unfolding loopback_mask_lines
no_wide_loopback e plan = ap (map address_line)
    (none_anywhere e is_wide_loopback (λ g x h. ap (λ b. b && not (option_map_or (λ (a : Address). nat_eq a.len 32) x.address false)) (type_is e plan g x h).0))

pub none_without_cost : (e : Plan) → IsPlan e → no_cost_lines (emitted e) ≡ []
unfolding no_cost_lines
none_without_cost e plan = ap (map address_line) (none_anywhere e has_no_cost (λ g x h. ap not (costs x (type_is e plan g x h).1)))
  where
    costs : (x : Interface) → is_some (default_cost_of (type_of x)) ≡ true → is_some (cost_of_interface x) ≡ true
    costs x given = step x.cost
      where
        step : (o : Option ℕ) → is_some (cond (is_some o) o (default_cost_of (type_of x))) ≡ true
        step None = given
        step (Some cost) = refl
