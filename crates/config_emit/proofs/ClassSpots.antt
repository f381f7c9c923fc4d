-- The interfaces of a router by their subnets, and those in the prefixes of a class.
use Rattle.std.proofs.Common.{◌≡◌, ℕ, ◌+◌, ◌<◌, Bool, true, false, cond, List, [], ◌∷◌, ◌++◌, length, get_or, take, Option, Some, None, refl, sym, ◌∙◌, ap, inl, inr}
use Rattle.std.specs.Prelude.{filter_map, find, is_some, codes, decimal}
use Rattle.std.specs.List.{cons_option, enumerate_from}
use Rattle.std.specs.Option.{option_map, option_map_or, option_and_then, option_or}
use Rattle.std.proofs.lemmas.List.{take_more}
use Rattle.std.proofs.lemmas.List.Folds.{find-append}
use Rattle.base_kit.specs.Prefixes.{Prefix, same_prefix}
use Rattle.base_kit.specs.declared.protocol.Protocol.{Protocol}
use Rattle.base_kit.specs.declared.protocol.Protocol.TheVariants.{Bgp as OverBgp, Ospf as OverOspf}
use Rattle.base_kit.proofs.Elements.{In, contains_in}
use Rattle.cfg_ast.specs.meaning.Addresses.{Address}
use Rattle.cfg_ast.specs.meaning.Classes.{is_up_in, initial_route}
use Rattle.cfg_ast.specs.meaning.Topology.{subnet_of_address}
use Rattle.cfg_ast.specs.printing.Bare.{bare_address}
use Rattle.cfg_ast.specs.declared.interface.Interface.{Interface}
use Rattle.cfg_ast.specs.declared.network.Router.{Router}
use Rattle.config_emit.specs.Interfaces.{interface_in, cost_over, class_interface, class_interface_in, class_interfaces_on}
use Rattle.config_emit.specs.Spots.{SpotsBySubnet, spot_with, spot_of_interface, counts, serves, AreSpots, PutsSpot, interface_at, served_at, OriginatesEach}
use Rattle.config_emit.specs.declared.class_interfaces.Spot.{Spot}
use Rattle.config_emit.proofs.ListSteps.{both, found_passes}

-- an up interface in a prefix has an address
has_address : (p : Prefix) (shut : Bool) (address : Option Address) →
    option_map_or (same_prefix p) (option_map subnet_of_address (cond shut None address)) false ≡ true → (a : Address) × (address ≡ Some a)
has_address p true address up = absurd cc
has_address p false None up = absurd cc
has_address p false (Some a) up = (a, refl)

serving_has : (q : Protocol) (r : Router) (p : ℕ × ℕ) (x : Interface) → serves q r p x ≡ true → (a : Address) × (x.address ≡ Some a)
serving_has q r p x serve = let parts = both (counts q r x) (is_up_in (record { addr = p.0; len = p.1 }) x) serve in
    has_address (record { addr = p.0; len = p.1 }) x.shut x.address parts.1

-- ---- one interface more

kept : (f : Interface → Option Spot) (o : Option Interface) (b : Bool) (x : Interface) → ((y : Interface) → o ≡ Some y → (s : Spot) × (f y ≡ Some s))
    → option_or (option_and_then f o) (cond b (f x) None) ≡ option_and_then f (option_or o (cond b (Some x) None))
kept f None true x some = refl
kept f None false x some = refl
kept f (Some y) b x some = let s = some y refl in ap (λ o. option_or o (cond b (f x) None)) s.1 ∙ sym s.1

pub spots_turn : (q : Protocol) (r : Router) (old new : SpotsBySubnet) (xs : List Interface) (i : ℕ) (x : Interface) → i < length xs → x ≡ get_or xs i x →
    PutsSpot q r old new x → AreSpots q r old (take i xs) → AreSpots q r new (take (i + 1) xs)
spots_turn q r old new xs i x below here puts so_far = record {
  each = λ p.
      let test : Interface → Bool = serves q r p in
      puts.each p
      ∙ ap (λ o. option_or o (cond (test x) (spot_of_interface q x) None)) (so_far.each p)
      ∙ kept (spot_of_interface q) (find test (take i xs)) (test x) x (λ y found. let a = serving_has q r p y (found_passes test (take i xs) y found) in
      (spot_with (cost_over q y) a.0, ap (option_map (spot_with (cost_over q y))) a.1))
      ∙ ap (option_and_then (spot_of_interface q)) (sym (find-append test (take i xs) (x ∷ []))
      ∙ ap (find test) (sym (take_more xs i x below ∙ ap (λ y. take i xs ++ y ∷ []) (sym here))));
}

-- ---- the interfaces in the prefixes

looked_up : (q : Protocol) (r : Router) (p : Prefix) → find (serves q r (p.addr, p.len)) r.interfaces ≡ interface_in q r p
looked_up OverBgp r p = refl
looked_up OverOspf r p = refl

class_with : Protocol → ℕ → Interface → Option Address → Interface
class_with q j x address = record { name = codes "Vlan" ++ decimal j; line = 0; address = option_map bare_address address; cost = cost_over q x; shut = false }

written : (q : Protocol) (r : Router) (j : ℕ) (p : ℕ × ℕ) (o : Option Interface) → ((x : Interface) → o ≡ Some x → serves q r p x ≡ true) →
    option_map (interface_at j) (option_and_then (spot_of_interface q) o) ≡ option_map (class_interface q j) o
unfolding class_with
written q r j p None serve = refl
written q r j p (Some x) serve = step x.address refl where
  step : (address : Option Address) → x.address ≡ address →
      option_map (interface_at j) (option_map (spot_with (cost_over q x)) x.address) ≡ Some (class_interface q j x)
  step None e = absurd (let a = serving_has q r p x (serve x refl) in let never : None ≡ Some a.0 = sym e ∙ a.1 in cc)
  step (Some a) e = ap (λ o. option_map (interface_at j) (option_map (spot_with (cost_over q x)) o)) e ∙ ap (λ o. Some (class_with q j x o)) (sym e)

served : (q : Protocol) (r : Router) (spots : SpotsBySubnet) (j : ℕ) (p : Prefix) → AreSpots q r spots r.interfaces → is_some (initial_route r p) ≡ true →
    served_at spots (j, p) ≡ class_interface_in q r (j, p)
served q r spots j p are starts =
    ap (option_map (interface_at j)) (are.each (p.addr, p.len))
    ∙ written q r j (p.addr, p.len) (find (serves q r (p.addr, p.len)) r.interfaces) (λ x found. found_passes (serves q r (p.addr, p.len)) r.interfaces x found)
    ∙ ap (option_map (class_interface q j)) (looked_up q r p)
    ∙ sym (ap (λ b. cond b (option_map (class_interface q j) (interface_in q r p)) None) starts)

all_served : (q : Protocol) (r : Router) (spots : SpotsBySubnet) (n : ℕ) (prefixes : List Prefix) → AreSpots q r spots r.interfaces →
    ((p : Prefix) → In prefixes p → is_some (initial_route r p) ≡ true)
    → filter_map (served_at spots) (enumerate_from n prefixes) ≡ filter_map (class_interface_in q r) (enumerate_from n prefixes)
all_served q r spots n [] are starts = refl
all_served q r spots n (p ∷ ps) are starts =
    ap (λ o. cons_option o (filter_map (served_at spots) (enumerate_from (n + 1) ps))) (served q r spots n p are (starts p (inl refl)))
    ∙ ap (λ xs. cons_option (class_interface_in q r (n, p)) xs) (all_served q r spots (n + 1) ps are (λ o at. starts o (inr at)))

pub class_interfaces_are : (q : Protocol) (r : Router) (spots : SpotsBySubnet) (prefixes : List Prefix) → AreSpots q r spots r.interfaces →
    OriginatesEach r prefixes → filter_map (served_at spots) (enumerate_from 1 prefixes) ≡ class_interfaces_on q prefixes r
class_interfaces_are q r spots prefixes are originates = all_served q r spots 1 prefixes are (λ p at. originates.each p (contains_in prefixes p at))

-- ---- a router that originates none of them

pub none_served : (q : Protocol) (r : Router) (n : ℕ) (prefixes : List Prefix) → ((p : Prefix) → In prefixes p → is_some (initial_route r p) ≡ false) →
    filter_map (class_interface_in q r) (enumerate_from n prefixes) ≡ []
none_served q r n [] none = refl
none_served q r n (p ∷ ps) none =
    ap (λ b. cons_option (cond b (option_map (class_interface q n) (interface_in q r p)) None)
    (filter_map (class_interface_in q r) (enumerate_from (n + 1) ps))) (none p (inl refl))
    ∙ none_served q r (n + 1) ps (λ o at. none o (inr at))
