-- The links of a network do not depend on line numbers.
use Rattle.std.proofs.Common.{◌≡◌, ℕ, Bool, true, false, cond, List, [], ◌∷◌, ◌++◌, Option, Some, None, map, filter, refl, sym, ap, ◌∙◌}
use Rattle.std.specs.Prelude.{flat_map}
use Rattle.std.specs.Option.{option_map}
use Rattle.std.specs.List.{enumerate_from}
use Rattle.cfg_ast.specs.meaning.Addresses.{Address}
use Rattle.cfg_ast.specs.declared.bgp.Neighbor.{Neighbor}
use Rattle.cfg_ast.specs.declared.interface.Interface.{Interface}
use Rattle.cfg_ast.specs.declared.network.Network.{Network}
use Rattle.cfg_ast.specs.declared.network.Router.{Router}
use Rattle.cfg_ast.specs.meaning.Topology.{Place, place_on, places_on, places, link_between, links_from, links_joining, interfaces_of, neighbors_of, active_address, both_in_one_subnet, are_adjacent, is_session, sessions_of, adjacencies_of, links_of, is_active_interface}
use Rattle.cfg_ast.specs.printing.Bare.{bare_address, bare_interface, bare_neighbor, bare_router, bare}
use Rattle.line_number_laws.specs.Laws.{LinksAside}
use Rattle.line_number_laws.proofs.Mapped.{map_mapped, filter_mapped, flat_mapped, at_place, enumerate_mapped}
use Rattle.line_number_laws.proofs.Interfaces.{active_bare, neighbors_bare, number_bare, share_subnet_bare}

-- Places.

abbrev pub bare_place : {X : Type 0} → (X → X) → Place X → Place X
bare_place h p = record { router = p.router; item = p.item; owner = bare_router p.owner; value = h p.value }

places_on_bare : {X : Type 0} (items : Router → List X) (h : X → X) → ((r : Router) → items (bare_router r) ≡ map h (items r)) → (p : ℕ × Router) →
    places_on items (at_place bare_router p) ≡ map (bare_place h) (places_on items p)
places_on_bare items h same (k, r) =
    ap (λ xs. map (place_on k (bare_router r)) (enumerate_from 0 xs)) (same r)
    ∙ ap (map (place_on k (bare_router r))) (enumerate_mapped h 0 (items r))
    ∙ numbered (enumerate_from 0 (items r))
  where
    numbered : (ps : List (ℕ × _)) → map (place_on k (bare_router r)) (map (at_place h) ps) ≡ map (bare_place h) (map (place_on k r) ps)
    numbered [] = refl
    numbered ((i, x) ∷ ps) = ap (λ qs. place_on k (bare_router r) (i, h x) ∷ qs) (numbered ps)

pub places_bare : {X : Type 0} (items : Router → List X) (h : X → X) → ((r : Router) → items (bare_router r) ≡ map h (items r)) → (n : Network) →
    places items (bare n) ≡ map (bare_place h) (places items n)
unfolding places
places_bare items h same n =
    ap (flat_map (places_on items)) (enumerate_mapped bare_router 0 n.routers)
    ∙ flat_mapped (at_place bare_router) (bare_place h) (places_on items) (places_on items) (places_on_bare items h same) (enumerate_from 0 n.routers)

-- All pairs of places that are joined.

same_flat : {X Y Z : Type 0} (h : X → Z) (f : Z → List Y) (g : X → List Y) → ((x : X) → f (h x) ≡ g x) → (xs : List X) → flat_map f (map h xs) ≡ flat_map g xs
same_flat {X} {Y} h f g same xs = flat_mapped h (λ (y : Y). y) f g (λ x. same x ∙ sym (unchanged (g x))) xs ∙ unchanged (flat_map g xs)
  where
    unchanged : (ys : List Y) → map (λ (y : Y). y) ys ≡ ys
    unchanged [] = refl
    unchanged (y ∷ ys) = ap (λ zs. y ∷ zs) (unchanged ys)

joined_bare : {X : Type 0} (h : X → X) (joins : Place X → Place X → Bool) → ((p q : Place X) → joins (bare_place h p) (bare_place h q) ≡ joins p q) →
    (ps : List (Place X)) → links_joining joins (map (bare_place h) ps) ≡ links_joining joins ps
joined_bare h joins same ps =
    same_flat (bare_place h) (links_from joins (map (bare_place h) ps)) (links_from joins ps)
    (λ p.
    ap (map (link_between (bare_place h p))) (filter_mapped (bare_place h) (joins (bare_place h p)) (joins p) (same p) ps)
    ∙ map_mapped (bare_place h) (link_between (bare_place h p)) (link_between p) (λ q. refl) (filter (joins p) ps)) ps

-- Sessions.

sessions_alike : (p q : Place Neighbor) → is_session (bare_place bare_neighbor p) (bare_place bare_neighbor q) ≡ is_session p q
sessions_alike p q =
    rw (number_bare q.owner p.value.remote, number_bare p.owner q.value.remote, share_subnet_bare p.owner q.value.addr q.owner p.value.addr) refl

sessions_bare : (n : Network) → sessions_of (bare n) ≡ sessions_of n
unfolding sessions_of
sessions_bare n = ap (links_joining is_session) (places_bare neighbors_of bare_neighbor neighbors_bare n)
    ∙ joined_bare bare_neighbor is_session sessions_alike (places neighbors_of n)

-- Adjacencies.

active_address_bare : (p : Place Interface) → active_address (bare_place bare_interface p) ≡ option_map bare_address (active_address p)
active_address_bare p = rw (active_bare p.owner p.value) (step (is_active_interface p.owner p.value)) where
  step : (b : Bool) → cond b (option_map bare_address p.value.address) None ≡ option_map bare_address (cond b p.value.address None)
  step true = refl
  step false = refl

subnets_alike : (a b : Option Address) → both_in_one_subnet (option_map bare_address a) (option_map bare_address b) ≡ both_in_one_subnet a b
subnets_alike None b = refl
subnets_alike (Some a) None = refl
subnets_alike (Some a) (Some b) = refl

adjacent_alike : (p q : Place Interface) → are_adjacent (bare_place bare_interface p) (bare_place bare_interface q) ≡ are_adjacent p q
adjacent_alike p q = rw (active_address_bare p, active_address_bare q, subnets_alike (active_address p) (active_address q)) refl

adjacencies_bare : (n : Network) → adjacencies_of (bare n) ≡ adjacencies_of n
unfolding adjacencies_of
adjacencies_bare n = ap (links_joining are_adjacent) (places_bare interfaces_of bare_interface (λ r. refl) n)
    ∙ joined_bare bare_interface are_adjacent adjacent_alike (places interfaces_of n)

links_bare : (n : Network) → links_of (bare n) ≡ links_of n
unfolding links_of
links_bare n = ap (λ ls. ls ++ adjacencies_of (bare n)) (sessions_bare n) ∙ ap (λ ls. sessions_of n ++ ls) (adjacencies_bare n)

pub aside : LinksAside
aside m n same = sym (links_bare m) ∙ ap links_of same ∙ links_bare n
