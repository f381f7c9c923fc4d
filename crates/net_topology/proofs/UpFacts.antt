-- Where the addresses of up interfaces come from.
use Rattle.std.proofs.Common.{◌≡◌, ℕ, ◌+◌, ◌<◌, List, ◌∷◌, ◌++◌, flat_map, length, get_or, drop, Option, Some, None, refl, sym, ◌∙◌, ap, subst, arith, append_assoc}
use Rattle.std.specs.Prelude.{slice_get}
use Rattle.std.specs.Option.{option_map}
use Rattle.std.specs.List.{enumerate_from}
use Rattle.std.proofs.lemmas.List.{drop_more}
use Rattle.base_kit.proofs.Elements.{In, in_flat_map, flat_map_in, in_filter_map, filter_map_in, in_enumerate, enumerate_in}
use Rattle.cfg_ast.specs.meaning.Addresses.{Address}
use Rattle.cfg_ast.specs.declared.network.Router.{Router}
use Rattle.cfg_ast.specs.meaning.RouterFaults.{up_addresses_of}
use Rattle.cfg_ast.specs.meaning.Topology.{up_address}
use Rattle.net_topology.specs.Ups.{up_at, up_on, ups_on, ups_of}
use Rattle.net_topology.specs.declared.ups.Up.{Up}

-- the router and the address of an up interface
pub record IsUpOf (routers : List Router) (x : Up) : Type 0 where
  pub owner : Router
  pub place : slice_get routers x.at.router ≡ Some owner
  pub address : Address
  pub is_in : In (up_addresses_of owner) address
  pub up : up_at x.at.router address ≡ x

some_up : (r : ℕ) (o : Option Address) (x : Up) → option_map (up_at r) o ≡ Some x → (a : Address) × (o ≡ Some a) × (up_at r a ≡ x)
some_up r None x e = cc
some_up r (Some a) x e = (a, refl, cc)

at_its_router : (routers : List Router) (r : ℕ) (owner : Router) (a : Address) (x : Up) → slice_get routers r ≡ Some owner → In (up_addresses_of owner) a →
    up_at r a ≡ x → IsUpOf routers x
at_its_router routers r owner a x e h f =
    let same : r ≡ x.at.router = ap (λ (y : Up). y.at.router) f in
    record { owner = owner; place = subst (λ k. slice_get routers k ≡ Some owner) same e; address = a; is_in = h; up = ap (λ k. up_at k a) (sym same) ∙ f }

on_router : (routers : List Router) (p : ℕ × Router) (x : Up) → In (enumerate_from 0 routers) p → In (ups_on p) x → IsUpOf routers x
on_router routers (r, owner) x h k =
    let here = enumerate_in routers 0 r owner h in
    let found = filter_map_in (up_on r) owner.interfaces x k in
    let made = some_up r (up_address found.0) x found.2 in
    let same : here.0 ≡ r = let e = here.1 in omega arith in
    at_its_router routers r owner made.0 x (subst (λ m. slice_get routers m ≡ Some owner) same here.2)
    (in_filter_map up_address owner.interfaces found.0 made.0 found.1 made.1) made.2

pub up_in : (routers : List Router) (x : Up) → In (ups_of routers) x → IsUpOf routers x
unfolding ups_of
up_in routers x h = let found = flat_map_in ups_on (enumerate_from 0 routers) x h in on_router routers found.0 x found.1 found.2

pub in_ups : (routers : List Router) (r : ℕ) (owner : Router) (a : Address) → slice_get routers r ≡ Some owner → In (up_addresses_of owner) a →
    In (ups_of routers) (up_at r a)
unfolding ups_of
in_ups routers r owner a e h =
    let found = filter_map_in up_address owner.interfaces a h in
    let same : 0 + r ≡ r = omega arith in
    let here : In (enumerate_from 0 routers) (r, owner) = subst (λ m. In (enumerate_from 0 routers) (m, owner)) same (in_enumerate routers 0 r owner e) in
    in_flat_map ups_on (enumerate_from 0 routers) (r, owner) (up_at r a) here
    (in_filter_map (up_on r) owner.interfaces found.0 (up_at r a) found.1 (ap (option_map (up_at r)) found.2))

-- one router more
pub ups_turn : (found more all : List Up) (rs : List Router) (r : ℕ) (x : Router) → r < length rs → x ≡ get_or rs r x → more ≡ found ++ ups_on (r, x) →
    found ++ flat_map ups_on (enumerate_from r (drop r rs)) ≡ all → more ++ flat_map ups_on (enumerate_from (r + 1) (drop (r + 1) rs)) ≡ all
ups_turn found more all rs r x below here pushed so_far =
    let rest = flat_map ups_on (enumerate_from (r + 1) (drop (r + 1) rs)) in
    let first : drop r rs ≡ x ∷ drop (r + 1) rs = drop_more rs r x below ∙ ap (λ (y : Router). y ∷ drop (r + 1) rs) (sym here) in
    ap (λ (l : List Up). l ++ rest) pushed
    ∙ append_assoc found (ups_on (r, x)) rest
    ∙ ap (λ (l : List Router). found ++ flat_map ups_on (enumerate_from r l)) (sym first)
    ∙ so_far

pub ups_first : (rs : List Router) → flat_map ups_on (enumerate_from 0 rs) ≡ ups_of rs
unfolding ups_of
ups_first rs = refl
