-- In a network whose places are in the order of lines there are few.
use Rattle.std.proofs.Common.{◌≡◌, ℕ, ◌+◌, ◌≤◌, List, [], ◌∷◌, length, inl, inr, refl, ap, arith}
use Rattle.std.specs.Prelude.{flat_map}
use Rattle.std.specs.List.{enumerate_from}
use Rattle.std.proofs.lemmas.List.{length-append, length-map}
use Rattle.std.proofs.lemmas.List.FromFn.{length-enumerate_from}
use Rattle.base_kit.proofs.Elements.{In, in_contains}
use Rattle.cfg_ast.specs.declared.network.Network.{Network}
use Rattle.cfg_ast.specs.declared.network.Router.{Router}
use Rattle.cfg_ast.specs.meaning.Topology.{place_on, places_on, places, interfaces_of, neighbors_of}
use Rattle.given_laws.specs.Laws.{PlacesAreInOrder}
use Rattle.net_topology.specs.FewPlaces.{HasFewPlaces}

places_counted : {X : Type 0} (items : Router → List X) (k : ℕ) (routers : List Router) →
    length (flat_map (places_on items) (enumerate_from k routers)) ≡ length (flat_map items routers)
places_counted items k [] = refl
places_counted items k (r ∷ routers) =
    let here = length-map (enumerate_from 0 (items r)) (place_on k r) in
    let all = length-enumerate_from 0 (items r) in
    let rest = places_counted items (k + 1) routers in
    let left = length-append (places_on items (k, r)) (flat_map (places_on items) (enumerate_from (k + 1) routers)) in
    let right = length-append (items r) (flat_map items routers) in
    omega arith

one_of_all : {X : Type 0} (items : Router → List X) (routers : List Router) (router : Router) → In routers router →
    length (items router) ≤ length (flat_map items routers)
one_of_all items [] router at = absurd at
one_of_all items (r ∷ routers) router (inl same) = let e = ap (λ (q : Router). length (items q)) same in let all =
    length-append (items r) (flat_map items routers) in omega arith
one_of_all items (r ∷ routers) router (inr at) = let rest = one_of_all items routers router at in let all = length-append (items r) (flat_map items routers) in
    omega arith

pub few_places : (n : Network) → length n.routers ≤ 4096 → PlacesAreInOrder n → HasFewPlaces n.routers
unfolding places
few_places n few is = record {
  routers = omega arith;
  items = λ router has. record {
    interfaces =
        let one = one_of_all interfaces_of n.routers router (in_contains n.routers router has) in
        let all = places_counted interfaces_of 0 n.routers in
        let most = is.few_interfaces in
        omega arith;
    neighbors =
        let one = one_of_all neighbors_of n.routers router (in_contains n.routers router has) in
        let all = places_counted neighbors_of 0 n.routers in
        let most = is.few_neighbors in
        omega arith;
  };
}
