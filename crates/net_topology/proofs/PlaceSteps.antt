-- Turns of the loops over places.
use Rattle.std.proofs.Common.{◌≡◌, ℕ, ◌+◌, ◌<◌, List, ◌∷◌, ◌++◌, map, filter_map, flat_map, length, get_or, drop, Option, refl, sym, ◌∙◌, ap, append_assoc}
use Rattle.std.specs.List.{enumerate_from}
use Rattle.std.proofs.lemmas.List.{drop_more}
use Rattle.std.proofs.lemmas.List.Elements.{filter_map-append}
use Rattle.cfg_ast.specs.declared.network.Network.{Network}
use Rattle.cfg_ast.specs.declared.network.Router.{Router}
use Rattle.cfg_ast.specs.meaning.Topology.{Place, places, places_on, place_on, interfaces_of, neighbors_of}
use Rattle.net_topology.specs.Spots.{spot_of, spots}
use Rattle.net_topology.specs.Peers.{peer_at_place, peers}

-- one router more
pub router_turn : {X S : Type 0} (items : Router → List X) (spot : Place X → Option S) (found more all : List S) (rs : List Router) (r : ℕ) (x : Router) →
    r < length rs → x ≡ get_or rs r x
    → more ≡ found ++ filter_map spot (map (place_on r x) (enumerate_from 0 (items x)))
    → found ++ filter_map spot (flat_map (places_on items) (enumerate_from r (drop r rs))) ≡ all
    → more ++ filter_map spot (flat_map (places_on items) (enumerate_from (r + 1) (drop (r + 1) rs))) ≡ all
router_turn {X} {S} items spot found more all rs r x below here pushed so_far =
    let here_spots = filter_map spot (map (place_on r x) (enumerate_from 0 (items x))) in
    let rest = flat_map (places_on items) (enumerate_from (r + 1) (drop (r + 1) rs)) in
    let first : drop r rs ≡ x ∷ drop (r + 1) rs = drop_more rs r x below ∙ ap (λ (y : Router). y ∷ drop (r + 1) rs) (sym here) in
    ap (λ (l : List S). l ++ filter_map spot rest) pushed
    ∙ append_assoc found here_spots (filter_map spot rest)
    ∙ ap (λ (l : List S). found ++ l) (sym (ap (λ (l : List Router). filter_map spot (flat_map (places_on items) (enumerate_from r l))) first
    ∙ filter_map-append spot (map (place_on r x) (enumerate_from 0 (items x))) rest))
    ∙ so_far

pub spots_first : (n : Network) → filter_map spot_of (flat_map (places_on interfaces_of) (enumerate_from 0 n.routers)) ≡ spots n
unfolding spots places
spots_first n = refl

pub peers_first : (n : Network) → filter_map peer_at_place (flat_map (places_on neighbors_of) (enumerate_from 0 n.routers)) ≡ peers n
unfolding peers places
peers_first n = refl
