-- The interfaces and neighbours of a network that some text gives stand in the order of their lines.
-- Public: crates above may cite it.
use Rattle.std.proofs.Common.{◌≡◌, ℕ, ◌+◌, ◌-◌, ◌<◌, ◌≤◌, Bool, true, false, cond, List, [], ◌∷◌, ◌++◌, map, filter, length, Option, Some, None, Result, Ok, Err, refl, sym, ap, ◌∙◌, arith}
use Rattle.std.specs.Prelude.{IfOk, flat_map, filter_map}
use Rattle.std.specs.Option.{option_map_or}
use Rattle.std.specs.List.{AllByRecursion, cons_option, enumerate_from, range_with_len}
use Rattle.std.proofs.Math.Logic.{∥∥₁_elim}
use Rattle.std.proofs.Props.{props}
use Rattle.std.proofs.lemmas.List.{map-append, length-map}
use Rattle.std.proofs.lemmas.List.Elements.{recursion_from_All, filter_map-append}
use Rattle.std.proofs.lemmas.Result.{IfOk-at_ok}
use Rattle.cfg_ast.specs.declared.network.Network.{Network}
use Rattle.cfg_ast.specs.declared.network.Router.{Router}
use Rattle.cfg_ast.specs.declared.interface.Interface.{Interface}
use Rattle.cfg_ast.specs.declared.bgp.BgpProcess.{BgpProcess}
use Rattle.cfg_ast.specs.declared.bgp.Neighbor.{Neighbor}
use Rattle.cfg_ast.specs.declared.line.Line.{Line}
use Rattle.cfg_ast.specs.declared.refusal.ReadRefusal.{ReadRefusal}
use Rattle.cfg_ast.specs.text.TextLines.{TextLine}
use Rattle.cfg_ast.specs.text.Lines.{Piece, piece_at, begins_line, line_of, is_kept, kind_at, pieces_from, lines_of}
use Rattle.cfg_ast.specs.text.Steps.{◌>>=◌}
use Rattle.cfg_ast.specs.text.Reading.{at_start, steps, ending, network_of_lines, texts_of, network_of_text, IsGiven}
use Rattle.cfg_ast.specs.meaning.Topology.{Place, place_on, places_on, places, interfaces_of, neighbors_of}
use Rattle.cfg_ast.proofs.Within.{few, lines_faultless}
use Rattle.given_laws.specs.Laws.{interface_line, neighbor_line_at, address_line_of, PlacesAreInOrder, GivenPlacesAreInOrder}
use Rattle.given_laws.proofs.AddressOrder.{routers_addresses, HasAddressesInOrder, address_steps, start_addresses, addresses_lines}
use Rattle.given_laws.proofs.Propositions.{ascending_prop}
use Rattle.given_laws.proofs.Given.{IsAny, any_result, then_step}
use Rattle.given_laws.proofs.Each.{all_weaker}
use Rattle.given_laws.proofs.LineOrder.{AreNumbered, AreOrdered, start_ordered, ordered_steps, AreLines, routers_interfaces, routers_neighbors, neighbors_in, lines_of_neighbors, routers_lines}

-- ---- the numbers of the lines of a text

numbered_case : (b : Bool) (bs : List ℕ) (m : ℕ) (p : Piece) (ps : List Piece) → m < p.number → p.number ≤ 1000000 →
    AreNumbered p.number (texts_of bs (map (line_of bs) (filter (is_kept bs) ps))) → AreNumbered m (texts_of bs (map (line_of bs) (filter (is_kept bs) ps)))
    → AreNumbered m (texts_of bs (map (line_of bs) (cond b (p ∷ filter (is_kept bs) ps) (filter (is_kept bs) ps))))
numbered_case true bs m p ps less small here skipped = (less, small, here)
numbered_case false bs m p ps less small here skipped = skipped

numbered : (bs : List ℕ) (m n : ℕ) (starts : List ℕ) → m < n →
    AllByRecursion (λ (p : Piece). p.number ≤ 1000000) (map (piece_at bs) (enumerate_from n starts)) →
    AreNumbered m (texts_of bs (map (line_of bs) (filter (is_kept bs) (map (piece_at bs) (enumerate_from n starts)))))
numbered bs m n [] less all = tt
numbered bs m n (i ∷ starts) less all =
    let p = piece_at bs (n, i) in
    let ps = map (piece_at bs) (enumerate_from (n + 1) starts) in
    numbered_case (is_kept bs p) bs m p ps less all.0 (numbered bs n (n + 1) starts (omega arith) all.1) (numbered bs m (n + 1) starts (omega arith) all.1)

pub lines_numbered : (bs : List ℕ) (ls : List Line) → lines_of bs ≡ Ok ls → AreNumbered 0 (texts_of bs ls)
unfolding pieces_from
lines_numbered bs ls e =
    let ps = pieces_from bs 1 0 in
    let free = lines_faultless bs ps ls e in
    let small : AllByRecursion (λ (p : Piece). p.number ≤ 1000000) ps =
    all_weaker (λ (p : Piece). kind_at bs p ≡ None) (λ (p : Piece). p.number ≤ 1000000) (λ p none. few bs p none) ps
    (recursion_from_All (λ p. kind_at bs p ≡ None) ps free.each) in
    rw free.are (numbered bs 0 1 (filter (begins_line bs) (range_with_len 0 (length bs - 0))) (omega arith) small)

-- ---- the network

abbrev HasLines : Network → Type 0
HasLines n = AreLines (routers_interfaces n.routers) × AreLines (routers_neighbors n.routers)

of_lines : (ls : List TextLine) → AreNumbered 0 ls → IfOk (network_of_lines ls) HasLines
unfolding network_of_lines
of_lines ls are = then_step AreOrdered HasLines (steps at_start ls) _ (ordered_steps ls at_start 0 are start_ordered)
    (λ s is. then_step IsAny HasLines (ending ls) _ (any_result (ending ls)) (λ x any. let lines : HasLines (record { routers = s.routers }) =
    routers_lines s is in lines))

of_result : (bs : List ℕ) (r : Result (List Line) ReadRefusal) → lines_of bs ≡ r → IfOk (r >>= (λ (ls : List Line). network_of_lines (texts_of bs ls))) HasLines
of_result bs (Err fault) e = tt
of_result bs (Ok ls) e = of_lines (texts_of bs ls) (lines_numbered bs ls e)

-- ---- places

values_on : {X : Type 0} (r : ℕ) (owner : Router) (xs : List X) (n : ℕ) → map (λ (p : Place X). p.value) (map (place_on r owner) (enumerate_from n xs)) ≡ xs
values_on r owner [] n = refl
values_on r owner (x ∷ xs) n = ap (λ (ys : List _). x ∷ ys) (values_on r owner xs (n + 1))

-- the values of the places are the items of the routers
values_from : {X : Type 0} (items : Router → List X) (rs : List Router) (n : ℕ) →
    map (λ (p : Place X). p.value) (flat_map (places_on items) (enumerate_from n rs)) ≡ flat_map items rs
values_from items [] n = refl
values_from {X} items (r ∷ rs) n =
    map-append (λ (p : Place X). p.value) (places_on items (n, r)) (flat_map (places_on items) (enumerate_from (n + 1) rs))
    ∙ ap (λ (xs : List X). xs ++ map (λ (p : Place X). p.value) (flat_map (places_on items) (enumerate_from (n + 1) rs))) (values_on n r (items r) 0)
    ∙ ap (λ (xs : List X). items r ++ xs) (values_from items rs (n + 1))

values : {X : Type 0} (items : Router → List X) (network : Network) → map (λ (p : Place X). p.value) (places items network) ≡ flat_map items network.routers
unfolding places
values items network = values_from items network.routers 0

map_flat : {X : Type 0} (line : X → ℕ) (items : Router → List X) (rs : List Router) →
    map line (flat_map items rs) ≡ flat_map (λ (r : Router). map line (items r)) rs
map_flat line items [] = refl
map_flat line items (r ∷ rs) = map-append line (items r) (flat_map items rs) ∙ ap (λ (ks : List ℕ). map line (items r) ++ ks) (map_flat line items rs)

map_twice : {X : Type 0} (line : X → ℕ) (ps : List (Place X)) → map (λ (p : Place X). line p.value) ps ≡ map line (map (λ (p : Place X). p.value) ps)
map_twice line [] = refl
map_twice line (p ∷ ps) = ap (λ (ks : List ℕ). line p.value ∷ ks) (map_twice line ps)

place_lines : {X : Type 0} (line : X → ℕ) (items : Router → List X) (network : Network) →
    map (λ (p : Place X). line p.value) (places items network) ≡ flat_map (λ (r : Router). map line (items r)) network.routers
place_lines line items network = map_twice line (places items network) ∙ ap (map line) (values items network) ∙ map_flat line items network.routers

peers_of : (o : Option BgpProcess) → lines_of_neighbors (option_map_or (λ (process : BgpProcess). process.neighbors) o []) ≡ neighbors_in o
peers_of None = refl
peers_of (Some b) = refl

all_peers : (rs : List Router) → flat_map (λ (r : Router). map (λ (p : Neighbor). p.line) (neighbors_of r)) rs ≡ routers_neighbors rs
all_peers [] = refl
all_peers (r ∷ rs) = rw (peers_of r.bgp, all_peers rs) refl

value_lines : {X : Type 0} (line : X → Option ℕ) (ps : List (Place X)) →
    filter_map (λ (p : Place X). line p.value) ps ≡ filter_map line (map (λ (p : Place X). p.value) ps)
value_lines line [] = refl
value_lines line (p ∷ ps) = ap (λ (ks : List ℕ). cons_option (line p.value) ks) (value_lines line ps)

some_lines_flat : {X : Type 0} (line : X → Option ℕ) (items : Router → List X) (rs : List Router) →
    filter_map line (flat_map items rs) ≡ flat_map (λ (r : Router). filter_map line (items r)) rs
some_lines_flat line items [] = refl
some_lines_flat line items (r ∷ rs) = filter_map-append line (items r) (flat_map items rs)
    ∙ ap (λ (ks : List ℕ). filter_map line (items r) ++ ks) (some_lines_flat line items rs)

in_order : (network : Network) → HasLines network → AreLines (routers_addresses network.routers) → PlacesAreInOrder network
in_order network has given =
    let interfaces = place_lines (λ (i : Interface). i.line) interfaces_of network in
    let addresses = value_lines address_line_of (places interfaces_of network) ∙ ap (filter_map address_line_of) (values interfaces_of network)
    ∙ some_lines_flat address_line_of interfaces_of network.routers in
    let neighbors = place_lines (λ (p : Neighbor). p.line) neighbors_of network ∙ all_peers network.routers in
    record {
      interfaces = rw interfaces has.0.ascending;
      addresses = rw addresses given.ascending;
      neighbors = rw neighbors has.1.ascending;
      few_interfaces = (let count = length-map (places interfaces_of network) interface_line in let few = has.0.few in
          omega (arith, sym count, ap (λ (ks : List ℕ). length ks) interfaces));
      few_neighbors = (let count = length-map (places neighbors_of network) neighbor_line_at in let few = has.1.few in
          omega (arith, sym count, ap (λ (ks : List ℕ). length ks) neighbors));
    }

-- ---- the addresses

abbrev HasAddresses : Network → Type 0
HasAddresses n = AreLines (routers_addresses n.routers)

addresses_of_lines : (ls : List TextLine) → AreNumbered 0 ls → IfOk (network_of_lines ls) HasAddresses
unfolding network_of_lines
addresses_of_lines ls are =
    then_step HasAddressesInOrder HasAddresses (steps at_start ls) _ (address_steps ls at_start 0 are start_addresses)
    (λ s is. then_step IsAny HasAddresses (ending ls) _ (any_result (ending ls)) (λ x any. let lines : HasAddresses (record { routers = s.routers }) =
    addresses_lines s is in lines))

addresses_of_result : (bs : List ℕ) (r : Result (List Line) ReadRefusal) → lines_of bs ≡ r →
    IfOk (r >>= (λ (ls : List Line). network_of_lines (texts_of bs ls))) HasAddresses
addresses_of_result bs (Err fault) e = tt
addresses_of_result bs (Ok ls) e = addresses_of_lines (texts_of bs ls) (lines_numbered bs ls e)

-- ---- networks that some text gives

of_text : (network : Network) → IsGiven network → PlacesAreInOrder network
unfolding network_of_text
of_text network (bs, e) = in_order network (IfOk-at_ok HasLines e (of_result bs (lines_of bs) refl))
    (IfOk-at_ok HasAddresses e (addresses_of_result bs (lines_of bs) refl))

PlacesAreInOrder-prop : (network : Network) → IsProp (PlacesAreInOrder network)
PlacesAreInOrder-prop network = hlevel (props, ascending_prop)

pub given_places_are_in_order : GivenPlacesAreInOrder
given_places_are_in_order network known = ∥∥₁_elim known (PlacesAreInOrder-prop network) (λ given. of_text network given)
