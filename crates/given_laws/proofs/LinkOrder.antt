-- The links of a network that some text gives ascend by the pairs of the lines of their ends. Public:
-- crates above may cite it.
use Rattle.std.proofs.Common.{◌≡◌, ℕ, ◌<◌, ◌≤◌, ◌+◌, ◌⊎◌, Bool, true, false, cond, not, ◌&&◌, List, [], ◌∷◌, ◌++◌, map, Option, Some, None, inl, inr, refl, sym, ◌∙◌, ap, subst, arith}
use Rattle.std.specs.Prelude.{filter, filter_map, flat_map, nat_lt}
use Rattle.std.specs.Option.{option_map, option_map_or}
use Rattle.std.specs.List.{AllByRecursion, cons_option, enumerate_from, list_any}
use Rattle.std.proofs.lemmas.Bool.Decides.{nat_tests}
use Rattle.std.proofs.lemmas.List.{map-append}
use Rattle.base_kit.proofs.Elements.{In, append_in, filter_in, map_in, flat_map_in}
use Rattle.base_kit.specs.Sets.{AllAbove, IsAscending}
use Rattle.cfg_ast.specs.declared.interface.Interface.{Interface}
use Rattle.cfg_ast.specs.declared.network.Network.{Network}
use Rattle.cfg_ast.specs.declared.network.Router.{Router}
use Rattle.cfg_ast.specs.declared.topology.Link.{Link}
use Rattle.cfg_ast.specs.meaning.Addresses.{Address}
use Rattle.cfg_ast.specs.meaning.Topology.{Place, place_on, places, places_on, interfaces_of, neighbors_of, links_from, link_between, is_session, are_adjacent, share_area_subnet, both_in_one_subnet, active_address, is_active_interface, are_peers, unmatched_at, unmatched_of}
use Rattle.given_laws.specs.Laws.{neighbor_line_at, given_address_line, address_line_at, Ends, ends_from, link_of_ends, IsPairBefore, ArePairsAscending, AreByLines, IsLesserFirst, unmatched_places, PlacesAreInOrder, LinksAreInOrder, GivenLinksAreInOrder}
use Rattle.given_laws.proofs.PlaceOrder.{given_places_are_in_order}

-- ---- the ends of links

ends_mapped : {X : Type 0} (p : Place X) (qs : List (Place X)) → map (link_between p) qs ≡ map link_of_ends (map (λ q. (p, q)) qs)
ends_mapped p [] = refl
ends_mapped p (q ∷ qs) = ap (λ (ls : List Link). link_between p q ∷ ls) (ends_mapped p qs)

ends_of_links : {X : Type 0} (joins : Place X → Place X → Bool) (qs ps : List (Place X)) →
    flat_map (links_from joins qs) ps ≡ map link_of_ends (flat_map (ends_from joins qs) ps)
ends_of_links joins qs [] = refl
ends_of_links joins qs (p ∷ ps) =
    ap (λ (ls : List Link). ls ++ flat_map (links_from joins qs) ps) (ends_mapped p (filter (joins p) qs))
    ∙ ap (λ (ls : List Link). map link_of_ends (ends_from joins qs p) ++ ls) (ends_of_links joins qs ps)
    ∙ sym (map-append link_of_ends (ends_from joins qs p) (flat_map (ends_from joins qs) ps))

-- ---- ascending pairs

all_in : {X : Type 0} (P : X → Type 0) (xs : List X) → ((x : X) → In xs x → P x) → AllByRecursion P xs
all_in P [] each = tt
all_in P (x ∷ xs) each = (each x (inl refl), all_in P xs (λ y at. each y (inr at)))

all_append : {X : Type 0} (P : X → Type 0) (xs ys : List X) → AllByRecursion P xs → AllByRecursion P ys → AllByRecursion P (xs ++ ys)
all_append P [] ys first second = second
all_append P (x ∷ xs) ys first second = (first.0, all_append P xs ys first.1 second)

pairs_append : (xs ys : List (ℕ × ℕ)) → ArePairsAscending xs → ArePairsAscending ys → ((x y : ℕ × ℕ) → In xs x → In ys y → IsPairBefore x y) →
    ArePairsAscending (xs ++ ys)
pairs_append [] ys first second before = second
pairs_append (x ∷ xs) ys first second before = (
  all_append (IsPairBefore x) xs ys first.0 (all_in (IsPairBefore x) ys (λ y at. before x y (inl refl) at)),
  pairs_append xs ys first.1 second (λ z y at also. before z y (inr at) also),
)

-- ---- places by routers

-- no later place is on an earlier router
abbrev FollowsRouters : {X : Type 0} → List (Place X) → Type 0
FollowsRouters [] = Unit {0}
FollowsRouters {X} (p ∷ ps) = ((q : Place X) → In ps q → p.router ≤ q.router) × FollowsRouters ps

follows_append : {X : Type 0} (ps qs : List (Place X)) → FollowsRouters ps → FollowsRouters qs → ((p q : Place X) → In ps p → In qs q → p.router ≤ q.router) →
    FollowsRouters (ps ++ qs)
follows_append [] qs first second before = second
follows_append {X} (p ∷ ps) qs first second before =
    ((λ q at. either q (append_in ps qs q at)), follows_append ps qs first.1 second (λ r s at also. before r s (inr at) also))
  where
    either : (q : Place X) → In ps q ⊎ In qs q → p.router ≤ q.router
    either q (inl at) = first.0 q at
    either q (inr at) = before p q (inl refl) at

on_router : {X : Type 0} (items : Router → List X) (numbered : ℕ × Router) (p : Place X) → In (places_on items numbered) p → numbered.0 ≡ p.router
on_router items numbered p at =
    let from = map_in (place_on numbered.0 numbered.1) (enumerate_from 0 (items numbered.1)) p at in
    ap (λ place. place.router) from.2

one_router : {X : Type 0} (k : ℕ) (ps : List (Place X)) → ((p : Place X) → In ps p → k ≡ p.router) → FollowsRouters ps
one_router k [] each = tt
one_router k (p ∷ ps) each = (
  (λ q at. (let first = each p (inl refl) in let second = each q (inr at) in omega arith)),
  one_router k ps (λ q at. each q (inr at)),
)

number_from : {Y : Type 0} (k : ℕ) (ys : List Y) (numbered : ℕ × Y) → In (enumerate_from k ys) numbered → k ≤ numbered.0
number_from k [] numbered at = absurd at
number_from {Y} k (y ∷ ys) numbered (inl same) = let e = ap (λ (pair : ℕ × Y). pair.0) same in omega arith
number_from k (y ∷ ys) numbered (inr at) = let more = number_from (k + 1) ys numbered at in omega arith

follows_from : {X : Type 0} (items : Router → List X) (k : ℕ) (routers : List Router) → FollowsRouters (flat_map (places_on items) (enumerate_from k routers))
follows_from items k [] = tt
follows_from {X} items k (router ∷ routers) =
    follows_append (places_on items (k, router)) (flat_map (places_on items) (enumerate_from (k + 1) routers))
    (one_router k (places_on items (k, router)) (on_router items (k, router)))
    (follows_from items (k + 1) routers)
    (λ p q at also.
    let place = flat_map_in (places_on items) (enumerate_from (k + 1) routers) q also in
    let first = on_router items (k, router) p at in
    let second = on_router items place.0 q place.2 in
    let later = number_from (k + 1) routers place.0 place.1 in
    omega arith)

follows_routers : {X : Type 0} (items : Router → List X) (network : Network) → FollowsRouters (places items network)
unfolding places
follows_routers items network = follows_from items 0 network.routers

-- ---- links by lines

-- lines of places that have one ascend
abbrev Rises : {X : Type 0} → (Place X → Option ℕ) → List (Place X) → Type 0
Rises some_line [] = Unit {0}
Rises {X} some_line (p ∷ ps) = ((q : Place X) (m n : ℕ) → In ps q → some_line p ≡ Some m → some_line q ≡ Some n → m < n) × Rises some_line ps

-- of two places that have lines, the one on the earlier router has the lesser line
less_on : {X : Type 0} (some_line : Place X → Option ℕ) (ps : List (Place X)) → Rises some_line ps → FollowsRouters ps → (p q : Place X) (m n : ℕ) → In ps p →
    In ps q → p.router < q.router
    → some_line p ≡ Some m → some_line q ≡ Some n → m < n
less_on some_line [] up follows p q m n at also earlier first second = absurd at
less_on {X} some_line (x ∷ ps) up follows p q m n (inl same) (inl again) earlier first second =
    let e = ap (λ (place : Place X). place.router) same in let f = ap (λ (place : Place X). place.router) again in absurd (omega arith)
less_on some_line (x ∷ ps) up follows p q m n (inl same) (inr also) earlier first second = up.0 q m n also (ap some_line same ∙ first) second
less_on {X} some_line (x ∷ ps) up follows p q m n (inr at) (inl again) earlier first second =
    let e = follows.0 p at in let f = ap (λ (place : Place X). place.router) again in absurd (omega arith)
less_on some_line (x ∷ ps) up follows p q m n (inr at) (inr also) earlier first second =
    less_on some_line ps up.1 follows.1 p q m n at also earlier first second

module _ {X : Type 0} (joins : Place X → Place X → Bool) (some_line : Place X → Option ℕ) (line : Place X → ℕ)
    (has : (p q : Place X) → joins p q ≡ true → (some_line p ≡ Some (line p)) × (some_line q ≡ Some (line q)))
    (earlier : (p q : Place X) → joins p q ≡ true → p.router < q.router) where
  abbrev lines_of : Ends X → ℕ × ℕ
  lines_of e = (line e.0, line e.1)

  row_step : (p q : Place X) (qs : List (Place X)) (b : Bool) → joins p q ≡ b →
      ((r : Place X) (m n : ℕ) → In qs r → some_line q ≡ Some m → some_line r ≡ Some n → m < n)
      → ArePairsAscending (map lines_of (map (λ r. (p, r)) (filter (joins p) qs))) →
      ArePairsAscending (map lines_of (map (λ r. (p, r)) (cond b (q ∷ filter (joins p) qs) (filter (joins p) qs))))
  row_step p q qs true joined before rest = (
    all_in (IsPairBefore (line p, line q)) (map lines_of (map (λ r. (p, r)) (filter (joins p) qs)))
        (λ pair at.
        let end = map_in lines_of (map (λ r. (p, r)) (filter (joins p) qs)) pair at in
        let from = map_in (λ r. (p, r)) (filter (joins p) qs) end.0 end.1 in
        let kept = filter_in (joins p) qs from.0 from.1 in
        let less = before from.0 (line q) (line from.0) kept.0 (has p q joined).1 (has p from.0 kept.1).1 in
        subst (IsPairBefore (line p, line q)) (ap lines_of from.2 ∙ end.2) (inr (refl, less))),
    rest,
  )
  row_step p q qs false joined before rest = rest

  row : (p : Place X) (qs : List (Place X)) → Rises some_line qs → ArePairsAscending (map lines_of (ends_from joins qs p))
  row p [] up = tt
  row p (q ∷ qs) up = row_step p q qs (joins p q) refl up.0 (row p qs up.1)

  rows : (qs ps : List (Place X)) → Rises some_line qs → Rises some_line ps → ArePairsAscending (map lines_of (flat_map (ends_from joins qs) ps))
  rows qs [] up rising = tt
  rows qs (p ∷ ps) up rising =
      subst ArePairsAscending (sym (map-append lines_of (ends_from joins qs p) (flat_map (ends_from joins qs) ps)))
      (pairs_append (map lines_of (ends_from joins qs p)) (map lines_of (flat_map (ends_from joins qs) ps)) (row p qs up) (rows qs ps up rising.1)
      (λ x y at also.
      let end = map_in lines_of (ends_from joins qs p) x at in
      let from = map_in (λ r. (p, r)) (filter (joins p) qs) end.0 end.1 in
      let kept = filter_in (joins p) qs from.0 from.1 in
      let other = map_in lines_of (flat_map (ends_from joins qs) ps) y also in
      let place = flat_map_in (ends_from joins qs) ps other.0 other.1 in
      let there = map_in (λ r. (place.0, r)) (filter (joins place.0) qs) other.0 place.2 in
      let joined = filter_in (joins place.0) qs there.0 there.1 in
      let less = rising.0 place.0 (line p) (line place.0) place.1 (has p from.0 kept.1).0 (has place.0 there.0 joined.1).0 in
      let first : line p ≡ x.0 = ap (λ (e : Ends X). line e.0) from.2 ∙ ap (λ (k : ℕ × ℕ). k.0) end.2 in
      let second : line place.0 ≡ y.0 = ap (λ (e : Ends X). line e.0) there.2 ∙ ap (λ (k : ℕ × ℕ). k.0) other.2 in
      inl (omega arith)))

  lesser_firsts : (ps : List (Place X)) → Rises some_line ps → FollowsRouters ps → AllByRecursion (IsLesserFirst line) (flat_map (ends_from joins ps) ps)
  lesser_firsts ps up follows = all_in (IsLesserFirst line) (flat_map (ends_from joins ps) ps)
      (λ e at.
      let place = flat_map_in (ends_from joins ps) ps e at in
      let from = map_in (λ r. (place.0, r)) (filter (joins place.0) ps) e place.2 in
      let kept = filter_in (joins place.0) ps from.0 from.1 in
      let lines = has place.0 from.0 kept.1 in
      subst (IsLesserFirst line) from.2 (less_on some_line ps up follows place.0 from.0 (line place.0) (line from.0) place.1 kept.0
      (earlier place.0 from.0 kept.1) lines.0 lines.1))

  by_lines : (ps : List (Place X)) → Rises some_line ps → FollowsRouters ps → AreByLines joins line ps
  by_lines ps up follows = record { ends = ends_of_links joins ps ps; ascending = rows ps ps up up; lesser_first = lesser_firsts ps up follows }

-- ---- lines of places

above_in : {X : Type 0} (line : Place X → ℕ) (n : ℕ) (ps : List (Place X)) (q : Place X) → AllAbove n (map line ps) → In ps q → n < line q
above_in line n [] q above at = absurd at
above_in line n (p ∷ ps) q above (inl same) = let less = above.0 in let e = ap line same in omega arith
above_in line n (p ∷ ps) q above (inr at) = above_in line n ps q above.1 at

rises_all : {X : Type 0} (line : Place X → ℕ) (ps : List (Place X)) → IsAscending (map line ps) → Rises (λ p. Some (line p)) ps
rises_all line [] up = tt
rises_all line (p ∷ ps) up = (
  (λ q m n at e f. (let first : line p ≡ m = cc in let second : line q ≡ n = cc in let less = above_in line (line p) ps q up.0 at in
      omega arith)),
  rises_all line ps up.1,
)

above_some : {X : Type 0} (line : Place X → Option ℕ) (n m : ℕ) (ps : List (Place X)) (q : Place X) → AllAbove n (filter_map line ps) → In ps q →
    line q ≡ Some m → n < m
above_some line n m [] q above at e = absurd at
above_some {X} line n m (p ∷ ps) q above at e = by (line p) refl above at (λ rest behind. above_some line n m ps q rest behind e)
  where
    by : (o : Option ℕ) → line p ≡ o → AllAbove n (cons_option o (filter_map line ps)) → In (p ∷ ps) q → (AllAbove n (filter_map line ps) → In ps q → n < m) →
        n < m
    by None is above (inl same) more = let f : line p ≡ Some m = ap line same ∙ e in absurd cc
    by None is above (inr behind) more = more above behind
    by (Some k) is above (inl same) more = let f : line p ≡ Some m = ap line same ∙ e in let g : k ≡ m = cc in let less = above.0 in omega arith
    by (Some k) is above (inr behind) more = more above.1 behind

rises_some_step : {X : Type 0} (line : Place X → Option ℕ) (p : Place X) (ps : List (Place X)) (o : Option ℕ) → line p ≡ o →
    IsAscending (cons_option o (filter_map line ps)) → (IsAscending (filter_map line ps) → Rises line ps) → Rises line (p ∷ ps)
rises_some_step line p ps None is up more = ((λ q m n at e f. absurd cc), more up)
rises_some_step line p ps (Some k) is up more =
    ((λ q m n at e f. (let g : k ≡ m = cc in let less = above_some line k n ps q up.0 at f in omega arith)), more up.1)

rises_some : {X : Type 0} (line : Place X → Option ℕ) (ps : List (Place X)) → IsAscending (filter_map line ps) → Rises line ps
rises_some line [] up = tt
rises_some line (p ∷ ps) up = rises_some_step line p ps (line p) refl up (λ rest. rises_some line ps rest)

-- ---- adjacent interfaces have addresses

and_second : (a b : Bool) → (a && b) ≡ true → b ≡ true
and_second true b e = e
and_second false b e = absurd cc

both_some : (o u : Option Address) → both_in_one_subnet o u ≡ true → ((a : Address) × (o ≡ Some a)) × ((b : Address) × (u ≡ Some b))
both_some (Some a) (Some b) h = ((a, refl), (b, refl))
both_some (Some a) None h = absurd cc
both_some None u h = absurd cc

has_line : (b : Bool) (o : Option Address) (a : Address) → cond b o None ≡ Some a → o ≡ Some a
has_line true o a e = e
has_line false o a e = absurd cc

address_has_line : (p : Place Interface) (a : Address) → active_address p ≡ Some a → given_address_line p ≡ Some (address_line_at p)
address_has_line p a active = line_of p.value.address (has_line (is_active_interface p.owner p.value) p.value.address a active)
  where
    line_of : (o : Option Address) → o ≡ Some a → option_map (λ (b : Address). b.line) o ≡ Some (option_map_or (λ (b : Address). b.line) o 0)
    line_of (Some b) e = refl
    line_of None e = absurd cc

adjacent_lines : (p q : Place Interface) → are_adjacent p q ≡ true → (given_address_line p ≡ Some (address_line_at p))
    × (given_address_line q ≡ Some (address_line_at q))
adjacent_lines p q joined =
    let both = both_some (active_address p) (active_address q) (and_second (nat_lt p.router q.router) (share_area_subnet p q) joined) in
    (address_has_line p both.0.0 both.0.1, address_has_line q both.1.0 both.1.1)

and_first : (a b : Bool) → (a && b) ≡ true → a ≡ true
and_first true b e = refl
and_first false b e = absurd cc

first_earlier : {X : Type 0} (p q : Place X) (b : Bool) → (nat_lt p.router q.router && b) ≡ true → p.router < q.router
first_earlier p q b joined = let less = and_first (nat_lt p.router q.router) b joined in grind (arith, nat_tests)

-- ---- places that are kept ascend

above_kept : {X : Type 0} (line : Place X → ℕ) (test : Place X → Bool) (n : ℕ) (ps : List (Place X)) → AllAbove n (map line ps) →
    AllAbove n (map line (filter test ps))
above_kept line test n [] above = tt
above_kept {X} line test n (p ∷ ps) above = by (test p) (above_kept line test n ps above.1)
  where
    by : (b : Bool) → AllAbove n (map line (filter test ps)) → AllAbove n (map line (cond b (p ∷ filter test ps) (filter test ps)))
    by true rest = (above.0, rest)
    by false rest = rest

ascending_kept : {X : Type 0} (line : Place X → ℕ) (test : Place X → Bool) (ps : List (Place X)) → IsAscending (map line ps) →
    IsAscending (map line (filter test ps))
ascending_kept line test [] up = tt
ascending_kept {X} line test (p ∷ ps) up = by (test p) (ascending_kept line test ps up.1)
  where
    by : (b : Bool) → IsAscending (map line (filter test ps)) → IsAscending (map line (cond b (p ∷ filter test ps) (filter test ps)))
    by true rest = (above_kept line test (line p) ps up.0, rest)
    by false rest = rest

-- ---- networks that some text gives

unmatched_listed : (network : Network) → unmatched_of network ≡ map unmatched_at (unmatched_places network)
unfolding unmatched_of
unmatched_listed network = refl

in_order : (network : Network) → PlacesAreInOrder network → LinksAreInOrder network
in_order network is = record {
  sessions = by_lines is_session (λ p. Some (neighbor_line_at p)) neighbor_line_at (λ p q joined. (refl, refl))
      (λ p q joined. first_earlier p q (are_peers p q) joined)
      (places neighbors_of network) (rises_all neighbor_line_at (places neighbors_of network) is.neighbors) (follows_routers neighbors_of network);
  adjacencies = by_lines are_adjacent given_address_line address_line_at adjacent_lines (λ p q joined. first_earlier p q (share_area_subnet p q) joined)
      (places interfaces_of network) (rises_some given_address_line (places interfaces_of network) is.addresses) (follows_routers interfaces_of network);
  unmatched = unmatched_listed network;
  unmatched_ascending = ascending_kept neighbor_line_at (λ p. not (list_any (are_peers p) (places neighbors_of network))) (places neighbors_of network)
      is.neighbors;
}

pub given_links_are_in_order : GivenLinksAreInOrder
given_links_are_in_order network known = in_order network (given_places_are_in_order network known)
