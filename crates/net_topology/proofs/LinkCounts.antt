-- The pairs that the limit on links counts are the adjacencies. Public: crates above may cite it.
use Rattle.std.proofs.Common.{◌≡◌, ℕ, ◌+◌, ◌<◌, ◌≤◌, Bool, true, false, cond, ◌&&◌, List, [], ◌∷◌, ◌++◌, map, length, inl, inr, Option, Some, None, refl, sym, ◌∙◌, ap, arith, append_assoc}
use Rattle.std.specs.Prelude.{filter, filter_map, flat_map, nat_eq, nat_lt}
use Rattle.std.specs.List.{enumerate_from, cons_option}
use Rattle.std.proofs.lemmas.Bool.Decides.{nat_tests}
use Rattle.std.proofs.lemmas.List.{length-append, length-map}
use Rattle.std.proofs.lemmas.List.Elements.{filter_map-append}
use Rattle.base_kit.proofs.Elements.{In, append_in, map_in}
use Rattle.cfg_ast.specs.meaning.Addresses.{Address}
use Rattle.cfg_ast.specs.declared.interface.Interface.{Interface}
use Rattle.cfg_ast.specs.declared.network.Network.{Network}
use Rattle.cfg_ast.specs.declared.network.Router.{Router}
use Rattle.cfg_ast.specs.meaning.RouterFaults.{Added, active_addresses_of, added_by, added_after, exceeding, too_many_links_lines}
use Rattle.cfg_check.specs.Items.{active_address_on}
use Rattle.cfg_ast.specs.meaning.Topology.{Place, place_on, places_on, places, interfaces_of, links_from, link_between, are_adjacent, active_address, both_in_one_subnet, same_subnet, first_address, adjacencies_of}
use Rattle.net_topology.proofs.ActiveAddresses.{active_here}
use Rattle.net_topology.proofs.PairCounts.{one_if, passing, pairs, length_filter, pairs_append_left, pairs_append_right, pairs_same, no_pairs, pairs_turned}

-- ---- links by pairs

pub links_counted : {X : Type 0} (joins : Place X → Place X → Bool) (ps qs : List (Place X)) → length (flat_map (links_from joins qs) ps) ≡ pairs joins ps qs
links_counted joins [] qs = refl
links_counted {X} joins (p ∷ ps) qs =
    let r = links_counted joins ps qs in
    let a = length-append (links_from joins qs p) (flat_map (links_from joins qs) ps) in
    let b = length-map (filter (joins p) qs) (link_between p) in
    let c = length_filter (joins p) qs in
    omega arith

-- ---- addresses of places

both_last : (a : Address) (o : Option Address) (found : List Address) (n : ℕ) → n ≡ passing (same_subnet a) found →
    one_if (both_in_one_subnet (Some a) o) + n ≡ passing (same_subnet a) (cons_option o found)
both_last a None found n e = let z = e in omega arith
both_last a (Some b) found n e = ap (λ m. one_if (same_subnet a b) + m) e

row_with : {Y : Type 0} (at : Y → Option Address) (a : Address) (ys : List Y) →
    passing (λ y. both_in_one_subnet (Some a) (at y)) ys ≡ passing (same_subnet a) (filter_map at ys)
row_with at a [] = refl
row_with at a (y ∷ ys) = both_last a (at y) (filter_map at ys) (passing (λ z. both_in_one_subnet (Some a) (at z)) ys) (row_with at a ys)

row_without : {Y : Type 0} (at : Y → Option Address) (ys : List Y) → passing (λ y. both_in_one_subnet None (at y)) ys ≡ 0
row_without at [] = refl
row_without at (y ∷ ys) = let r = row_without at ys in omega arith

row_next : {Y : Type 0} (at : Y → Option Address) (o : Option Address) (ys : List Y) (found : List Address) (n : ℕ) →
    n ≡ pairs same_subnet found (filter_map at ys)
    → passing (λ y. both_in_one_subnet o (at y)) ys + n ≡ pairs same_subnet (cons_option o found) (filter_map at ys)
row_next at None ys found n e = let r = row_without at ys in let z = e in omega arith
row_next at (Some a) ys found n e = let r = row_with at a ys in let z = e in omega arith

pub pairs_of_addresses : {X : Type 0} (at : X → Option Address) (xs ys : List X) →
    pairs (λ x y. both_in_one_subnet (at x) (at y)) xs ys ≡ pairs same_subnet (filter_map at xs) (filter_map at ys)
pairs_of_addresses at [] ys = refl
pairs_of_addresses at (x ∷ xs) ys = row_next at (at x) ys (filter_map at xs) (pairs (λ z y. both_in_one_subnet (at z) (at y)) xs ys)
    (pairs_of_addresses at xs ys)

pub either_way : (m n : ℕ) → nat_eq m n ≡ nat_eq n m
either_way m n = grind (arith, nat_tests)

pub subnet_either_way : (a b : Address) → same_subnet a b ≡ same_subnet b a
subnet_either_way a b = ap (λ c. c && nat_eq (first_address a) (first_address b)) (either_way a.len b.len)
    ∙ ap (λ c. nat_eq b.len a.len && c) (either_way (first_address a) (first_address b))

addresses_here : (k i : ℕ) (router : Router) (xs : List Interface) →
    filter_map active_address (map (place_on k router) (enumerate_from i xs)) ≡ filter_map (active_address_on router) xs
addresses_here k i router [] = refl
addresses_here k i router (x ∷ xs) =
    ap (λ (o : Option Address). cons_option o (filter_map active_address (map (place_on k router) (enumerate_from (i + 1) xs))))
    (active_here (place_on k router (i, x)))
    ∙ ap (λ (l : List Address). cons_option (active_address_on router x) l) (addresses_here k (i + 1) router xs)

-- ---- pairs router by router

pub added_pairs : List Added → ℕ
added_pairs [] = 0
added_pairs (a ∷ rest) = a.pairs + added_pairs rest

added_by_all : (earlier mine : List Address) (rest : List Added) →
    added_pairs (map (added_by earlier) mine ++ rest) ≡ pairs same_subnet mine earlier + added_pairs rest
unfolding added_pairs
added_by_all earlier [] rest = omega arith
added_by_all earlier (a ∷ mine) rest = let r = added_by_all earlier mine rest in let s = length_filter (same_subnet a) earlier in omega arith

abbrev here_on : ℕ → Router → List (Place Interface)
here_on k router = places_on interfaces_of (k, router)

on_router : (k : ℕ) (router : Router) (p : Place Interface) → In (here_on k router) p → p.router ≡ k
on_router k router p at = let made = map_in (place_on k router) (enumerate_from 0 router.interfaces) p at in sym (ap (λ (q : Place Interface). q.router) made.2)

abbrev share : Place Interface → Place Interface → Bool
share p q = both_in_one_subnet (active_address p) (active_address q)

later_apart : (p q : Place Interface) → p.router < q.router → are_adjacent p q ≡ share p q
later_apart p q less = ap (λ b. b && share p q) (let e : nat_lt p.router q.router ≡ true = grind (arith, nat_tests) in e)

never_earlier : (p q : Place Interface) → q.router ≤ p.router → are_adjacent p q ≡ false
never_earlier p q le = ap (λ b. b && share p q) (let e : nat_lt p.router q.router ≡ false = grind (arith, nat_tests) in e)

abbrev AreBefore : ℕ → List (Place Interface) → Type 0
AreBefore k before = (p : Place Interface) → In before p → p.router < k

-- one router more
pairs_with : (k : ℕ) (router : Router) (before : List (Place Interface)) → AreBefore k before
    → pairs are_adjacent (before ++ here_on k router) (before ++ here_on k router) ≡ pairs are_adjacent before before + pairs same_subnet
    (active_addresses_of router) (filter_map active_address before)
pairs_with k router before earlier =
    let here = here_on k router in
    let all = pairs_append_left are_adjacent before here (before ++ here) in
    let first = pairs_append_right are_adjacent before before here in
    let second = no_pairs are_adjacent here (before ++ here) (λ p q at also. (let a = on_router k router p at in elim (append_in before here q also) [
      | inl b ↦ never_earlier p q (let c = earlier q b in omega arith)
      | inr h ↦ never_earlier p q (let c = on_router k router q h in omega arith)
    ])) in
    let shared = pairs_same are_adjacent share before here
    (λ p q at also. later_apart p q (let a = earlier p at in let b = on_router k router q also in omega arith)) in
    let found = pairs_of_addresses active_address before here in
    let turned = pairs_turned same_subnet (filter_map active_address before) (filter_map active_address here) in
    let same = pairs_same (λ a b. same_subnet b a) same_subnet (filter_map active_address here) (filter_map active_address before)
    (λ a b at also. subnet_either_way b a) in
    let addresses = ap (λ (l : List Address). pairs same_subnet l (filter_map active_address before)) (addresses_here k 0 router router.interfaces) in
    omega arith

before_next : (k : ℕ) (router : Router) (before : List (Place Interface)) → AreBefore k before → AreBefore (k + 1) (before ++ here_on k router)
before_next k router before earlier p at = elim (append_in before (here_on k router) p at) [
  | inl b ↦ (let c = earlier p b in omega arith)
  | inr h ↦ (let c = on_router k router p h in omega arith)
]

abbrev later_from : ℕ → List Router → List (Place Interface)
later_from k routers = flat_map (places_on interfaces_of) (enumerate_from k routers)

addresses_next : (k : ℕ) (router : Router) (before : List (Place Interface)) →
    filter_map active_address (before ++ here_on k router) ≡ filter_map active_address before ++ active_addresses_of router
addresses_next k router before = filter_map-append active_address before (here_on k router)
    ∙ ap (λ (l : List Address). filter_map active_address before ++ l) (addresses_here k 0 router router.interfaces)

no_more : {X : Type 0} (xs : List X) → xs ++ [] ≡ xs
no_more [] = refl
no_more (x ∷ xs) = ap (λ ys. x ∷ ys) (no_more xs)

pairs_grow : (k : ℕ) (routers : List Router) (before : List (Place Interface)) → AreBefore k before
    → pairs are_adjacent (before ++ later_from k routers) (before ++ later_from k routers) ≡ pairs are_adjacent before before + added_pairs
    (added_after (filter_map active_address before) routers)
unfolding added_pairs
pairs_grow k [] before earlier = ap (λ (l : List (Place Interface)). pairs are_adjacent l l) (no_more before) ∙ omega arith
pairs_grow k (router ∷ routers) before earlier =
    let here = here_on k router in
    let later = later_from (k + 1) routers in
    let joined = ap (λ (l : List (Place Interface)). pairs are_adjacent l l) (append_assoc before here later) in
    let rest = pairs_grow (k + 1) routers (before ++ here) (before_next k router before earlier) in
    let addresses = ap (λ (l : List Address). added_pairs (added_after l routers)) (addresses_next k router before) in
    let one = pairs_with k router before earlier in
    let added = added_by_all (filter_map active_address before) (active_addresses_of router)
    (added_after (filter_map active_address before ++ active_addresses_of router) routers) in
    omega arith

none_before : (m : ℕ) → 0 + m ≡ m
none_before m = omega arith

-- the limit counts the adjacencies
pub adjacencies_counted : (n : Network) → length (adjacencies_of n) ≡ added_pairs (added_after [] n.routers)
unfolding adjacencies_of places
adjacencies_counted n = links_counted are_adjacent (places interfaces_of n) (places interfaces_of n) ∙ pairs_grow 0 n.routers [] (λ p at. absurd at)
    ∙ none_before (added_pairs (added_after [] n.routers))

-- ---- the limit

not_beyond : (limit sum : ℕ) (a : Added) (rest : List ℕ) (b : Bool) → nat_lt limit (sum + a.pairs) ≡ b → cond b (a.line ∷ []) rest ≡ [] →
    (sum + a.pairs ≤ limit) × (rest ≡ [])
not_beyond limit sum a rest true is none = absurd cc
not_beyond limit sum a rest false is none = (grind (arith, nat_tests), none)

within : (limit sum : ℕ) (added : List Added) → sum ≤ limit → exceeding limit sum added ≡ [] → sum + added_pairs added ≤ limit
unfolding added_pairs
within limit sum [] le none = omega arith
within limit sum (a ∷ added) le none =
    let here = not_beyond limit sum a (exceeding limit (sum + a.pairs) added) (nat_lt limit (sum + a.pairs)) refl none in
    let r = within limit (sum + a.pairs) added here.0 here.1 in
    omega arith

pub few_adjacencies : (n : Network) → too_many_links_lines n ≡ [] → length (adjacencies_of n) ≤ 1048576
unfolding too_many_links_lines
few_adjacencies n none = let counted = adjacencies_counted n in let few = within 1048576 0 (added_after [] n.routers) (omega arith) none in omega arith

none_beyond : (limit sum pairs : ℕ) → sum + pairs ≤ limit → nat_lt limit (sum + pairs) ≡ false
none_beyond limit sum pairs few = grind (arith, nat_tests)

none_exceeding : (limit sum : ℕ) (added : List Added) → sum + added_pairs added ≤ limit → exceeding limit sum added ≡ []
unfolding added_pairs
none_exceeding limit sum [] few = refl
none_exceeding limit sum (a ∷ rest) few = rw (none_beyond limit sum a.pairs (omega arith)) (none_exceeding limit (sum + a.pairs) rest (omega arith))

-- where no more interfaces are adjacent than may be, no line exceeds the limit
pub few_are_no_fault : (n : Network) → length (adjacencies_of n) ≤ 1048576 → too_many_links_lines n ≡ []
unfolding too_many_links_lines
few_are_no_fault n few = let counted = adjacencies_counted n in none_exceeding 1048576 0 (added_after [] n.routers) (omega arith)
