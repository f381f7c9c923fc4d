-- A neighbour line is part of at most one session, so sessions are at most half as many as lines.
-- Public: crates above may cite it.
use Rattle.std.proofs.Common.{◌≡◌, ℕ, ◌+◌, ◌*◌, ◌≤◌, Bool, true, false, ◌&&◌, List, [], ◌∷◌, ◌++◌, map, length, inl, inr, refl, sym, ◌∙◌, ap, subst, arith}
use Rattle.std.specs.Prelude.{not, flat_map, nat_eq, nat_lt, Option, Some, None, IfSome}
use Rattle.std.specs.Option.{option_map_or}
use Rattle.std.specs.List.{AllByRecursion, IsDistinct, enumerate_from}
use Rattle.std.proofs.lemmas.Bool.{eqb-false}
use Rattle.std.proofs.lemmas.Bool.Decides.{nat_tests}
use Rattle.std.proofs.lemmas.List.{length-append, length-map}
use Rattle.base_kit.proofs.Elements.{In, map_in, flat_map_in, enumerate_in}
use Rattle.base_kit.proofs.SetFacts.{same_number}
use Rattle.cfg_ast.specs.declared.bgp.BgpProcess.{BgpProcess}
use Rattle.cfg_ast.specs.declared.bgp.Neighbor.{Neighbor}
use Rattle.cfg_ast.specs.declared.network.Network.{Network}
use Rattle.cfg_ast.specs.declared.network.Router.{Router}
use Rattle.cfg_ast.specs.meaning.Topology.{Place, place_on, places_on, places, neighbors_of, has_number, share_subnet, are_peers, is_session, sessions_of}
use Rattle.cfg_ast.specs.printing.WellFormed.{same_neighbor, IsWellFormedBgp, IsWellFormedRouter, IsWellFormed}
use Rattle.cfg_check.specs.Faultless.{IsFaultless}
use Rattle.net_topology.specs.Peers.{beside}
use Rattle.net_topology.specs.Ups.{up_at, ups_of}
use Rattle.net_topology.specs.declared.ups.Up.{Up}
use Rattle.net_topology.proofs.Apart.{AreApart, ups_apart}
use Rattle.net_topology.proofs.Ends.{AreJoined, joined_if, share_if, in_subnet, both, both_true, same_truth}
use Rattle.net_topology.proofs.Joined.{AreGood}
use Rattle.net_topology.proofs.LinkCounts.{links_counted, either_way, subnet_either_way}
use Rattle.net_topology.proofs.PairCounts.{one_if, passing, pairs, none_passing, pairs_turned}
use Rattle.net_topology.proofs.SessionLemmas.{IsPlace, all_places}
use Rattle.net_topology.proofs.UpFacts.{in_ups}

-- ---- lists in which nothing repeats

all_of : {X : Type 0} (P : X → Type 0) (xs : List X) → ((x : X) → In xs x → P x) → AllByRecursion P xs
all_of P [] each = tt
all_of P (x ∷ xs) each = (each x (inl refl), all_of P xs (λ y at. each y (inr at)))

all_in : {X : Type 0} (P : X → Type 0) (xs : List X) (x : X) → AllByRecursion P xs → In xs x → P x
all_in P [] x all at = absurd at
all_in P (y ∷ ys) x all (inl same) = subst P same all.0
all_in P (y ∷ ys) x all (inr at) = all_in P ys x all.1 at

all_append : {X : Type 0} (P : X → Type 0) (xs ys : List X) → AllByRecursion P xs → AllByRecursion P ys → AllByRecursion P (xs ++ ys)
all_append P [] ys first second = second
all_append P (x ∷ xs) ys first second = (first.0, all_append P xs ys first.1 second)

distinct_append : {X : Type 0} (same : X → X → Bool) (xs ys : List X) → IsDistinct same xs → IsDistinct same ys →
    ((x y : X) → In xs x → In ys y → same x y ≡ false) → IsDistinct same (xs ++ ys)
unfolding IsDistinct
distinct_append same [] ys first second apart = second
distinct_append same (x ∷ xs) ys first second apart = (
  all_append (λ y. same x y ≡ false) xs ys first.0 (all_of (λ y. same x y ≡ false) ys (λ y at. apart x y (inl refl) at)),
  distinct_append same xs ys first.1 second (λ z y at also. apart z y (inr at) also),
)

bool_is : (b : Bool) → (b ≡ true → ⊥) → b ≡ false
bool_is true never = absurd (never refl)
bool_is false never = refl

-- at most one of different items passes a test, if two that pass are the same
at_most_one : {X : Type 0} (same : X → X → Bool) (p : X → Bool) (xs : List X) → IsDistinct same xs →
    ((x y : X) → In xs x → In xs y → p x ≡ true → p y ≡ true → same x y ≡ true) → passing p xs ≤ 1
unfolding IsDistinct
at_most_one same p [] apart one = omega arith
at_most_one {X} same p (x ∷ xs) apart one = by (p x) refl (at_most_one same p xs apart.1 (λ y z at also. one y z (inr at) (inr also)))
  where
    other : (y : X) → p x ≡ true → In xs y → p y ≡ true → ⊥
    other y here at there =
        let differ = all_in (λ z. same x z ≡ false) xs y apart.0 at in
        let agree = one x y (inl refl) (inr at) here there in
        absurd cc

    by : (b : Bool) → p x ≡ b → passing p xs ≤ 1 → one_if b + passing p xs ≤ 1
    by true here rest = let none = none_passing p xs (λ y at. bool_is (p y) (other y here at)) in omega arith
    by false here rest = omega arith

-- ---- rows and sums of pairs

rows : {X Y : Type 0} (f : X → Y → Bool) (xs : List X) (ys : List Y) → ((x : X) → In xs x → passing (f x) ys ≤ 1) → pairs f xs ys ≤ length xs
rows f [] ys each = omega arith
rows f (x ∷ xs) ys each = let here = each x (inl refl) in let rest = rows f xs ys (λ y at. each y (inr at)) in omega arith

passing_sum : {X : Type 0} (p q r : X → Bool) (xs : List X) → ((x : X) → In xs x → one_if (p x) ≡ one_if (q x) + one_if (r x)) →
    passing p xs ≡ passing q xs + passing r xs
passing_sum p q r [] each = refl
passing_sum p q r (x ∷ xs) each = let here = each x (inl refl) in let rest = passing_sum p q r xs (λ y at. each y (inr at)) in omega arith

pairs_sum : {X Y : Type 0} (f g h : X → Y → Bool) (xs : List X) (ys : List Y) →
    ((x : X) (y : Y) → In xs x → In ys y → one_if (f x y) ≡ one_if (g x y) + one_if (h x y)) → pairs f xs ys ≡ pairs g xs ys + pairs h xs ys
pairs_sum f g h [] ys each = refl
pairs_sum f g h (x ∷ xs) ys each =
    let here = passing_sum (f x) (g x) (h x) ys (λ y at. each x y (inl refl) at) in
    let rest = pairs_sum f g h xs ys (λ z y at also. each z y (inr at) also) in
    omega arith

-- ---- peers in both directions

turned : (u v : Router) (a b : ℕ) → AreJoined u v a b → AreJoined v u b a
turned u v a b is = record {
  near = is.far;
  far = is.near;
  near_in = is.far_in;
  far_in = is.near_in;
  near_addr = is.far_addr;
  far_addr = is.near_addr;
  joined = subnet_either_way is.far is.near ∙ is.joined;
}

share_either_way : (u v : Router) (a b : ℕ) → share_subnet u a v b ≡ share_subnet v b u a
share_either_way u v a b =
    same_truth (share_subnet u a v b) (share_subnet v b u a) (λ e. share_if v u b a (turned u v a b (joined_if u v a b e)))
    (λ e. share_if u v a b (turned v u b a (joined_if v u b a e)))

swapped : (a b rest : Bool) → (a && (b && rest)) ≡ (b && (a && rest))
swapped true true rest = refl
swapped true false rest = refl
swapped false true rest = refl
swapped false false rest = refl

both_swapped : (e a b c d s : Bool) → (e && (a && (b && (c && (d && s))))) ≡ (e && (b && (a && (d && (c && s)))))
both_swapped e a b c d s = ap (λ x. e && x) (swapped a b (c && (d && s)) ∙ ap (λ x. b && (a && x)) (swapped c d s))

peers_either_way : (p q : Place Neighbor) → are_peers p q ≡ are_peers q p
peers_either_way p q =
    ap (λ b. not b && (not p.value.shut && (not q.value.shut
    && (has_number q.owner p.value.remote && (has_number p.owner q.value.remote && share_subnet p.owner q.value.addr q.owner p.value.addr)))))
    (either_way p.router q.router)
    ∙ ap (λ s. not (nat_eq q.router p.router)
    && (not p.value.shut && (not q.value.shut && (has_number q.owner p.value.remote && (has_number p.owner q.value.remote && s)))))
    (share_either_way p.owner q.owner q.value.addr p.value.addr)
    ∙ both_swapped (not (nat_eq q.router p.router)) (not p.value.shut) (not q.value.shut) (has_number q.owner p.value.remote)
    (has_number p.owner q.value.remote) (share_subnet q.owner p.value.addr p.owner q.value.addr)

one_way : (u v : ℕ) (a b : Bool) → a ≡ b → (nat_eq u v ≡ true → a ≡ false) → one_if a ≡ one_if (nat_lt u v && a) + one_if (nat_lt v u && b)
one_way u v a b same apart = grind (arith, nat_tests)

not_with_itself : (p q : Place Neighbor) → nat_eq p.router q.router ≡ true → are_peers p q ≡ false
not_with_itself p q e = ap (λ b. not b && (not p.value.shut
    && (not q.value.shut && (has_number q.owner p.value.remote
    && (has_number p.owner q.value.remote && share_subnet p.owner q.value.addr q.owner p.value.addr))))) e

-- peers are a session in one of both directions
one_session : (p q : Place Neighbor) → one_if (are_peers p q) ≡ one_if (is_session p q) + one_if (is_session q p)
one_session p q = one_way p.router q.router (are_peers p q) (are_peers q p) (peers_either_way p q) (not_with_itself p q)

sessions_twice : (ps : List (Place Neighbor)) → pairs are_peers ps ps ≡ pairs is_session ps ps + pairs is_session ps ps
sessions_twice ps =
    let sum = pairs_sum are_peers is_session (λ p q. is_session q p) ps ps (λ p q at also. one_session p q) in
    let back = pairs_turned is_session ps ps in
    omega arith

-- ---- one peer

-- lines are the same if they stand on one router and name one address
abbrev same_line : Place Neighbor → Place Neighbor → Bool
same_line p q = nat_eq p.router q.router && nat_eq p.value.addr q.value.addr

shared : (p q : Place Neighbor) → are_peers p q ≡ true → share_subnet p.owner q.value.addr q.owner p.value.addr ≡ true
shared p q e =
    let a = both (not (nat_eq p.router q.router))
    (not p.value.shut && (not q.value.shut && (has_number q.owner p.value.remote
    && (has_number p.owner q.value.remote && share_subnet p.owner q.value.addr q.owner p.value.addr)))) e in
    let b = both (not p.value.shut) (not q.value.shut
    && (has_number q.owner p.value.remote && (has_number p.owner q.value.remote && share_subnet p.owner q.value.addr q.owner p.value.addr))) a.1 in
    let c = both (not q.value.shut) (has_number q.owner p.value.remote
    && (has_number p.owner q.value.remote && share_subnet p.owner q.value.addr q.owner p.value.addr)) b.1 in
    let d = both (has_number q.owner p.value.remote) (has_number p.owner q.value.remote && share_subnet p.owner q.value.addr q.owner p.value.addr) c.1 in
    (both (has_number p.owner q.value.remote) (share_subnet p.owner q.value.addr q.owner p.value.addr) d.1).1

-- the far ends of two sessions of one line are one address, and so are the near ones
one_end : (routers : List Router) (p q r : Place Neighbor) → AreApart (ups_of routers) → IsPlace routers p → IsPlace routers q → IsPlace routers r →
    AreJoined p.owner q.owner q.value.addr p.value.addr → AreJoined p.owner r.owner r.value.addr p.value.addr → same_line q r ≡ true
one_end routers p q r apart at_p at_q at_r a b =
    let far_a = up_at q.router a.far in
    let far_b = up_at r.router b.far in
    let near_a = up_at p.router a.near in
    let near_b = up_at p.router b.near in
    let far : far_a ≡ far_b = apart.addrs far_a far_b (in_ups routers q.router q.owner a.far at_q a.far_in)
    (in_ups routers r.router r.owner b.far at_r b.far_in) (a.far_addr ∙ sym b.far_addr) in
    let ats : near_a.at ≡ near_b.at = in_subnet p.router a.near a.far a.joined ∙ ap (beside p.router) far ∙ sym (in_subnet p.router b.near b.far b.joined) in
    let near : near_a ≡ near_b = apart.attachments near_a near_b (in_ups routers p.router p.owner a.near at_p a.near_in)
    (in_ups routers p.router p.owner b.near at_p b.near_in) ats in
    both_true (nat_eq q.router r.router) (nat_eq q.value.addr r.value.addr)
    (same_number q.router r.router (ap (λ (x : Up). x.at.router) far))
    (same_number q.value.addr r.value.addr (sym a.near_addr ∙ ap (λ (x : Up). x.addr) near ∙ b.near_addr))

-- ---- lines of a well-formed network

good_in : (routers : List Router) (ps : List (Place Neighbor)) (p : Place Neighbor) → AreGood (IsPlace routers) ps → In ps p → IsPlace routers p
good_in routers [] p good at = absurd at
good_in routers (q ∷ ps) p good (inl same) = subst (IsPlace routers) same good.0
good_in routers (q ∷ ps) p good (inr at) = good_in routers ps p good.1 at

other_number : (m n : ℕ) → (m ≡ n → ⊥) → nat_eq m n ≡ false
other_number m n differ = grind (arith, nat_tests)

others_on : (r : ℕ) (owner : Router) (p : Place Neighbor) (n : ℕ) (xs : List Neighbor) → AllByRecursion (λ y. same_neighbor p.value y ≡ false) xs →
    AllByRecursion (λ q. same_line p q ≡ false) (map (place_on r owner) (enumerate_from n xs))
others_on r owner p n [] all = tt
others_on r owner p n (x ∷ xs) all = (
  ap (λ b. nat_eq p.router r && b) (other_number p.value.addr x.addr (eqb-false p.value.addr x.addr all.0))
      ∙ nothing (nat_eq p.router r),
  others_on r owner p (n + 1) xs all.1,
)
  where
    nothing : (b : Bool) → (b && false) ≡ false
    nothing true = refl
    nothing false = refl

distinct_on : (r : ℕ) (owner : Router) (n : ℕ) (xs : List Neighbor) → IsDistinct same_neighbor xs →
    IsDistinct same_line (map (place_on r owner) (enumerate_from n xs))
unfolding IsDistinct
distinct_on r owner n [] once = tt
distinct_on r owner n (x ∷ xs) once = (others_on r owner (place_on r owner (n, x)) (n + 1) xs once.0, distinct_on r owner (n + 1) xs once.1)

once_in : (o : Option BgpProcess) → IfSome o IsWellFormedBgp → IsDistinct same_neighbor (option_map_or (λ (process : BgpProcess). process.neighbors) o [])
unfolding IsDistinct
once_in None formed = tt
once_in (Some process) formed = formed.neighbors_once

placed_on : (r : ℕ) (owner : Router) (p : Place Neighbor) → In (places_on neighbors_of (r, owner)) p → p.router ≡ r
placed_on r owner p at = let made = map_in (place_on r owner) (enumerate_from 0 (neighbors_of owner)) p at in sym (ap (λ (q : Place Neighbor). q.router) made.2)

placed_from : (k : ℕ) (routers : List Router) (p : Place Neighbor) → In (flat_map (places_on neighbors_of) (enumerate_from k routers)) p → k ≤ p.router
placed_from k routers p at =
    let on = flat_map_in (places_on neighbors_of) (enumerate_from k routers) p at in
    let here = enumerate_in routers k on.0.0 on.0.1 on.1 in
    let is = placed_on on.0.0 on.0.1 p on.2 in
    let place = here.1 in
    omega arith

apart_by_router : (k : ℕ) (p q : Place Neighbor) → p.router ≡ k → k + 1 ≤ q.router → same_line p q ≡ false
apart_by_router k p q here later = ap (λ b. b && nat_eq p.value.addr q.value.addr) (other_number p.router q.router (λ e. omega arith))

distinct_from : (k : ℕ) (routers : List Router) → AllByRecursion IsWellFormedRouter routers →
    IsDistinct same_line (flat_map (places_on neighbors_of) (enumerate_from k routers))
unfolding IsDistinct
distinct_from k [] formed = tt
distinct_from k (r ∷ routers) formed =
    distinct_append same_line (places_on neighbors_of (k, r)) (flat_map (places_on neighbors_of) (enumerate_from (k + 1) routers))
    (distinct_on k r 0 (neighbors_of r) (once_in r.bgp formed.0.bgp))
    (distinct_from (k + 1) routers formed.1)
    (λ p q at also. apart_by_router k p q (placed_on k r p at) (placed_from (k + 1) routers q also))

length_enumerated : {X : Type 0} (n : ℕ) (xs : List X) → length (enumerate_from n xs) ≡ length xs
length_enumerated n [] = refl
length_enumerated n (x ∷ xs) = let rest = length_enumerated (n + 1) xs in omega arith

places_counted : (k : ℕ) (routers : List Router) →
    length (flat_map (places_on neighbors_of) (enumerate_from k routers)) ≡ length (flat_map neighbors_of routers)
places_counted k [] = refl
places_counted k (r ∷ routers) =
    let here = length-map (enumerate_from 0 (neighbors_of r)) (place_on k r) in
    let all = length_enumerated 0 (neighbors_of r) in
    let rest = places_counted (k + 1) routers in
    let left = length-append (places_on neighbors_of (k, r)) (flat_map (places_on neighbors_of) (enumerate_from (k + 1) routers)) in
    let right = length-append (neighbors_of r) (flat_map neighbors_of routers) in
    omega arith

pub few_sessions : (n : Network) → IsWellFormed n → IsFaultless n → 2 * length (sessions_of n) ≤ length (flat_map neighbors_of n.routers)
unfolding sessions_of places
few_sessions n formed faultless =
    let ps = flat_map (places_on neighbors_of) (enumerate_from 0 n.routers) in
    let good : AreGood (IsPlace n.routers) ps = all_places n in
    let apart = ups_apart n faultless in
    let at : (p : Place Neighbor) → In ps p → IsPlace n.routers p = λ p h. good_in n.routers ps p good h in
    let one : (p : Place Neighbor) → In ps p → passing (are_peers p) ps ≤ 1 = λ p h.
    at_most_one same_line (are_peers p) ps (distinct_from 0 n.routers formed.routers)
    (λ q r k l e f. one_end n.routers p q r apart (at p h) (at q k) (at r l) (joined_if p.owner q.owner q.value.addr p.value.addr (shared p q e))
    (joined_if p.owner r.owner r.value.addr p.value.addr (shared p r f))) in
    let counted = links_counted is_session ps ps in
    let twice = sessions_twice ps in
    let few = rows are_peers ps ps one in
    let lines = places_counted 0 n.routers in
    omega arith
