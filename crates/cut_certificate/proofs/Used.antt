-- Each block has a member.
use Rattle.std.proofs.Common.{◌≡◌, ◌≢◌, ℕ, zero, suc, ◌+◌, ◌-◌, ◌<◌, ◌≤◌, Bool, true, false, cond, ◌||◌, ◌&&◌, nat_eq, List, [], ◌∷◌, length, map, get_or, All, refl, sym, ap, ◌∙◌, arith, inl, inr}
use Rattle.std.specs.List.{list_any, range_with_len}
use Rattle.std.proofs.lemmas.Bool.{cases_eq}
use Rattle.std.proofs.lemmas.List.Elements.{All-from_get_or}
use Rattle.std.proofs.lemmas.List.FromFn.{length-range_with_len, get_or-range_with_len}
use Rattle.std.proofs.lemmas.Map.Steps.{le-length_from_below}
use Rattle.base_kit.specs.declared.act_graph.Edge.{Edge}
use Rattle.base_kit.specs.declared.act_graph.ActGraph.{ActGraph}
use Rattle.base_kit.specs.Sets.{has}
use Rattle.cut_certificate.specs.Blocks.{distinct, place_among, number_among, first_blocks, reaches, number_after, numbers_after}
use Rattle.cut_certificate.specs.InUse.{AreInUse}
use Rattle.cut_certificate.proofs.Seen.{same_test, other_test, has_own, has_at, at_place, place_below, distinct_has, distinct_only, distinct_own}

pub map_at : (f : ℕ → ℕ) (xs : List ℕ) (k : ℕ) → k < length xs → get_or (map f xs) k 0 ≡ f (get_or xs k 0)
map_at f [] k h = absurd (omega arith)
map_at f (x ∷ xs) zero h = refl
map_at f (x ∷ xs) (suc k) h = map_at f xs k (omega arith)

pub map_long : {X Y : Type 0} (f : X → Y) (xs : List X) → length (map f xs) ≡ length xs
map_long f [] = refl
map_long f (x ∷ xs) = omega (arith, map_long f xs)

pub has_map : (f : ℕ → ℕ) (xs : List ℕ) (k : ℕ) → k < length xs → has (map f xs) (f (get_or xs k 0)) ≡ true
has_map f xs k h = ap (has (map f xs)) (sym (map_at f xs k h)) ∙ has_at (map f xs) k (omega (arith, map_long f xs))

-- a value of a function on the first numbers
pub over_range : (f : ℕ → ℕ) (n u : ℕ) → u < n → get_or (map f (range_with_len 0 n)) u 0 ≡ f u
over_range f n u h =
    let size = length-range_with_len 0 n in
    map_at f (range_with_len 0 n) u (omega arith) ∙ ap f (get_or-range_with_len 0 n u 0 h ∙ omega arith)

turned : (a b : ℕ) → nat_eq a b ≡ nat_eq b a
turned a b = elim (cases_eq a b) [
  | inl e ↦ same_test a b e ∙ sym (same_test b a (sym e))
  | inr ne ↦ other_test a b ne ∙ sym (other_test b a (λ e. ne (sym e)))
]

any_turned : (q : ℕ) (xs : List ℕ) → list_any (nat_eq q) xs ≡ has xs q
any_turned q [] = refl
any_turned q (x ∷ xs) = ap (λ b. b || list_any (nat_eq q) xs) (turned q x) ∙ ap (λ b. nat_eq x q || b) (any_turned q xs)

-- as many numbers as blocks stand in the list
pub few_blocks : (numbers : List ℕ) (count : ℕ) → ((block : ℕ) → 0 < block → block ≤ count → has numbers block ≡ true) → count ≤ length numbers
few_blocks numbers count used =
    let low = le-length_from_below (0 ∷ numbers) (count + 1) (λ q lt. any_turned q (0 ∷ numbers) ∙ known q lt) in omega arith
  where
    known : (q : ℕ) → q < count + 1 → has (0 ∷ numbers) q ≡ true
    known zero lt = has_own 0 numbers
    known (suc q) lt = ap (λ b. b || has numbers (suc q)) (other_test 0 (suc q) (λ e. absurd (omega arith))) ∙ used (suc q) (omega arith) (omega arith)

pub numbers_known : (numbers : List ℕ) → All (λ number. (0 < number) × (number ≤ length (distinct numbers))) (map (number_among numbers) numbers)
numbers_known numbers = All-from_get_or (λ number. (0 < number) × (number ≤ length (distinct numbers))) (map (number_among numbers) numbers) 0 (λ k inside.
    let h : k < length numbers = omega (arith, map_long (number_among numbers) numbers) in
    let at = map_at (number_among numbers) numbers k h in
    let below = place_below (distinct numbers) (get_or numbers k 0) (distinct_has numbers k h) in
    (omega arith, omega arith))

pub first_used : (colors : List ℕ) → AreInUse (map (number_among colors) colors) (length (distinct colors))
first_used colors = record { known = numbers_known colors; used = used; few = few_blocks (map (number_among colors) colors) (length (distinct colors)) used }
  where
    used : (block : ℕ) → 0 < block → block ≤ length (distinct colors) → has (map (number_among colors) colors) block ≡ true
    used block some le =
        let k = block - 1 in
        let inside : k < length (distinct colors) = omega arith in
        let c = get_or (distinct colors) k 0 in
        let given : has colors c ≡ true = distinct_only colors c (has_at (distinct colors) k inside) in
        let number : number_among colors c ≡ block = ap (λ p. p + 1) (distinct_own colors k inside) ∙ omega arith in
        ap (has (map (number_among colors) colors)) (sym (ap (number_among colors) (at_place colors c given) ∙ number))
        ∙ has_map (number_among colors) colors (place_among colors c) (place_below colors c given)

-- a member of another block stays
pub stays_put : (edges : List Edge) (numbers : List ℕ) (block by act next u : ℕ) → get_or numbers u 0 ≢ block
    → number_after edges numbers block by act next u ≡ get_or numbers u 0
stays_put edges numbers block by act next u ne = rw (other_test (get_or numbers u 0) block ne) refl

pub after_at : (edges : List Edge) (numbers : List ℕ) (block by act next u : ℕ) → u < length numbers
    → get_or (numbers_after edges numbers block by act next) u 0 ≡ number_after edges numbers block by act next u
unfolding numbers_after
after_at edges numbers block by act next u h = over_range (number_after edges numbers block by act next) (length numbers) u h

pub after_long : (edges : List Edge) (numbers : List ℕ) (block by act next : ℕ) → length (numbers_after edges numbers block by act next) ≡ length numbers
unfolding numbers_after
after_long edges numbers block by act next = map_long (number_after edges numbers block by act next) (range_with_len 0 (length numbers))
    ∙ length-range_with_len 0 (length numbers)

pub split_used : (edges : List Edge) (numbers : List ℕ) (count block by act : ℕ) → AreInUse numbers count
    → has (numbers_after edges numbers block by act (count + 1)) block ≡ true
    → has (numbers_after edges numbers block by act (count + 1)) (count + 1) ≡ true
    → AreInUse (numbers_after edges numbers block by act (count + 1)) (count + 1)
split_used edges numbers count block by act are left right = record { known = known; used = used; few = few_blocks after (count + 1) used }
  where
    either : (u : ℕ) → u < length numbers → (b : Bool) → (nat_eq (get_or numbers u 0) block && reaches edges numbers by act u) ≡ b
        → (0 < number_after edges numbers block by act (count + 1) u) × (number_after edges numbers block by act (count + 1) u ≤ count + 1)
    either u h true e = let is : number_after edges numbers block by act (count + 1) u ≡ count + 1 = ap (λ t. cond t (count + 1) (get_or numbers u 0)) e in
        (omega arith, omega arith)
    either u h false e = let is : number_after edges numbers block by act (count + 1) u ≡ get_or numbers u 0 =
        ap (λ t. cond t (count + 1) (get_or numbers u 0)) e in let (some, few) = are.known u 0 h in (omega arith, omega arith)

    known : All (λ number. (0 < number) × (number ≤ count + 1)) (numbers_after edges numbers block by act (count + 1))
    known = All-from_get_or (λ number. (0 < number) × (number ≤ count + 1)) (numbers_after edges numbers block by act (count + 1)) 0 (λ u inside.
        let h : u < length numbers = omega (arith, after_long edges numbers block by act (count + 1)) in
        let at = after_at edges numbers block by act (count + 1) u h in
        let (some, few) = either u h (nat_eq (get_or numbers u 0) block && reaches edges numbers by act u) refl in
        (omega arith, omega arith))

    after : List ℕ
    after = numbers_after edges numbers block by act (count + 1)

    used : (b : ℕ) → 0 < b → b ≤ count + 1 → has after b ≡ true
    used b some le = elim (cases_eq b block) [
      | inl e ↦ ap (has after) e ∙ left
      | inr other ↦ elim (cases_eq b (count + 1)) [
        | inl e ↦ ap (has after) e ∙ right
        | inr below ↦
            let was = are.used b some (omega arith) in
            let u = place_among numbers b in
            let h = place_below numbers b was in
            let at = at_place numbers b was in
            ap (has after) (sym (after_at edges numbers block by act (count + 1) u h
            ∙ stays_put edges numbers block by act (count + 1) u (λ e. other (sym at ∙ e)) ∙ at))
            ∙ has_at after u (let long = after_long edges numbers block by act (count + 1) in omega arith)
      ]
    ]

pub goes : (edges : List Edge) (numbers : List ℕ) (block by act next u : ℕ) → get_or numbers u 0 ≡ block → reaches edges numbers by act u ≡ true
    → number_after edges numbers block by act next u ≡ next
goes edges numbers block by act next u here reach = rw (same_test (get_or numbers u 0) block here, reach) refl

pub stays_here : (edges : List Edge) (numbers : List ℕ) (block by act next u : ℕ) → reaches edges numbers by act u ≡ false
    → number_after edges numbers block by act next u ≡ get_or numbers u 0
stays_here edges numbers block by act next u reach = elim (cases_eq (get_or numbers u 0) block) [
  | inl here ↦ rw (same_test (get_or numbers u 0) block here, reach) refl
  | inr ne ↦ stays_put edges numbers block by act next u ne
]

pub first_is : (graph : ActGraph) (numbers : List ℕ) (count : ℕ) (colors : List ℕ) → colors ≡ graph.colors → numbers ≡ map (number_among colors) colors
    → count ≡ length (distinct colors) → record { numbers = numbers; count = count } ≡ first_blocks graph
unfolding first_blocks
first_is graph numbers count colors same are long = cc (
  are ∙ ap (λ (cs : List ℕ). map (number_among cs) cs) same,
  long
      ∙ ap (λ (cs : List ℕ). length (distinct cs)) same,
)
