-- Numbers that ascend in some order are distinct in each.
use Rattle.std.proofs.Common.{◌≡◌, ◌<◌, ◌≤◌, ℕ, suc, ◌+◌, Bool, true, false, cond, ◌||◌, nat_eq, nat_lt, List, [], ◌∷◌, map, length, get_or, refl, sym, ap, ◌∙◌, subst, arith, inl, inr}
use Rattle.std.specs.List.{list_any, sum_by, AllAdjacentBelow, IsAllAdjacentAnswer}
use Rattle.std.specs.List.Sorted.{IsPermutation}
use Rattle.std.specs.Prelude.{⊤}
use Rattle.std.proofs.lemmas.Bool.{cases_eq}
use Rattle.std.proofs.lemmas.Bool.Decides.{nat_tests}
use Rattle.std.proofs.lemmas.List.Sums.{sum_by-cons}
use Rattle.std.proofs.lemmas.List.Sorted.{sum_by-IsPermutation}
use Rattle.base_kit.proofs.SetFacts.{same_number, other_number}
use Rattle.cfg_ast.specs.meaning.Addresses.{Address}
use Rattle.cfg_ast.specs.meaning.RouterFaults.{repeats, repeats_after}
use Rattle.cfg_check.specs.Items.{address_number, same_address}

abbrev one_if : ℕ → ℕ → ℕ
one_if n m = cond (nat_eq n m) 1 0

-- how often a number stands in a list
abbrev often : ℕ → List ℕ → ℕ
often n = sum_by (one_if n)

-- the numbers ascend behind this one
abbrev Ascend : ℕ → List ℕ → Type 0
Ascend m [] = ⊤
Ascend m (n ∷ ns) = (m < n) × Ascend n ns

one_where : (n m : ℕ) → (t : Bool) → nat_eq n m ≡ t → one_if n m ≡ cond t 1 0
one_where n m t e = ap (λ (b : Bool). cond b 1 0) e

differ : (n m : ℕ) → n < m → one_if n m ≡ 0
differ n m l = one_where n m false (unequal n m l)
  where
    unequal : (n m : ℕ) → n < m → nat_eq n m ≡ false
    unequal n m h = grind (arith, nat_tests)

at_most_one : (n m : ℕ) → one_if n m ≤ 1
at_most_one n m = by (nat_eq n m) refl
  where
    by : (t : Bool) → nat_eq n m ≡ t → one_if n m ≤ 1
    by true e = omega (arith, one_where n m true e)
    by false e = omega (arith, one_where n m false e)

same_counts : (n : ℕ) → one_if n n ≡ 1
same_counts n = one_where n n true (equal n)
  where
    equal : (n : ℕ) → nat_eq n n ≡ true
    equal n = grind (arith, nat_tests)

none_behind : (n m : ℕ) (ns : List ℕ) → n ≤ m → Ascend m ns → often n ns ≡ 0
none_behind n m [] l h = refl
none_behind n m (k ∷ ns) l h =
    let first : one_if n k ≡ 0 = differ n k (omega (arith, h.0)) in
    omega (arith, sum_by-cons (one_if n) k ns, none_behind n k ns (omega (arith, h.0)) h.1)

once : (n m : ℕ) (ns : List ℕ) → Ascend m ns → often n (m ∷ ns) ≤ 1
once n m [] h = omega (arith, sum_by-cons (one_if n) m [], at_most_one n m)
once n m (k ∷ ns) h = elim (cases_eq n m) [
  | inl e ↦ omega (arith, sum_by-cons (one_if n) m (k ∷ ns), none_behind n m (k ∷ ns) (omega (arith, e)) h, at_most_one n m)
  | inr ne ↦ omega (arith, sum_by-cons (one_if n) m (k ∷ ns), one_where n m false (other_number n m ne), once n k ns h.1)
]

ascend_of : (m : ℕ) (ns : List ℕ) → AllAdjacentBelow (λ a b. true ≡ nat_lt a b) (m ∷ ns) (length (m ∷ ns)) → Ascend m ns
ascend_of m [] h = tt
ascend_of m (n ∷ ns) h = (
  is_less m n (h 0 m (omega arith)),
  ascend_of n ns (λ k d l.
      let next : suc k + 1 ≡ suc (k + 1) = omega arith in
      subst (λ i. true ≡ nat_lt (get_or (n ∷ ns) k d) (get_or (m ∷ n ∷ ns) i d)) next (h (suc k) d (omega arith))),
)
  where
    is_less : (a b : ℕ) → true ≡ nat_lt a b → a < b
    is_less a b e = grind (arith, nat_tests)

each_once : (ns : List ℕ) → AllAdjacentBelow (λ a b. true ≡ nat_lt a b) ns (length ns) → (n : ℕ) → often n ns ≤ 1
each_once [] h n = omega arith
each_once (m ∷ ns) h n = once n m ns (ascend_of m ns h)

-- how often a number is that of an address
abbrev often_at : ℕ → List Address → ℕ
often_at n = sum_by (λ a. one_if n (address_number a))

often_mapped : (n : ℕ) (xs : List Address) → often n (map address_number xs) ≡ often_at n xs
often_mapped n [] = refl
often_mapped n (x ∷ xs) = omega (
  arith,
  sum_by-cons (one_if n) (address_number x) (map address_number xs),
  sum_by-cons (λ (a : Address). one_if n (address_number a)) x xs,
  often_mapped n xs,
)

or_rest : (t u : Bool) → t ≡ false → (t || u) ≡ true → u ≡ true
or_rest t u e f = ap (λ b. b || u) (sym e) ∙ f

seen_once : (x : Address) (past : List Address) → list_any (same_address x) past ≡ true → 1 ≤ often_at x.addr past
seen_once x [] e = cc
seen_once x (p ∷ past) e = elim (cases_eq x.addr p.addr) [
  | inl same ↦ omega (
    arith,
    sum_by-cons (λ (a : Address). one_if x.addr (address_number a)) p past,
    one_where x.addr p.addr true (same_number x.addr p.addr same),
  )
  | inr ne ↦ omega (
    arith,
    sum_by-cons (λ (a : Address). one_if x.addr (address_number a)) p past,
    seen_once x past (or_rest (same_address x p) (list_any (same_address x) past) (other_number x.addr p.addr ne) e),
  )
]

not_seen : (x : Address) (past : List Address) → often_at x.addr past ≡ 0 → (t : Bool) → list_any (same_address x) past ≡ t → t ≡ false
not_seen x past h true e = absurd (omega (arith, seen_once x past e))
not_seen x past h false e = refl

none_again : (past xs : List Address) → ((n : ℕ) → often_at n past + often_at n xs ≤ 1) → repeats_after same_address past xs ≡ []
none_again past [] h = refl
none_again past (x ∷ xs) h =
    let rest = repeats_after same_address (x ∷ past) xs in
    let own = sum_by-cons (λ (a : Address). one_if x.addr (address_number a)) x xs in
    let unseen : often_at x.addr past ≡ 0 = omega (arith, h x.addr, same_counts x.addr) in
    ap (λ t. cond t (x ∷ rest) rest) (not_seen x past unseen (list_any (same_address x) past) refl)
    ∙ none_again (x ∷ past) xs (λ n. omega (
      arith,
      h n,
      sum_by-cons (λ (a : Address). one_if n (address_number a)) x xs,
      sum_by-cons (λ (a : Address). one_if n (address_number a)) x past,
    ))

-- no address repeats an earlier one, if their numbers ascend in some order
none_repeated : (xs : List Address) (ns : List ℕ) → IsPermutation (map address_number xs) ns → AllAdjacentBelow (λ a b. true ≡ nat_lt a b) ns (length ns) →
    repeats same_address xs ≡ []
none_repeated xs ns same up = none_again [] xs (λ n. omega (
  arith,
  often_mapped n xs,
  sum_by-IsPermutation (one_if n) (map address_number xs) ns same,
  each_once ns up n,
))

pub none_if_ascending : (xs : List Address) (ns : List ℕ) (r : Bool) → IsPermutation (map address_number xs) ns →
    IsAllAdjacentAnswer (λ a b t. t ≡ nat_lt a b) ns r → r ≡ true → repeats same_address xs ≡ []
none_if_ascending xs ns true same h e = none_repeated xs ns same h
none_if_ascending xs ns false same h e = cc
