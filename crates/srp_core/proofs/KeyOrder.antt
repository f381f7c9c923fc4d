-- The order of keys, the lone numbers of a path, and marks.
use Rattle.std.proofs.Common.{◌≡◌, ◌≢◌, ℕ, zero, suc, ◌<◌, ◌≤◌, Bool, true, false, cond, List, [], ◌∷◌, length, refl, sym, ap, ◌∙◌, subst, inl, inr, arith}
use Rattle.std.specs.Prelude.{nat_eq, nat_lt, ◌||◌, ◌&&◌, slice_index, slice_index_or}
use Rattle.std.specs.Ordering.{nat_cmp, ordering_reverse, ordering_then, MatchOrdering}
use Rattle.std.specs.Cmp.{IsTotalOrder}
use Rattle.std.specs.Cmp.Lexicographic.{slice_cmp}
use Rattle.std.specs.declared.cmp.Ordering.{Ordering}
use Rattle.std.specs.declared.cmp.Ordering.TheVariants.{Less, Equal, Greater}
use Rattle.std.proofs.lemmas.Cmp.{nat_cmp_total, nat_list_cmp_total, on_total, then_total, back_total, tied_itself, ranked}
use Rattle.std.proofs.lemmas.Bool.{cases_Bool, or_cases, or_parts, or_from, or_left, or_right, and_parts, and_from, eqb-true, eqb-false, eq-eqb, ne_eqb, cases_lt}
use Rattle.srp_core.specs.Routes.{is_on, chosen, Key, compare_keys}
use Rattle.base_kit.specs.Sets.{with_number}
use Rattle.srp_core.specs.Problem.{has_marked_number}

pub key_total : IsTotalOrder compare_keys
unfolding compare_keys
key_total = then_total (on_total (λ (k : Key). k.preference) (back_total nat_cmp_total))
    (then_total (on_total (λ (k : Key). k.size) nat_cmp_total)
    (then_total (on_total (λ (k : Key). k.comms) nat_list_cmp_total) (on_total (λ (k : Key). k.lone) nat_list_cmp_total)))

then_equal : (a b : Ordering) → ordering_then a b ≡ Equal → (a ≡ Equal) × (b ≡ Equal)
then_equal Less b e = absurd (cc)
then_equal Equal b e = (refl, e)
then_equal Greater b e = absurd (cc)

nat_equal : (x y : ℕ) → nat_cmp x y ≡ Equal → x ≡ y
nat_equal x y e = subst (λ o. MatchOrdering o (x < y) (x ≡ y) (y < x)) e (ranked x y (nat_cmp x y) refl)

lists_equal : (xs ys : List ℕ) → slice_cmp nat_cmp xs ys ≡ Equal → xs ≡ ys
lists_equal [] [] e = refl
lists_equal [] (y ∷ ys) e = absurd (cc)
lists_equal (x ∷ xs) [] e = absurd (cc)
lists_equal (x ∷ xs) (y ∷ ys) e =
    let t = then_equal (nat_cmp x y) (slice_cmp nat_cmp xs ys) e in
    let h : x ≡ y = nat_equal x y t.0 in
    let r : xs ≡ ys = lists_equal xs ys t.1 in cc

pub keys_equal : (a b : Key) → compare_keys a b ≡ Equal → a ≡ b
unfolding compare_keys
keys_equal a b e =
    let one = then_equal _ _ e in
    let two = then_equal _ _ one.1 in
    let three = then_equal _ _ two.1 in
    let p : a.preference ≡ b.preference = sym (nat_equal b.preference a.preference one.0) in
    let s : a.size ≡ b.size = nat_equal a.size b.size two.0 in
    let c : a.comms ≡ b.comms = lists_equal a.comms b.comms three.0 in
    let l : a.lone ≡ b.lone = lists_equal a.lone b.lone three.1 in
    λ i. record { preference = p i; size = s i; comms = c i; lone = l i }

reversed : (o : Ordering) → ordering_reverse o ≢ Less → o ≢ Less → o ≡ Equal
reversed Less h g = absurd (g refl)
reversed Equal h g = refl
reversed Greater h g = absurd (h refl)

pub neither_better : (a b : Key) → compare_keys a b ≢ Less → compare_keys b a ≢ Less → a ≡ b
neither_better a b h g = keys_equal a b (reversed (compare_keys a b) (λ e. g (key_total.antisymm b a ∙ e)) h)

pub not_better : (a b : Key) → compare_keys a b ≡ Less → compare_keys b a ≢ Less
not_better a b h g =
    let r : compare_keys a b ≡ Greater = key_total.antisymm a b ∙ ap ordering_reverse g in cc

pub irreflexive : (a b : Key) → a ≡ b → compare_keys a b ≢ Less
irreflexive a b e h =
    let i : compare_keys a a ≡ Equal = tied_itself key_total a in
    let j : compare_keys a a ≡ Less = subst (λ k. compare_keys a k ≡ Less) (sym e) h in cc

nat_less : (x y : ℕ) → x < y → nat_cmp x y ≡ Less
nat_less x y h = ap (λ b. cond b Less (cond (nat_eq x y) Equal Greater)) (Rattle.std.proofs.lemmas.Bool.lt-ltb x y h)

-- of equal preferences the shorter is better
pub shorter : (a b : Key) → a.preference ≡ b.preference → a.size < b.size → compare_keys a b ≡ Less
unfolding compare_keys
shorter a b p s =
    let first : nat_cmp b.preference a.preference ≡ Equal = subst (λ n. nat_cmp n a.preference ≡ Equal) p (tied_itself nat_cmp_total a.preference) in
    let second : nat_cmp a.size b.size ≡ Less = nat_less a.size b.size s in
    let last : Ordering = ordering_then (slice_cmp nat_cmp a.comms b.comms) (slice_cmp nat_cmp a.lone b.lone) in
    ap (λ o. ordering_then o (ordering_then (nat_cmp a.size b.size) last)) first ∙ ap (λ o. ordering_then o last) second

pub not_longer : (a b : Key) → a.preference ≡ b.preference → compare_keys b a ≢ Less → a.size ≤ b.size
not_longer a b p h = elim (cases_lt b.size a.size) [ inl l ↦ absurd (h (shorter b a (sym p) l)) | inr l ↦ l ]

same_twice : (a y r : Bool) → a ≡ y → (y || r) ≡ (a || (y || r))
same_twice true true r e = refl
same_twice true false r e = absurd (cc)
same_twice false y r e = refl

swapped : (y a r : Bool) → (y || (a || r)) ≡ (a || (y || r))
swapped true true r = refl
swapped true false r = refl
swapped false true r = refl
swapped false false r = refl

pub is_on-with_number : (x a : ℕ) (l : List ℕ) → is_on x (with_number a l) ≡ (nat_eq a x || is_on x l)
is_on-with_number x a [] = refl
is_on-with_number x a (y ∷ l) =
    elim (cases_Bool (nat_lt a y)) [
      | inl h ↦ ap (λ b. is_on x (cond b (a ∷ y ∷ l) (cond (nat_eq a y) (y ∷ l) (y ∷ with_number a l)))) h
      | inr h ↦ ap (λ b. is_on x (cond b (a ∷ y ∷ l) (cond (nat_eq a y) (y ∷ l) (y ∷ with_number a l)))) h ∙ elim (cases_Bool (nat_eq a y)) [
        | inl g ↦ ap (λ b. is_on x (cond b (y ∷ l) (y ∷ with_number a l))) g
            ∙ same_twice (nat_eq a x) (nat_eq y x) (is_on x l) (ap (λ n. nat_eq n x) (eqb-true a y g))
        | inr g ↦ ap (λ b. is_on x (cond b (y ∷ l) (y ∷ with_number a l))) g ∙ ap (λ b. nat_eq y x || b) (is_on-with_number x a l)
            ∙ swapped (nat_eq y x) (nat_eq a x) (is_on x l)
      ]
    ]

-- a number that passes the test is among the chosen ones where it is on the path
pub is_on-chosen : (test : ℕ → Bool) (x : ℕ) → test x ≡ true → (path : List ℕ) → is_on x (chosen test path) ≡ is_on x path
unfolding chosen
is_on-chosen test x h [] = refl
is_on-chosen test x h (a ∷ path) =
    let r = is_on-chosen test x h path in
    elim (cases_Bool (test a)) [
      | inl g ↦ ap (λ b. is_on x (cond b (with_number a (chosen test path)) (chosen test path))) g ∙ is_on-with_number x a (chosen test path)
          ∙ ap (λ b. nat_eq a x || b) r
      | inr g ↦ ap (λ b. is_on x (cond b (with_number a (chosen test path)) (chosen test path))) g ∙ r
          ∙ sym (ap (λ b. b || is_on x path) (ne_eqb a x (λ e. let t : test a ≡ true = subst (λ n. test n ≡ true) (sym e) h in cc)))
    ]

pub marked_from : (marks : List Bool) (numbers : List ℕ) (u wanted : ℕ) → u < length numbers → slice_index_or marks u false ≡ true →
    slice_index numbers u ≡ wanted → has_marked_number marks numbers wanted ≡ true
unfolding has_marked_number
marked_from [] numbers u wanted h m n = absurd (cc)
marked_from (mark ∷ marks) [] u wanted h m n = absurd (omega arith)
marked_from (mark ∷ marks) (number ∷ numbers) zero wanted h m n = or_left _ _ (and_from mark (nat_eq number wanted) m (eq-eqb number wanted n))
marked_from (mark ∷ marks) (number ∷ numbers) (suc u) wanted h m n =
    or_right (mark && nat_eq number wanted) _ (marked_from marks numbers u wanted (omega arith) m n)

pub record Marked (marks : List Bool) (numbers : List ℕ) (wanted : ℕ) : Type 0 where
  pub router : ℕ
  pub inside : router < length numbers
  pub mark : slice_index_or marks router false ≡ true
  pub number : slice_index numbers router ≡ wanted

pub marked_at : (marks : List Bool) (numbers : List ℕ) (wanted : ℕ) → has_marked_number marks numbers wanted ≡ true → Marked marks numbers wanted
unfolding has_marked_number
marked_at [] numbers wanted e = absurd (cc)
marked_at (mark ∷ marks) [] wanted e = absurd (cc)
marked_at (mark ∷ marks) (number ∷ numbers) wanted e =
    elim (or_cases (mark && nat_eq number wanted) (has_marked_number marks numbers wanted) e) [
      | inl h ↦ let p = and_parts mark (nat_eq number wanted) h in record { router = 0; inside = omega arith; mark = p.0; number = eqb-true number wanted p.1 }
      | inr h ↦ let r = marked_at marks numbers wanted h in
          record { router = suc r.router; inside = let i = r.inside in omega (arith, i); mark = r.mark; number = r.number }
    ]
