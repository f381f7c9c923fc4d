-- Entries put in the order of their numbers.
use Rattle.std.proofs.Common.{◌≡◌, ℕ, ◌+◌, ◌<◌, ◌≤◌, Bool, true, false, ◌||◌, List, [], ◌∷◌, ◌++◌, inl, inr, map, refl, sym, ap, ◌∙◌, arith, subst, append_assoc}
use Rattle.std.specs.Prelude.{nat_eq, nat_lt, bytes_eq, flat_map}
use Rattle.std.specs.List.{list_any, range_with_len}
use Rattle.std.specs.List.Sorted.{IsNonDecreasingBy, IsStableByKey}
use Rattle.std.specs.Ordering.{nat_cmp}
use Rattle.std.proofs.lemmas.Bool.Decides.{nat_tests}
use Rattle.base_kit.proofs.Elements.{In}
use Rattle.by_key.specs.ByKey.{with_key, by_key}
use Rattle.by_key.proofs.SortedByKey.{Rises, grouped, sorted_is}
use Rattle.named_lists.specs.declared.named.NamedList.{NamedList}
use Rattle.named_lists.specs.NamedLists.{in_named}
use Rattle.named_lists.specs.NumberedLists.{put, put_all, in_number_order, in_order, has_entry_numbered}
use Rattle.numbered_names.proofs.Firsts.{number_is}

module _ {E : Type 0} (number : E → ℕ) where
  -- ---- one more at the end

  put_all_last : (done xs : List E) (e : E) → put_all number done (xs ++ e ∷ []) ≡ put number e (put_all number done xs)
  unfolding put_all
  put_all_last done [] e = refl
  put_all_last done (x ∷ xs) e = put_all_last (put number x done) xs e

  pub by_number_last : (xs : List E) (e : E) → in_number_order number (xs ++ e ∷ []) ≡ put number e (in_number_order number xs)
  by_number_last xs e = put_all_last [] xs e

  pub by_number_none : in_number_order number [] ≡ []
  unfolding put_all
  by_number_none = refl

  ordered_by : (name : List ℕ) (e : E) (l : NamedList E) (ls : List (NamedList E)) →
      map (in_order number) (in_named name (λ es. es ++ e ∷ []) ls) ≡ in_named name (put number e) (map (in_order number) ls)
      → (b : Bool) → bytes_eq l.name name ≡ b →
      map (in_order number) (in_named name (λ es. es ++ e ∷ []) (l ∷ ls)) ≡ in_named name (put number e) (map (in_order number) (l ∷ ls))
  unfolding in_named
  ordered_by name e l ls rest true is = rw is
      (ap (λ es. (let m : NamedList E = record { name = l.name; entries = es } in m) ∷ map (in_order number) ls) (by_number_last l.entries e))
  ordered_by name e l ls rest false is = rw is (ap (λ ms. in_order number l ∷ ms) rest)

  -- an entry put last into a list is put into the list that is in order
  pub put_in_order : (name : List ℕ) (e : E) (ls : List (NamedList E)) →
      map (in_order number) (in_named name (λ es. es ++ e ∷ []) ls) ≡ in_named name (put number e) (map (in_order number) ls)
  unfolding in_named put put_all
  put_in_order name e [] = refl
  put_in_order name e (l ∷ ls) = ordered_by name e l ls (put_in_order name e ls) (bytes_eq l.name name) refl

  -- ---- what is among them

  swap : (a b c : Bool) → (a || (b || c)) ≡ (b || (a || c))
  swap true true c = refl
  swap true false c = refl
  swap false b c = refl

  turn : (a b c : Bool) → (b || (a || c)) ≡ ((a || b) || c)
  turn true true c = refl
  turn true false c = refl
  turn false b c = refl

  or_none : (b : Bool) → (b || false) ≡ b
  or_none true = refl
  or_none false = refl

  any_by : (test : E → Bool) (e x : E) (xs : List E) → list_any test (put number e xs) ≡ (test e || list_any test xs) → (b : Bool) →
      nat_lt (number e) (number x) ≡ b → list_any test (put number e (x ∷ xs)) ≡ (test e || list_any test (x ∷ xs))
  unfolding put
  any_by test e x xs rest true is = rw is refl
  any_by test e x xs rest false is = rw is (ap (λ b. test x || b) rest ∙ swap (test x) (test e) (list_any test xs))

  any_put : (test : E → Bool) (e : E) (xs : List E) → list_any test (put number e xs) ≡ (test e || list_any test xs)
  unfolding put
  any_put test e [] = refl
  any_put test e (x ∷ xs) = any_by test e x xs (any_put test e xs) (nat_lt (number e) (number x)) refl

  any_put_all : (test : E → Bool) (done xs : List E) → list_any test (put_all number done xs) ≡ (list_any test xs || list_any test done)
  unfolding put_all
  any_put_all test done [] = refl
  any_put_all test done (x ∷ xs) = any_put_all test (put number x done) xs ∙ ap (λ b. list_any test xs || b) (any_put test x done)
      ∙ turn (test x) (list_any test xs) (list_any test done)

  pub has_by_number : (xs : List E) (wanted : ℕ) → has_entry_numbered number (in_number_order number xs) wanted ≡ has_entry_numbered number xs wanted
  has_by_number xs wanted = any_put_all (λ x. nat_eq (number x) wanted) [] xs ∙ or_none (has_entry_numbered number xs wanted)

  -- ---- a stable sort

  -- the numbers are not below this one
  abbrev AreFrom : ℕ → List E → Type 0
  AreFrom n [] = Unit {0}
  AreFrom n (x ∷ xs) = (n ≤ number x) × AreFrom n xs

  -- the numbers do not fall
  abbrev IsUp : List E → Type 0
  IsUp [] = Unit {0}
  IsUp (x ∷ xs) = AreFrom (number x) xs × IsUp xs

  from_less : (m n : ℕ) (xs : List E) → m ≤ n → AreFrom n xs → AreFrom m xs
  from_less m n [] le from = tt
  from_less m n (x ∷ xs) le from = (omega (arith, le, from.0), from_less m n xs le from.1)

  less : (a b : ℕ) → nat_lt a b ≡ true → a < b
  less a b e = grind (arith, nat_tests)

  not_less : (a b : ℕ) → nat_lt a b ≡ false → b ≤ a
  not_less a b e = grind (arith, nat_tests)

  from_put_by : (n : ℕ) (e x : E) (xs : List E) → n ≤ number e → AreFrom n (x ∷ xs) → AreFrom n (put number e xs) → (b : Bool) →
      nat_lt (number e) (number x) ≡ b → AreFrom n (put number e (x ∷ xs))
  unfolding put
  from_put_by n e x xs le from rest true is = rw is (le, from)
  from_put_by n e x xs le from rest false is = rw is (from.0, rest)

  from_put : (n : ℕ) (e : E) (xs : List E) → n ≤ number e → AreFrom n xs → AreFrom n (put number e xs)
  unfolding put
  from_put n e [] le from = (le, tt)
  from_put n e (x ∷ xs) le from = from_put_by n e x xs le from (from_put n e xs le from.1) (nat_lt (number e) (number x)) refl

  up_put_by : (e x : E) (xs : List E) → IsUp (x ∷ xs) → IsUp (put number e xs) → (b : Bool) → nat_lt (number e) (number x) ≡ b → IsUp (put number e (x ∷ xs))
  unfolding put
  up_put_by e x xs up rest true is =
      let lt = less (number e) (number x) is in
      rw is ((omega (arith, lt), from_less (number e) (number x) xs (omega (arith, lt)) up.0), up)
  up_put_by e x xs up rest false is = rw is (from_put (number x) e xs (not_less (number e) (number x) is) up.0, rest)

  up_put : (e : E) (xs : List E) → IsUp xs → IsUp (put number e xs)
  unfolding put
  up_put e [] up = (tt, tt)
  up_put e (x ∷ xs) up = up_put_by e x xs up (up_put e xs up.1) (nat_lt (number e) (number x)) refl

  up_put_all : (done xs : List E) → IsUp done → IsUp (put_all number done xs)
  unfolding put_all
  up_put_all done [] up = up
  up_put_all done (x ∷ xs) up = up_put_all (put number x done) xs (up_put x done up)

  from_in : (n : ℕ) (xs : List E) → AreFrom n xs → (z : E) → In xs z → n ≤ number z
  from_in n [] from z at = absurd at
  from_in n (x ∷ xs) from z (inl e) = subst (λ (y : E). n ≤ number y) e from.0
  from_in n (x ∷ xs) from z (inr at) = from_in n xs from.1 z at

  rises : (xs : List E) → IsUp xs → Rises number xs
  rises [] up = tt
  rises (x ∷ xs) up = (from_in (number x) xs up.0, rises xs up.1)

  none_with : (v n : ℕ) (xs : List E) → v < n → AreFrom n xs → with_key number xs v ≡ []
  none_with v n [] lt from = refl
  none_with v n (x ∷ xs) lt from =
      let other : nat_eq (number x) v ≡ false = differs (number x) v (omega (arith, lt, from.0)) in
      rw other (none_with v n xs lt from.1)
    where
      differs : (a b : ℕ) → b < a → nat_eq a b ≡ false
      differs a b h = grind (arith, nat_tests)

  append_none : (xs : List E) → xs ++ [] ≡ xs
  append_none [] = refl
  append_none (x ∷ xs) = ap (λ ys. x ∷ ys) (append_none xs)

  -- the items of one number, with one put before those of larger numbers
  put_first : (v : ℕ) (e x : E) (xs : List E) → number e < number x → AreFrom (number x) xs → (b : Bool) → nat_eq (number e) v ≡ b →
      with_key number (e ∷ x ∷ xs) v ≡ with_key number (x ∷ xs) v ++ with_key number (e ∷ []) v
  put_first v e x xs lt from true is =
      let same : number e ≡ v = number_is (number e) v is in
      let none : with_key number (x ∷ xs) v ≡ [] = none_with v (number x) (x ∷ xs) (omega (arith, lt, same)) (omega arith, from) in
      rw (is, none) refl
  put_first v e x xs lt from false is = rw is (sym (append_none (with_key number (x ∷ xs) v)))

  put_later : (v : ℕ) (e x : E) (xs : List E) → with_key number (put number e xs) v ≡ with_key number xs v ++ with_key number (e ∷ []) v → (b : Bool) →
      nat_eq (number x) v ≡ b
      → with_key number (x ∷ put number e xs) v ≡ with_key number (x ∷ xs) v ++ with_key number (e ∷ []) v
  put_later v e x xs rest true is = rw is (ap (λ ys. x ∷ ys) rest)
  put_later v e x xs rest false is = rw is rest

  with_put_by : (v : ℕ) (e x : E) (xs : List E) → IsUp (x ∷ xs) → with_key number (put number e xs) v ≡ with_key number xs v ++ with_key number (e ∷ []) v →
      (b : Bool) → nat_lt (number e) (number x) ≡ b
      → with_key number (put number e (x ∷ xs)) v ≡ with_key number (x ∷ xs) v ++ with_key number (e ∷ []) v
  unfolding put
  with_put_by v e x xs up rest true is = rw is (put_first v e x xs (less (number e) (number x) is) up.0 (nat_eq (number e) v) refl)
  with_put_by v e x xs up rest false is = rw is (put_later v e x xs rest (nat_eq (number x) v) refl)

  with_put : (v : ℕ) (e : E) (xs : List E) → IsUp xs → with_key number (put number e xs) v ≡ with_key number xs v ++ with_key number (e ∷ []) v
  unfolding put
  with_put v e [] up = refl
  with_put v e (x ∷ xs) up = with_put_by v e x xs up (with_put v e xs up.1) (nat_lt (number e) (number x)) refl

  with_next : (v : ℕ) (x : E) (xs : List E) (b : Bool) → nat_eq (number x) v ≡ b → with_key number (x ∷ []) v
      ++ with_key number xs v ≡ with_key number (x ∷ xs) v
  with_next v x xs true is = rw is refl
  with_next v x xs false is = rw is refl

  with_put_all : (v : ℕ) (done xs : List E) → IsUp done → with_key number (put_all number done xs) v ≡ with_key number done v ++ with_key number xs v
  unfolding put_all
  with_put_all v done [] up = sym (append_none (with_key number done v))
  with_put_all v done (x ∷ xs) up =
      with_put_all v (put number x done) xs (up_put x done up) ∙ ap (λ ys. ys ++ with_key number xs v) (with_put v x done up)
      ∙ append_assoc (with_key number done v) (with_key number (x ∷ []) v) (with_key number xs v)
      ∙ ap (λ ys. with_key number done v ++ ys) (with_next v x xs (nat_eq (number x) v) refl)

  -- a number above those of the entries
  total : List E → ℕ
  total [] = 1
  total (x ∷ xs) = number x + total xs

  some_total : (xs : List E) → 0 < total xs
  unfolding total
  some_total [] = omega arith
  some_total (x ∷ xs) = omega (arith, some_total xs)

  below_total : (xs : List E) (z : E) → In xs z → number z < total xs
  unfolding total
  below_total [] z at = absurd at
  below_total (x ∷ xs) z (inl e) = let same = ap number e in omega (arith, some_total xs, same)
  below_total (x ∷ xs) z (inr at) = omega (arith, below_total xs z at)

  by_keys : (xs : List E) (n : ℕ) → ((z : E) → In (in_number_order number xs) z → number z < n) → in_number_order number xs ≡ by_key number n xs
  by_keys xs n below =
      sym (grouped number (in_number_order number xs) n (rises (in_number_order number xs) (up_put_all [] xs tt)) below)
      ∙ (λ i. flat_map (λ v. with_put_all v [] xs tt i) (range_with_len 0 n))

  -- a stable sort is the list by numbers
  pub sorted_by_number : (xs ys : List E) → IsNonDecreasingBy number ys → IsStableByKey number nat_cmp xs ys → ys ≡ in_number_order number xs
  sorted_by_number xs ys up stable =
      let n = total xs + total (in_number_order number xs) in
      sorted_is number xs ys n up stable (λ x at. omega (arith, below_total xs x at))
      ∙ sym (by_keys xs n (λ z at. omega (arith, below_total (in_number_order number xs) z at)))
