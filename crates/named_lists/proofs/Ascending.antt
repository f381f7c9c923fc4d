-- Entries whose numbers ascend.
use Rattle.std.proofs.Common.{◌≡◌, ℕ, zero, suc, ◌-◌, ◌<◌, Bool, true, false, ◌&&◌, ◌||◌, List, [], ◌∷◌, ◌++◌, length, get_or, refl, ap, ◌∙◌, arith}
use Rattle.std.specs.Prelude.{nat_eq, nat_lt}
use Rattle.std.specs.List.{list_all}
use Rattle.std.proofs.lemmas.Bool.Decides.{nat_tests}
use Rattle.std.proofs.lemmas.List.Folds.{list_any-append}
use Rattle.named_lists.specs.NumberedLists.{are_below, ascends, has_entry_numbered}

pub both : (b c : Bool) → (b && c) ≡ true → (b ≡ true) × (c ≡ true)
both true c e = (refl, e)
both false c e = absurd (let no : false ≡ true = e in cc)

all_last : {X : Type 0} (test : X → Bool) (xs : List X) (x : X) → list_all test (xs ++ x ∷ []) ≡ (list_all test xs && test x)
all_last test [] x = and_true (test x)
  where
    and_true : (b : Bool) → (b && true) ≡ b
    and_true true = refl
    and_true false = refl
all_last test (y ∷ ys) x = ap (λ b. test y && b) (all_last test ys x) ∙ and_assoc (test y) (list_all test ys) (test x)
  where
    and_assoc : (a b c : Bool) → (a && (b && c)) ≡ ((a && b) && c)
    and_assoc true b c = refl
    and_assoc false b c = refl

all_at : {X : Type 0} (test : X → Bool) (xs : List X) (i : ℕ) (d : X) → list_all test xs ≡ true → i < length xs → test (get_or xs i d) ≡ true
all_at test [] i d all lt = absurd (omega arith)
all_at test (x ∷ xs) zero d all lt = (both (test x) (list_all test xs) all).0
all_at test (x ∷ xs) (suc i) d all lt = all_at test xs i d (both (test x) (list_all test xs) all).1 (omega arith)

module _ {E : Type 0} (number : E → ℕ) where
  regroup : (a b c d : Bool) → ((a && b) && (c && d)) ≡ ((a && c) && (b && d))
  regroup true true c d = refl
  regroup true false true d = refl
  regroup true false false d = refl
  regroup false b c d = refl

  -- with one entry more behind the others
  pub ascends_last : (xs : List E) (e : E) → ascends number (xs ++ e ∷ []) ≡ (ascends number xs && are_below number xs (number e))
  ascends_last [] e = refl
  ascends_last (x ∷ xs) e =
      let front = λ (y : E). nat_lt (number x) (number y) in
      ap (λ b. b && ascends number (xs ++ e ∷ [])) (all_last front xs e) ∙ ap (λ b. (list_all front xs && front e) && b) (ascends_last xs e)
      ∙ regroup (list_all front xs) (front e) (ascends number xs) (are_below number xs (number e))

  through : (a b c : ℕ) → nat_lt a b ≡ true → (nat_lt a c && nat_lt b c) ≡ nat_lt b c
  through a b c lt = grind (arith, nat_tests)

  -- of entries that ascend, the last one has the largest number
  pub below_by_last : (xs : List E) (d : E) (wanted : ℕ) → ascends number xs ≡ true → 0 < length xs →
      are_below number xs wanted ≡ nat_lt (number (get_or xs (length xs - 1) d)) wanted
  below_by_last [] d wanted up some = absurd (omega arith)
  below_by_last (x ∷ []) d wanted up some = and_true (nat_lt (number x) wanted)
    where
      and_true : (b : Bool) → (b && true) ≡ b
      and_true true = refl
      and_true false = refl
  below_by_last (x ∷ y ∷ ys) d wanted up some =
      let parts = both (list_all (λ z. nat_lt (number x) (number z)) (y ∷ ys)) (ascends number (y ∷ ys)) up in
      let end : length (y ∷ ys) - 1 ≡ length ys = omega arith in
      let whole : length (x ∷ y ∷ ys) - 1 ≡ suc (length ys) = omega arith in
      rw whole (ap (λ b. nat_lt (number x) wanted && b)
      (below_by_last (y ∷ ys) d wanted parts.1 (omega arith) ∙ ap (λ i. nat_lt (number (get_or (y ∷ ys) i d)) wanted) end)
      ∙ through (number x) (number (get_or (y ∷ ys) (length ys) d)) wanted
      (all_at (λ z. nat_lt (number x) (number z)) (y ∷ ys) (length ys) d parts.0 (omega arith)))

  other : (a b : ℕ) → nat_lt a b ≡ true → nat_eq a b ≡ false
  other a b lt = grind (arith, nat_tests)

  pub none_if_below : (xs : List E) (wanted : ℕ) → are_below number xs wanted ≡ true → has_entry_numbered number xs wanted ≡ false
  none_if_below [] wanted below = refl
  none_if_below (x ∷ xs) wanted below =
      let parts = both (nat_lt (number x) wanted) (are_below number xs wanted) below in
      rw (other (number x) wanted parts.0, none_if_below xs wanted parts.1) refl

  pub has_last : (xs : List E) (e : E) (wanted : ℕ) → has_entry_numbered number (xs ++ e ∷ []) wanted
      ≡ (has_entry_numbered number xs wanted || nat_eq (number e) wanted)
  has_last xs e wanted = list_any-append (λ x. nat_eq (number x) wanted) xs (e ∷ [])
      ∙ ap (λ b. has_entry_numbered number xs wanted || b) (or_none (nat_eq (number e) wanted))
    where
      or_none : (b : Bool) → (b || false) ≡ b
      or_none true = refl
      or_none false = refl

  number_self : (n : ℕ) → nat_eq n n ≡ true
  number_self n = grind (arith, nat_tests)

  pub has_first : (xs : List E) (d : E) → 0 < length xs → has_entry_numbered number xs (number (get_or xs 0 d)) ≡ true
  has_first [] d some = absurd (omega arith)
  has_first (x ∷ xs) d some = rw (number_self (number x)) refl
