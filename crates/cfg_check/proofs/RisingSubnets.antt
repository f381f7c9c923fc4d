-- Subnets that rise: each lies beyond the one before it, and so beyond all before it.
use Rattle.std.proofs.Common.{◌≡◌, ◌<◌, ◌≤◌, ℕ, suc, ◌+◌, ◌-◌, ◌/◌, ◌^◌, min, Bool, true, false, cond, not, ◌&&◌, ◌||◌, nat_eq, nat_lt, List, [], ◌∷◌, length, get_or, refl, sym, ap, ◌∙◌, subst, arith, inl, inr}
use Rattle.std.specs.List.{list_any, AllAdjacentBelow, IsAllAdjacentAnswer}
use Rattle.std.specs.Prelude.{⊤}
use Rattle.std.proofs.lemmas.Bool.{cases_lt}
use Rattle.std.proofs.lemmas.Bool.Decides.{nat_tests}
use Rattle.std.proofs.lemmas.Nat.{shr-shr, div-add-mod', le-div, pow_pos}
use Rattle.cfg_ast.specs.meaning.Addresses.{Address}
use Rattle.cfg_ast.specs.meaning.RouterFaults.{overlap, repeats, repeats_after}
use Rattle.cfg_check.specs.Blocks.{is_beyond}

-- numbers of blocks, cut more
cut_shorter : (x y i j : ℕ) → i ≤ j → x / 2 ^ i ≡ y / 2 ^ i → x / 2 ^ j ≡ y / 2 ^ j
cut_shorter x y i j h e =
    let split : i + (j - i) ≡ j = omega arith in
    ap (λ n. x / 2 ^ n) (sym split) ∙ sym (shr-shr x i (j - i)) ∙ ap (λ n. n / 2 ^ (j - i)) e ∙ shr-shr y i (j - i) ∙ ap (λ n. y / 2 ^ n) split

-- the blocks of greater numbers come no earlier
block_rises : (x y d : ℕ) → 0 < d → x ≤ y → x / d ≤ y / d
block_rises x y d p h = le-div (x / d) y d p (omega (arith, div-add-mod' x d))

between : (x y z k : ℕ) → x < y → y < z → x / 2 ^ k ≡ z / 2 ^ k → (x / 2 ^ k ≡ y / 2 ^ k) × (y / 2 ^ k ≡ z / 2 ^ k)
between x y z k h g e =
    let low = block_rises x y (2 ^ k) (pow_pos k) (omega arith) in
    let high = block_rises y z (2 ^ k) (pow_pos k) (omega arith) in
    (omega arith, omega arith)

is_number : (m n : ℕ) → nat_eq m n ≡ true → m ≡ n
is_number m n e = grind (arith, nat_tests)

has_number : (m n : ℕ) → m ≡ n → nat_eq m n ≡ true
has_number m n e = grind (arith, nat_tests)

-- two subnets overlap where their blocks of a length that both have at least are the same
overlap_at : (a b : Address) (len : ℕ) → min a.len b.len ≤ len → a.addr / 2 ^ (32 - len) ≡ b.addr / 2 ^ (32 - len) → overlap a b ≡ true
overlap_at a b len h e = has_number _ _ (cut_shorter a.addr b.addr (32 - len) (32 - min a.len b.len) (omega arith) e)

above : (a b : Address) → is_beyond a b ≡ true → a.addr < b.addr
above a b e = by (nat_lt a.addr b.addr) refl
  where
    by : (t : Bool) → nat_lt a.addr b.addr ≡ t → a.addr < b.addr
    by true f = grind (arith, nat_tests)
    by false f = cc

apart : (a b : Address) → is_beyond a b ≡ true → overlap b a ≡ false
apart a b e = by (nat_lt a.addr b.addr) (overlap b a) e
  where
    by : (s t : Bool) → (s && not t) ≡ true → t ≡ false
    by true true f = cc
    by true false f = refl
    by false t f = cc

beyond_from : (a b : Address) → a.addr < b.addr → overlap b a ≡ false → is_beyond a b ≡ true
beyond_from a b l e = ap (λ t. nat_lt a.addr b.addr && not t) e ∙ below (nat_lt a.addr b.addr) (less a.addr b.addr l)
  where
    less : (m n : ℕ) → m < n → nat_lt m n ≡ true
    less m n h = grind (arith, nat_tests)

    below : (t : Bool) → t ≡ true → (t && true) ≡ true
    below t f = ap (λ u. u && true) f

not_around : (a b c : Address) → a.addr < b.addr → b.addr < c.addr → overlap b a ≡ false → overlap c b ≡ false → (t : Bool) → overlap c a ≡ t → t ≡ false
not_around a b c l m e f false g = refl
not_around a b c l m e f true g =
    let k = 32 - min c.len a.len in
    let cut = between a.addr b.addr c.addr k l m (sym (is_number _ _ g)) in
    elim (cases_lt c.len a.len) [
      | inl h ↦ sym (overlap_at c b (min c.len a.len) (omega arith) (sym cut.1)) ∙ f
      | inr h ↦ sym (overlap_at b a (min c.len a.len) (omega arith) (sym cut.0)) ∙ e
    ]

-- what lies beyond an address lies beyond all before that one
beyond_far : (a b c : Address) → is_beyond a b ≡ true → is_beyond b c ≡ true → is_beyond a c ≡ true
beyond_far a b c e f =
    let l = above a b e in
    let m = above b c f in
    beyond_from a c (omega arith) (not_around a b c l m (apart a b e) (apart b c f) (overlap c a) refl)

abbrev IsBeyondAll : Address → List Address → Type 0
IsBeyondAll x [] = ⊤
IsBeyondAll x (p ∷ past) = (is_beyond p x ≡ true) × IsBeyondAll x past

abbrev Rise : Address → List Address → Type 0
Rise x [] = ⊤
Rise x (y ∷ ys) = (is_beyond x y ≡ true) × Rise y ys

beyond_next : (x y : Address) (past : List Address) → is_beyond x y ≡ true → IsBeyondAll x past → IsBeyondAll y past
beyond_next x y [] e h = tt
beyond_next x y (p ∷ past) e h = (beyond_far p x y h.0 e, beyond_next x y past e h.1)

none_met : (x : Address) (past : List Address) → IsBeyondAll x past → list_any (overlap x) past ≡ false
none_met x [] h = refl
none_met x (p ∷ past) h = ap (λ t. t || list_any (overlap x) past) (apart p x h.0) ∙ none_met x past h.1

none_repeats : (past : List Address) (x : Address) (xs : List Address) → IsBeyondAll x past → Rise x xs → repeats_after overlap past (x ∷ xs) ≡ []
none_repeats past x [] h r = ap (λ t. cond t (x ∷ []) []) (none_met x past h)
none_repeats past x (y ∷ ys) h r =
    let rest = repeats_after overlap (x ∷ past) (y ∷ ys) in
    ap (λ t. cond t (x ∷ rest) rest) (none_met x past h) ∙ none_repeats (x ∷ past) y ys (r.0, beyond_next x y past r.0 h) r.1

rise_of : (x : Address) (xs : List Address) → AllAdjacentBelow (λ a b. true ≡ is_beyond a b) (x ∷ xs) (length (x ∷ xs)) → Rise x xs
rise_of x [] h = tt
rise_of x (y ∷ ys) h = (
  sym (h 0 x (omega arith)),
  rise_of y ys (λ k d l.
      let next : suc k + 1 ≡ suc (k + 1) = omega arith in
      subst (λ n. true ≡ is_beyond (get_or (y ∷ ys) k d) (get_or (x ∷ y ∷ ys) n d)) next (h (suc k) d (omega arith))),
)

none_overlap : (xs : List Address) → AllAdjacentBelow (λ a b. true ≡ is_beyond a b) xs (length xs) → repeats overlap xs ≡ []
none_overlap [] h = refl
none_overlap (x ∷ xs) h = none_repeats [] x xs tt (rise_of x xs h)

-- no subnet overlaps an earlier one
pub none_if_rising : (xs : List Address) (r : Bool) → IsAllAdjacentAnswer (λ a b t. t ≡ is_beyond a b) xs r → r ≡ true → repeats overlap xs ≡ []
none_if_rising xs true h e = none_overlap xs h
none_if_rising xs false h e = cc
