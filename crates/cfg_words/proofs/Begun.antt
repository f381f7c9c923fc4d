-- Rows by the first byte of a line.
use Rattle.std.proofs.Common.{◌≡◌, ◌≢◌, ℕ, ◌==◌, drop, filter, ◌||◌, ◌&&◌, Bool, true, false, not, List, [], ◌∷◌, nat_eq, codes, bytes_eq, refl, sym, ◌∙◌, ◌⊎◌, inl, inr}
use Rattle.std.specs.Prelude.{if◌then◌else◌}
use Rattle.std.proofs.lemmas.Bool.{ne_eqb, eqb-true, and_parts, or_cases}
use Rattle.cfg_ast.specs.text.Heads.{Row}
use Rattle.cfg_words.specs.Rows.{can_begin, begun_by, going_on, narrowed}

-- the byte is none of these
abbrev pub IsNone : ℕ → List ℕ → Type 0
IsNone first [] = Unit {0}
IsNone first (b ∷ bytes) = (b ≢ first) × IsNone first bytes

-- the byte is one of these
abbrev pub is_one : ℕ → List ℕ → Bool
is_one first [] = false
is_one first (b ∷ bytes) = nat_eq first b || is_one first bytes

-- the head begins with one of these bytes, and its first word stands for no other
abbrev pub begins_with_one : List ℕ → List (List ℕ) → Bool
begins_with_one bytes [] = false
begins_with_one bytes ([] ∷ head) = false
begins_with_one bytes ((b ∷ word) ∷ head) = is_one b bytes && not (bytes_eq (b ∷ word) (codes "A") || bytes_eq (b ∷ word) (codes "100-500"))

abbrev pub all_begin_with : List ℕ → List Row → Bool
all_begin_with bytes [] = true
all_begin_with bytes (row ∷ rows) = begins_with_one bytes row.words && all_begin_with bytes rows

other_byte : (b first : ℕ) (bytes : List ℕ) → is_one b bytes ≡ true → IsNone first bytes → nat_eq b first ≡ false
other_byte b first [] one none = absurd cc
other_byte b first (c ∷ bytes) one none = by_cases (or_cases (nat_eq b c) (is_one b bytes) one) (λ rest. other_byte b first bytes rest none.1)
  where
    by_cases : (nat_eq b c ≡ true) ⊎ (is_one b bytes ≡ true) → (is_one b bytes ≡ true → nat_eq b first ≡ false) → nat_eq b first ≡ false
    by_cases (inl same) others = ne_eqb b first (λ e. none.0 (sym (eqb-true b c same) ∙ e))
    by_cases (inr rest) others = others rest

apart : (same any number : Bool) → same ≡ false → not (any || number) ≡ true → (same || any || number) ≡ false
apart true any number same other = absurd cc
apart false true number same other = absurd cc
apart false false true same other = absurd cc
apart false false false same other = refl

not_begun : (first : ℕ) (bytes : List ℕ) (head : List (List ℕ)) → begins_with_one bytes head ≡ true → IsNone first bytes → can_begin first head ≡ false
not_begun first bytes [] one none = absurd cc
not_begun first bytes ([] ∷ head) one none = absurd cc
not_begun first bytes ((b ∷ word) ∷ head) one none =
    let parts = and_parts (is_one b bytes) (not (bytes_eq (b ∷ word) (codes "A") || bytes_eq (b ∷ word) (codes "100-500"))) one in
    apart (nat_eq b first) (bytes_eq (b ∷ word) (codes "A")) (bytes_eq (b ∷ word) (codes "100-500")) (other_byte b first bytes parts.0 none) parts.1

-- no row can begin a line that begins with none of these bytes
pub none_begun : (first : ℕ) (bytes : List ℕ) (rows : List Row) → all_begin_with bytes rows ≡ true → IsNone first bytes → begun_by first rows ≡ []
none_begun first bytes [] all none = refl
none_begun first bytes (row ∷ rows) all none =
    let parts = and_parts (begins_with_one bytes row.words) (all_begin_with bytes rows) all in
    rw (not_begun first bytes row.words parts.0 none) (none_begun first bytes rows parts.1 none)

pub none_narrowed : (letter place first later : ℕ) (bytes : List ℕ) (rows : List Row) → all_begin_with bytes rows ≡ true → IsNone first bytes →
    narrowed letter place first later rows ≡ []
none_narrowed letter place first later bytes rows all none = rw (none_begun first bytes rows all none) (by_cases (first == letter))
  where
    by_cases : (b : Bool) → (if b then going_on place later [] else []) ≡ []
    by_cases true = refl
    by_cases false = refl

-- ---- by a later word

abbrev pub has_no_word : List (List ℕ) → Bool
has_no_word [] = true
has_no_word (word ∷ head) = false

-- each head has no word at the place, or one that begins with one of these bytes and stands for no other
abbrev pub all_known_at : ℕ → List ℕ → List Row → Bool
all_known_at place bytes [] = true
all_known_at place bytes (row ∷ rows) = (has_no_word (drop place row.words) || begins_with_one bytes (drop place row.words)) && all_known_at place bytes rows

abbrev pub short_rows : ℕ → List Row → List Row
short_rows place rows = filter (λ (r : Row). has_no_word (drop place r.words)) rows

not_going_on : (later : ℕ) (bytes : List ℕ) (head : List (List ℕ)) → (has_no_word head || begins_with_one bytes head) ≡ true → IsNone later bytes →
    can_begin later head ≡ has_no_word head
not_going_on later bytes [] known none = refl
not_going_on later bytes (word ∷ head) known none = not_begun later bytes (word ∷ head) known none

-- a byte that is none of these leaves the rows that have no word at the place
pub none_going_on : (place later : ℕ) (bytes : List ℕ) (rows : List Row) → all_known_at place bytes rows ≡ true → IsNone later bytes →
    going_on place later rows ≡ short_rows place rows
none_going_on place later bytes [] all none = refl
none_going_on place later bytes (row ∷ rows) all none =
    let parts = and_parts (has_no_word (drop place row.words) || begins_with_one bytes (drop place row.words)) (all_known_at place bytes rows) all in
    rw (not_going_on later bytes (drop place row.words) parts.0 none, none_going_on place later bytes rows parts.1 none) refl
