-- The longest head, found among the heads that can begin the line.
use Rattle.std.proofs.Common.{◌≡◌, ℕ, ◌||◌, ◌&&◌, Bool, true, false, List, [], ◌∷◌, zero, suc, get_or, drop, filter, ◌==◌, nat_eq, codes, bytes_eq, Option, Some, None, refl, ◌∙◌, arith}
use Rattle.std.specs.Prelude.{if◌then◌else◌}
use Rattle.std.proofs.lemmas.Bool.Decides.{nat_tests}
use Rattle.std.specs.Option.{is_some}
use Rattle.cfg_ast.specs.declared.heads.HeadClass.{HeadClass}
use Rattle.cfg_ast.specs.text.Words.{number_between}
use Rattle.cfg_ast.specs.text.Heads.{Row, longer, longest, begins, is_word_for, class_in}
use Rattle.cfg_words.specs.Rows.{first_byte, can_stand_for, can_begin, begun_by, going_on, narrowed}

longer_none : (best : Option Row) → longer best None ≡ best
longer_none None = refl
longer_none (Some row) = refl

pub longer_assoc : (a b c : Option Row) → longer (longer a b) c ≡ longer a (longer b c)
longer_assoc None b c = refl
longer_assoc (Some a) None c = refl
longer_assoc (Some a) (Some b) None = longer_none (longer (Some a) (Some b))
longer_assoc (Some a) (Some b) (Some c) = grind (arith, nat_tests)

-- ---- heads that cannot begin the line

no_word : (same any number between : Bool) → (same || any || number) ≡ false → (if any then true else (if number then between else false)) ≡ false
no_word true any number between none = absurd cc
no_word false true number between none = absurd cc
no_word false false true between none = absurd cc
no_word false false false between none = refl

other_word : (same any number between rest : Bool) → (same || any || number) ≡ false →
    (if any then true else (if number then between else same && rest)) ≡ false
other_word true any number between rest none = absurd cc
other_word false true number between rest none = absurd cc
other_word false false true between rest none = absurd cc
other_word false false false between rest none = refl

-- a word that is none of those that stand for others fits only itself
unfit : (head_word word : List ℕ) → can_stand_for head_word (get_or word 0 0) ≡ false → is_word_for head_word word ≡ false
unfit [] word none = absurd cc
unfit (b ∷ head_word) [] none = no_word (nat_eq b 0) (bytes_eq (b ∷ head_word) (codes "A")) (bytes_eq (b ∷ head_word) (codes "100-500"))
    (is_some (number_between 100 500 [])) none
unfit (b ∷ head_word) (c ∷ word) none =
    other_word (nat_eq b c) (bytes_eq (b ∷ head_word) (codes "A")) (bytes_eq (b ∷ head_word) (codes "100-500")) (is_some (number_between 100 500 (c ∷ word)))
    (bytes_eq head_word word) none

begins_none : (head words : List (List ℕ)) → can_begin (first_byte words) head ≡ false → begins head words ≡ false
begins_none [] words none = absurd cc
begins_none (head_word ∷ head) [] none = refl
begins_none (head_word ∷ head) (word ∷ words) none = rw (unfit head_word word none) refl

longest_by : (row : Row) (rows : List Row) (words : List (List ℕ)) (keeps : Row → Bool) (b : Bool) → keeps row ≡ b →
    (keeps row ≡ false → begins row.words words ≡ false)
    → longest (filter keeps rows) words ≡ longest rows words → longest (filter keeps (row ∷ rows)) words ≡ longest (row ∷ rows) words
longest_by row rows words keeps true can none same = rw can (rw same refl)
longest_by row rows words keeps false can none same = rw (can, none can) same

-- rows that do not begin the line may be left out
longest_kept : (rows : List Row) (words : List (List ℕ)) (keeps : Row → Bool) → ((r : Row) → keeps r ≡ false → begins r.words words ≡ false) →
    longest (filter keeps rows) words ≡ longest rows words
longest_kept [] words keeps none = refl
longest_kept (row ∷ rows) words keeps none = longest_by row rows words keeps (keeps row) refl (none row) (longest_kept rows words keeps none)

longest_begun : (rows : List Row) (words : List (List ℕ)) → longest (begun_by (first_byte words) rows) words ≡ longest rows words
longest_begun rows words = longest_kept rows words (λ (r : Row). can_begin (first_byte words) r.words) (λ r none. begins_none r.words words none)

pub class_begun : (rows : List Row) (words : List (List ℕ)) → class_in (begun_by (first_byte words) rows) words ≡ class_in rows words
class_begun rows words = rw (longest_begun rows words) refl

-- ---- heads of which a later word cannot stand in the line

both_none : (a b : Bool) → b ≡ false → (a && b) ≡ false
both_none true b none = none
both_none false b none = refl

goes_on_none : (place : ℕ) (head words : List (List ℕ)) → can_begin (first_byte (drop place words)) (drop place head) ≡ false → begins head words ≡ false
goes_on_none zero head words none = begins_none head words none
goes_on_none (suc place) [] words none = absurd cc
goes_on_none (suc place) (head_word ∷ head) [] none = refl
goes_on_none (suc place) (head_word ∷ head) (word ∷ words) none =
    both_none (is_word_for head_word word) (begins head words) (goes_on_none place head words none)

longest_going_on : (place : ℕ) (rows : List Row) (words : List (List ℕ)) →
    longest (going_on place (first_byte (drop place words)) rows) words ≡ longest rows words
longest_going_on place rows words = longest_kept rows words (λ (r : Row). can_begin (first_byte (drop place words)) (drop place r.words))
    (λ r none. goes_on_none place r.words words none)

longest_narrowed : (place : ℕ) (b : Bool) (rows : List Row) (words : List (List ℕ))
    → longest (if b then going_on place (first_byte (drop place words)) (begun_by (first_byte words) rows) else begun_by (first_byte words) rows)
    words ≡ longest rows words
longest_narrowed place true rows words = longest_going_on place (begun_by (first_byte words) rows) words ∙ longest_begun rows words
longest_narrowed place false rows words = longest_begun rows words

-- a class that was found among the rows of a table for the bytes of the line
pub class_narrowed : (letter place first later : ℕ) (all rows : List Row) (words : List (List ℕ)) (class : Option HeadClass) → class ≡ class_in rows words →
    rows ≡ narrowed letter place first later all
    → first ≡ first_byte words → later ≡ first_byte (drop place words) → class ≡ class_in all words
class_narrowed letter place first later all rows words class found narrow one other =
    rw (found, narrow, one, other, longest_narrowed place (first_byte words == letter) all words) refl
