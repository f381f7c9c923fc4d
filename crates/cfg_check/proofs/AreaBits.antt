-- Words with a bit for each line, and the tables of such words.
use Rattle.std.proofs.Common.{◌≡◌, ◌≢◌, ◌<◌, ◌≤◌, ℕ, suc, min, ◌+◌, ◌*◌, ◌/◌, ◌%◌, ◌^◌, Bool, true, false, not, ◌&&◌, ◌||◌, List, [], ◌∷◌, ◌++◌, length, get_or, take, drop, nat_eq, refl, sym, ap, ◌∙◌, subst, arith, inl, inr}
use Rattle.std.specs.Prelude.{bit_and, bit_or}
use Rattle.std.specs.List.{list_any}
use Rattle.std.specs.Fork.{slice_chunk}
use Rattle.std.proofs.lemmas.Nat.{and_block, or_shr, or_mod, mod-pow-add, div-add-mod', same_from_place, mul-add-lt, pow_pos, mod_below}
use Rattle.std.proofs.lemmas.Bool.{cases_eq, cases_lt}
use Rattle.std.proofs.lemmas.Bool.Decides.{nat_tests}
use Rattle.std.proofs.lemmas.List.{take-take, take_min, drop-take, take_all, take-append-drop}
use Rattle.std.proofs.lemmas.List.Folds.{list_any-append}
use Rattle.std.proofs.lemmas.Grind.{get_or_default_zero}
use Rattle.cfg_ast.specs.declared.ospf.AreaLine.{AreaLine}
use Rattle.cfg_ast.specs.meaning.Topology.{line_has_address}
use Rattle.cfg_check.specs.AreaTables.{digit_at, agrees_at, agrees_in, agrees_below, with_bit, bits_after, bits_of, AddsRow, HasRows}

-- Both of two tests.

one_bit : (v w : ℕ) (b c : Bool) → bit_and (with_bit v b) (with_bit w c) ≡ with_bit (bit_and v w) (b && c)
one_bit v w true true = and_block 1 v w 1 1 (omega arith) (omega arith)
one_bit v w true false = and_block 1 v w 1 0 (omega arith) (omega arith)
one_bit v w false true = and_block 1 v w 0 1 (omega arith) (omega arith)
one_bit v w false false = and_block 1 v w 0 0 (omega arith) (omega arith)

both_tests : (p q : AreaLine → Bool) (v w : ℕ) (lines : List AreaLine) →
    bit_and (bits_after p v lines) (bits_after q w lines) ≡ bits_after (λ line. p line && q line) (bit_and v w) lines
both_tests p q v w [] = refl
both_tests p q v w (line ∷ lines) = both_tests p q (with_bit v (p line)) (with_bit w (q line)) lines
    ∙ ap (λ (word : ℕ). bits_after (λ l. p l && q l) word lines) (one_bit v w (p line) (q line))

-- one place more
pub next_place : (place addr : ℕ) (lines : List AreaLine) (chunk before word : ℕ) → before ≡ bits_of (agrees_below place addr) lines chunk →
    word ≡ bits_of (agrees_at place (digit_at place addr)) lines chunk
    → bit_and before word ≡ bits_of (agrees_below (suc place) addr) lines chunk
next_place place addr lines chunk before word so_far here =
    ap (λ (n : ℕ). bit_and n word) so_far ∙ ap (bit_and (bits_of (agrees_below place addr) lines chunk)) here
    ∙ both_tests (agrees_below place addr) (agrees_at place (digit_at place addr)) 0 0 (slice_chunk lines 64 chunk)

-- A word is 0 where no line passes.

no_bit : (word : ℕ) → nat_eq (word * 2 + 0) 0 ≡ nat_eq word 0
no_bit word = grind (arith, nat_tests)

a_bit : (word : ℕ) → nat_eq (word * 2 + 1) 0 ≡ false
a_bit word = grind (arith, nat_tests)

or_no : (a : Bool) → (a || false) ≡ a
or_no true = refl
or_no false = refl

or_yes : (a : Bool) → (a || true) ≡ true
or_yes true = refl
or_yes false = refl

bit_more : (word : ℕ) (bit rest : Bool) → (not (nat_eq (with_bit word bit) 0) || rest) ≡ (not (nat_eq word 0) || (bit || rest))
bit_more word true rest = ap (λ b. not b || rest) (a_bit word) ∙ sym (or_yes (not (nat_eq word 0)))
bit_more word false rest = ap (λ b. not b || rest) (no_bit word)

some_after : (test : AreaLine → Bool) (word : ℕ) (lines : List AreaLine) →
    not (nat_eq (bits_after test word lines) 0) ≡ (not (nat_eq word 0) || list_any test lines)
some_after test word [] = sym (or_no (not (nat_eq word 0)))
some_after test word (line ∷ lines) = some_after test (with_bit word (test line)) lines ∙ bit_more word (test line) (list_any test lines)

some_bit : (test : AreaLine → Bool) (lines : List AreaLine) (chunk word : ℕ) → word ≡ bits_of test lines chunk →
    not (nat_eq word 0) ≡ list_any test (slice_chunk lines 64 chunk)
some_bit test lines chunk word is = ap (λ (n : ℕ). not (nat_eq n 0)) is ∙ some_after test 0 (slice_chunk lines 64 chunk)

-- One chunk more.

take-more : {X : Type 0} (n m : ℕ) (xs : List X) → take (n + m) xs ≡ take n xs ++ take m (drop n xs)
take-more {X} n m xs =
    sym (take-append-drop n (take (n + m) xs))
    ∙ ap (λ (front : List X). front ++ drop n (take (n + m) xs)) (take-take n (n + m) xs (omega arith))
    ∙ ap (λ (back : List X). take n xs ++ back) (drop-take n m xs)

chunk_more : (test : AreaLine → Bool) (lines : List AreaLine) (chunk : ℕ) →
    list_any test (take ((chunk + 1) * 64) lines) ≡ (list_any test (take (chunk * 64) lines) || list_any test (slice_chunk lines 64 chunk))
chunk_more test lines chunk =
    ap (λ (n : ℕ). list_any test (take n lines)) (let e : (chunk + 1) * 64 ≡ chunk * 64 + 64 = omega arith in e)
    ∙ ap (λ (l : List AreaLine). list_any test l) (take-more (chunk * 64) 64 lines)
    ∙ list_any-append test (take (chunk * 64) lines) (slice_chunk lines 64 chunk)

pub none_in_chunk : (test : AreaLine → Bool) (lines : List AreaLine) (chunk word : ℕ) → word ≡ bits_of test lines chunk → word ≡ 0 →
    list_any test (take (chunk * 64) lines) ≡ false → list_any test (take ((chunk + 1) * 64) lines) ≡ false
none_in_chunk test lines chunk word is nothing so_far =
    chunk_more test lines chunk ∙ ap (λ b. b || list_any test (slice_chunk lines 64 chunk)) so_far
    ∙ sym (some_bit test lines chunk word is) ∙ ap (λ (n : ℕ). not (nat_eq n 0)) nothing

not_zero : (n : ℕ) → n ≢ 0 → not (nat_eq n 0) ≡ true
not_zero n ne = grind (arith, nat_tests)

pub one_in_chunk : (test : AreaLine → Bool) (lines : List AreaLine) (chunk word : ℕ) → word ≡ bits_of test lines chunk → word ≢ 0 → list_any test lines ≡ true
one_in_chunk test lines chunk word is ne =
    let n = (chunk + 1) * 64 in
    let front : list_any test (take n lines) ≡ true =
    chunk_more test lines chunk ∙ ap (λ b. list_any test (take (chunk * 64) lines) || b) (sym (some_bit test lines chunk word is) ∙ not_zero word ne)
    ∙ or_yes (list_any test (take (chunk * 64) lines)) in
    ap (λ (l : List AreaLine). list_any test l) (sym (take-append-drop n lines))
    ∙ list_any-append test (take n lines) (drop n lines) ∙ ap (λ b. b || list_any test (drop n lines)) front

pub none_in_all : (test : AreaLine → Bool) (lines : List AreaLine) (n : ℕ) → length lines ≤ n → list_any test (take n lines) ≡ false →
    list_any test lines ≡ false
none_in_all test lines n covers none = ap (λ (l : List AreaLine). list_any test l) (sym (take_all n lines covers)) ∙ none

-- To agree in each digit is to agree.

digit_or : (k a w : ℕ) → bit_or (a / 2 ^ k % 16) (w / 2 ^ k % 16) ≡ bit_or a w / 2 ^ k % 16
digit_or k a w = sym (ap (λ (n : ℕ). n % 16) (or_shr a w k) ∙ or_mod (a / 2 ^ k) (w / 2 ^ k) 4)

pair_eq : (a b c d m : ℕ) → b < m → d < m → (nat_eq b d && nat_eq a c) ≡ nat_eq (a * m + b) (c * m + d)
pair_eq a b c d m p q = elim (cases_eq (a * m + b) (c * m + d)) [
  | inl e ↦ let same = same_from_place a b c d m p q e in grind (arith, nat_tests, same)
  | inr ne ↦ grind (arith, nat_tests)
]

digit_more : (k x y : ℕ) → (nat_eq (x % 2 ^ k) (y % 2 ^ k) && nat_eq (x / 2 ^ k % 16) (y / 2 ^ k % 16)) ≡ nat_eq (x % 2 ^ (4 + k)) (y % 2 ^ (4 + k))
digit_more k x y =
    pair_eq (x / 2 ^ k % 16) (x % 2 ^ k) (y / 2 ^ k % 16) (y % 2 ^ k) (2 ^ k) (mod_below x (2 ^ k) (pow_pos k)) (mod_below y (2 ^ k) (pow_pos k))
    ∙ ap (λ (n : ℕ). nat_eq n (y / 2 ^ k % 16 * 2 ^ k + y % 2 ^ k)) (sym (mod-pow-add x 4 k))
    ∙ ap (nat_eq (x % 2 ^ (4 + k))) (sym (mod-pow-add y 4 k))

first_digit : (k x y : ℕ) → (nat_eq (x % 2 ^ k) (y % 2 ^ k) && nat_eq (x / 2 ^ k) (y / 2 ^ k)) ≡ nat_eq x y
first_digit k x y =
    pair_eq (x / 2 ^ k) (x % 2 ^ k) (y / 2 ^ k) (y % 2 ^ k) (2 ^ k) (mod_below x (2 ^ k) (pow_pos k)) (mod_below y (2 ^ k) (pow_pos k))
    ∙ ap (λ (n : ℕ). nat_eq n (y / 2 ^ k * 2 ^ k + y % 2 ^ k)) (div-add-mod' x (2 ^ k))
    ∙ ap (nat_eq x) (div-add-mod' y (2 ^ k))

digits_or : (k a l w : ℕ) → nat_eq (bit_or (a / 2 ^ k % 16) (w / 2 ^ k % 16)) (bit_or (l / 2 ^ k % 16) (w / 2 ^ k % 16)) ≡ nat_eq (bit_or a w / 2 ^ k % 16)
    (bit_or l w / 2 ^ k % 16)
digits_or k a l w =
    ap (λ (n : ℕ). nat_eq n (bit_or (l / 2 ^ k % 16) (w / 2 ^ k % 16))) (digit_or k a w)
    ∙ ap (nat_eq (bit_or a w / 2 ^ k % 16)) (digit_or k l w)

-- one digit more
low_agree : (k a l w : ℕ) (before : Bool) → before ≡ nat_eq (bit_or a w % 2 ^ k) (bit_or l w % 2 ^ k)
    → (before && nat_eq (bit_or (a / 2 ^ k % 16) (w / 2 ^ k % 16)) (bit_or (l / 2 ^ k % 16) (w / 2 ^ k % 16))) ≡ nat_eq (bit_or a w % 2 ^ (4 + k))
    (bit_or l w % 2 ^ (4 + k))
low_agree k a l w before so_far =
    ap (λ (b : Bool). b && nat_eq (bit_or (a / 2 ^ k % 16) (w / 2 ^ k % 16)) (bit_or (l / 2 ^ k % 16) (w / 2 ^ k % 16))) so_far
    ∙ ap (λ (b : Bool). nat_eq (bit_or a w % 2 ^ k) (bit_or l w % 2 ^ k) && b) (digits_or k a l w)
    ∙ digit_more k (bit_or a w) (bit_or l w)

-- the first digit
all_agree : (k a l w : ℕ) (before : Bool) → before ≡ nat_eq (bit_or a w % 2 ^ k) (bit_or l w % 2 ^ k)
    → (before && nat_eq (bit_or (a / 2 ^ k) (w / 2 ^ k)) (bit_or (l / 2 ^ k) (w / 2 ^ k))) ≡ nat_eq (bit_or a w) (bit_or l w)
all_agree k a l w before so_far =
    ap (λ (b : Bool). b && nat_eq (bit_or (a / 2 ^ k) (w / 2 ^ k)) (bit_or (l / 2 ^ k) (w / 2 ^ k))) so_far
    ∙ ap (λ (n : ℕ). nat_eq (bit_or a w % 2 ^ k) (bit_or l w % 2 ^ k) && nat_eq n (bit_or (l / 2 ^ k) (w / 2 ^ k))) (sym (or_shr a w k))
    ∙ ap (λ (n : ℕ). nat_eq (bit_or a w % 2 ^ k) (bit_or l w % 2 ^ k) && nat_eq (bit_or a w / 2 ^ k) n) (sym (or_shr l w k))
    ∙ first_digit k (bit_or a w) (bit_or l w)

no_digit : (x y : ℕ) → true ≡ nat_eq (x % 2 ^ 0) (y % 2 ^ 0)
no_digit x y =
    let one : x % 1 ≡ 0 = omega arith in
    let other : y % 1 ≡ 0 = omega arith in
    sym (ap (λ (n : ℕ). nat_eq n (y % 1)) one ∙ ap (nat_eq 0) other)

-- to agree with an address in each digit is to agree with it
pub agrees_in_all : (line : AreaLine) (addr : ℕ) → agrees_below 8 addr line ≡ line_has_address line addr
agrees_in_all line addr =
    let l = line.addr in
    let w = line.wild in
    let one = low_agree 0 addr l w true (no_digit (bit_or addr w) (bit_or l w)) in
    let two = low_agree 4 addr l w _ one in
    let three = low_agree 8 addr l w _ two in
    let four = low_agree 12 addr l w _ three in
    let five = low_agree 16 addr l w _ four in
    let six = low_agree 20 addr l w _ five in
    let seven = low_agree 24 addr l w _ six in
    all_agree 28 addr l w _ seven

-- Chunks and rows.

pub take_first : {X : Type 0} (n : ℕ) (xs : List X) → take (min (length xs) n) xs ≡ take n xs
take_first {X} n xs = ap (λ (k : ℕ). take k xs) (let e : min (length xs) n ≡ min n (length xs) = omega arith in e) ∙ take_min n xs

-- one row more
pub row_more : (old new : List ℕ) (lines : List AreaLine) (chunks row : ℕ) → HasRows old lines chunks row → AddsRow old new (agrees_in row) lines chunks →
    HasRows new lines chunks (row + 1)
row_more old new lines chunks row has adds = record {
  len = adds.len ∙ ap (λ (n : ℕ). n + chunks) has.len ∙ (let e : row * chunks + chunks ≡ (row + 1) * chunks = omega arith in e);
  each = λ q chunk below within. elim (cases_lt q row) [
    | inl less ↦ (let inside : q * chunks + chunk < length old = (let place = mul-add-lt q chunks chunk row less within in grind (arith, place, has.len)) in
        adds.before (q * chunks + chunk) inside ∙ has.each q chunk less within)
    | inr more ↦ (let same : q ≡ row = omega arith in
        subst (λ (r : ℕ). get_or new (r * chunks + chunk) 0 ≡ bits_of (agrees_in r) lines chunk) (sym same)
        (ap (λ (n : ℕ). get_or new (n + chunk) 0) (sym has.len) ∙ adds.each chunk within))
  ];
}

-- the word that stands in the row of a digit at a place
pub word_at : (words : List ℕ) (lines : List AreaLine) (chunks place digit chunk word : ℕ) → HasRows words lines chunks 128 → place < 8 → digit < 16 →
    chunk < chunks
    → word ≡ get_or words ((16 * place + digit) * chunks + chunk) word → word ≡ bits_of (agrees_at place digit) lines chunk
word_at words lines chunks place digit chunk word has in_places in_digits within is =
    let row = 16 * place + digit in
    let below : row < 128 = omega arith in
    let inside : row * chunks + chunk < length words = (let place = mul-add-lt row chunks chunk 128 below within in grind (arith, place, has.len)) in
    is ∙ get_or_default_zero words (row * chunks + chunk) word inside
    ∙ has.each row chunk below within
    ∙ ap (λ (p : ℕ). bits_of (agrees_at p (row % 16)) lines chunk) (let e : row / 16 ≡ place = omega arith in e)
    ∙ ap (λ (d : ℕ). bits_of (agrees_at place d) lines chunk) (let e : row % 16 ≡ digit = omega arith in e)
