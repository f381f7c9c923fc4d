-- A number, an address, a prefix and a community as they are written are read back as the same value.
use Rattle.std.proofs.Common.{◌≡◌, ◌≢◌, ℕ, zero, suc, ◌+◌, ◌-◌, ◌*◌, ◌/◌, ◌%◌, ◌^◌, ◌<◌, ◌≤◌, Bool, true, false, ◌||◌, List, [], ◌∷◌, ◌++◌, length, get_or, take, drop, Option, Some, None, refl, sym, ap, ◌∙◌, arith, inl, inr}
use Rattle.std.specs.Prelude.{nat_eq, nat_le}
use Rattle.std.specs.Fmt.{decimal}
use Rattle.std.specs.List.{AllByRecursion, list_all, list_any, range_with_len, position_or_len, before_first, after_first, join_with_byte}
use Rattle.std.specs.Option.{option_eq}
use Rattle.std.proofs.lemmas.Bool.{le-leb, ne_eqb, eqb-true, and_from, cases_lt, true≢false}
use Rattle.std.proofs.lemmas.Fmt.{decimal_by_steps}
use Rattle.std.proofs.Math.Nat.{div-div-eq-div-mul}
use Rattle.std.proofs.Math.Seq.{take-append_seam, drop-append-add}
use Rattle.base_kit.specs.Numbers.{is_digit, value_from, is_numeral, number_up_to, parts_at_points, onto_first_part, address_of_parts, address_of}
use Rattle.base_kit.specs.Prefixes.{Prefix}
use Rattle.base_kit.proofs.Words.{is_plain_digits, a_number}
use Rattle.cfg_ast.specs.text.Words.{number_word, number_between, as_number_word, address_word, mask_of, len_of_mask, mask_len_of, bits_behind, cut_to, is_slash, prefix_of, is_colon, community_word}
use Rattle.cfg_ast.specs.printing.Printed.{address_text, prefix_text, community_text}
use Rattle.cfg_ast.specs.printing.WellFormed.{IsBetween, IsNumber, IsPrefix}
use Rattle.given_laws.proofs.Each.{all_weaker, all_pass}

-- ---- numbers

abbrev pub IsDigit : ℕ → Type 0
IsDigit b = IsBetween 48 57 b

-- the digits of a number, none of them a leading zero
pub record AreDigits (n : ℕ) (word : List ℕ) : Type 0 where
  pub some : 1 ≤ length word
  pub digits : AllByRecursion IsDigit word
  pub value : value_from 0 word ≡ n
  pub one : n < 10 → length word ≡ 1
  pub head : 0 < n → get_or word 0 0 ≢ 48

value_push : (v : ℕ) (word : List ℕ) (b : ℕ) → value_from v (word ++ b ∷ []) ≡ value_from v word * 10 + (b - 48)
value_push v [] b = refl
value_push v (c ∷ word) b = value_push (v * 10 + (c - 48)) word b

digits_push : (word : List ℕ) (b : ℕ) → AllByRecursion IsDigit word → IsDigit b → AllByRecursion IsDigit (word ++ b ∷ [])
digits_push [] b all is = (is, tt)
digits_push (c ∷ word) b all is = (all.0, digits_push word b all.1 is)

length_push : (word : List ℕ) (b : ℕ) → length (word ++ b ∷ []) ≡ length word + 1
length_push [] b = refl
length_push (c ∷ word) b = omega (arith, length_push word b)

head_push : (word : List ℕ) (b : ℕ) → 1 ≤ length word → get_or (word ++ b ∷ []) 0 0 ≡ get_or word 0 0
head_push [] b some = absurd (omega arith)
head_push (c ∷ word) b some = refl

one_digit : (n : ℕ) → n < 10 → AreDigits n ((48 + n) ∷ [])
one_digit n small = record { some = omega arith; digits = ((omega arith, omega arith), tt); value = omega arith; one = λ h. refl; head = λ some e. omega arith }

more_digits : (n : ℕ) (word : List ℕ) → 10 ≤ n → AreDigits (n / 10) word → AreDigits n (word ++ ((48 + n % 10) ∷ []))
more_digits n word large are = record {
  some = omega (arith, length_push word (48 + n % 10));
  digits = digits_push word (48 + n % 10) are.digits (omega arith, omega arith);
  value = value_push 0 word (48 + n % 10) ∙ (let v = are.value in omega arith);
  one = λ small. absurd (omega arith);
  head = λ some e. are.head (omega arith) (sym (head_push word (48 + n % 10) are.some) ∙ e);
}

pub decimal_digits : (n : ℕ) → n < 2 ^ 64 → AreDigits n (decimal n)
decimal_digits n small = decimal_by_steps (λ m word. AreDigits m word) one_digit more_digits n small

digits_pass : (word : List ℕ) → AllByRecursion IsDigit word → list_all is_digit word ≡ true
digits_pass [] all = refl
digits_pass (b ∷ word) all = and_from (is_digit b) (list_all is_digit word) (and_from (nat_le 48 b) (nat_le b 57) (le-leb 48 b all.0.0) (le-leb b 57 all.0.1))
    (digits_pass word all.1)

no_zero : (n : ℕ) (word : List ℕ) → AreDigits n word → 1 < length word → get_or word 0 0 ≢ 48
no_zero n word are long = elim (cases_lt n 10) [ inl small ↦ absurd (omega (arith, are.one small)) | inr large ↦ are.head (omega arith) ]

pub up_to_back : (most n : ℕ) → n ≤ most → n < 2 ^ 64 → number_up_to most (decimal n) ≡ Some n
up_to_back most n le small =
    let are = decimal_digits n small in
    let numeral : is_numeral (decimal n) ≡ true = is_plain_digits (decimal n) are.some (no_zero n (decimal n) are) ∙ digits_pass (decimal n) are.digits in
    a_number most (decimal n) numeral (omega (arith, are.value)) ∙ ap (λ v. Some v) are.value

wide : (n : ℕ) → n ≤ 4294967295 → n < 2 ^ 64
wide n le = omega arith

pub number_back : (n : ℕ) → IsNumber n → number_word (decimal n) ≡ Some n
unfolding number_word
number_back n le = up_to_back 4294967295 n le (wide n le)

pub between_back : (low high n : ℕ) → IsNumber n → IsBetween low high n → number_between low high (decimal n) ≡ Some n
unfolding number_between
between_back low high n number range = rw (number_back n number, le-leb low n range.0, le-leb n high range.1) refl

pub as_number_back : (n : ℕ) → IsBetween 1 4294967295 n → as_number_word (decimal n) ≡ Some n
unfolding as_number_word
as_number_back n range = between_back 1 4294967295 n range.1 range

-- ---- addresses

abbrev IsNoPoint : ℕ → Type 0
IsNoPoint b = b ≢ 46

point : (b : ℕ) (word : List ℕ) → b ≢ 46 → parts_at_points (b ∷ word) ≡ onto_first_part b (parts_at_points word)
point b word other = rw (ne_eqb b 46 other) refl

parts_last : (word : List ℕ) → AllByRecursion IsNoPoint word → parts_at_points word ≡ word ∷ []
parts_last [] none = refl
parts_last (b ∷ word) none = point b word none.0 ∙ ap (onto_first_part b) (parts_last word none.1)

parts_more : (word rest : List ℕ) → AllByRecursion IsNoPoint word → parts_at_points (word ++ 46 ∷ rest) ≡ word ∷ parts_at_points rest
parts_more [] rest none = refl
parts_more (b ∷ word) rest none = point b (word ++ 46 ∷ rest) none.0 ∙ ap (onto_first_part b) (parts_more word rest none.1)

no_points : (n : ℕ) → n < 2 ^ 64 → AllByRecursion IsNoPoint (decimal n)
no_points n small = all_weaker IsDigit IsNoPoint (λ b is e. let low = is.0 in omega arith) (decimal n) (decimal_digits n small).digits

four_parts : (a b c d : ℕ) → a ≤ 255 → b ≤ 255 → c ≤ 255 → d ≤ 255 →
    address_of (join_with_byte 46 (decimal a ∷ decimal b ∷ decimal c ∷ decimal d ∷ [])) ≡ Some (((a * 256 + b) * 256 + c) * 256 + d)
four_parts a b c d ha hb hc hd =
    let parts : parts_at_points (join_with_byte 46 (decimal a ∷ decimal b ∷ decimal c ∷ decimal d ∷ [])) ≡ decimal a ∷ decimal b ∷ decimal c ∷ decimal d ∷ [] =
    parts_more (decimal a) _ (no_points a (omega arith))
    ∙ ap (λ (rest : List (List ℕ)). decimal a ∷ rest) (parts_more (decimal b) _ (no_points b (omega arith))
    ∙ ap (λ (rest : List (List ℕ)). decimal b ∷ rest) (parts_more (decimal c) _ (no_points c (omega arith))
    ∙ ap (λ (rest : List (List ℕ)). decimal c ∷ rest) (parts_last (decimal d) (no_points d (omega arith))))) in
    ap address_of_parts parts ∙ rw (
      up_to_back 255 a ha (omega arith),
      up_to_back 255 b hb (omega arith),
      up_to_back 255 c hc (omega arith),
      up_to_back 255 d hd (omega arith),
    ) refl

-- the four numbers of an address give it
four_numbers : (addr : ℕ) → ((addr / 16777216 * 256 + addr / 65536 % 256) * 256 + addr / 256 % 256) * 256 + addr % 256 ≡ addr
four_numbers addr =
    let two : addr / 65536 ≡ addr / 256 / 256 = sym (div-div-eq-div-mul addr 256 256) in
    let three : addr / 16777216 ≡ addr / 256 / 256 / 256 = sym (div-div-eq-div-mul (addr / 256) 256 256 ∙ div-div-eq-div-mul addr 256 65536) in
    omega (arith, two, three)

pub address_back : (addr : ℕ) → IsNumber addr → address_word (address_text addr) ≡ Some addr
unfolding address_word address_text
address_back addr le = four_parts (addr / 16777216) (addr / 65536 % 256) (addr / 256 % 256) (addr % 256) (omega arith) (omega arith) (omega arith) (omega arith)
    ∙ ap (λ v. Some v) (four_numbers addr)

-- ---- masks

range_has : (P : ℕ → Type 0) (a n k : ℕ) → AllByRecursion P (range_with_len a n) → a ≤ k → k < a + n → P k
range_has P a zero k all low high = absurd (omega arith)
range_has P a (suc n) k all low high = elim (cases_lt a k) [
  | inl more ↦ range_has P (a + 1) n k all.1 (omega arith) (omega arith)
  | inr here ↦ (let e : a ≡ k = omega arith in rw (← e) all.0)
]

abbrev mask_reads : ℕ → Bool
mask_reads len = option_eq nat_eq (len_of_mask (mask_of len)) (Some len)

-- each of the 32 masks is read as its length
masks_read : list_all mask_reads (range_with_len 1 32) ≡ true
unfolding len_of_mask
masks_read = refl

same_some : (o : Option ℕ) (n : ℕ) → option_eq nat_eq o (Some n) ≡ true → o ≡ Some n
same_some None n e = absurd (true≢false (sym e))
same_some (Some m) n e = ap (λ v. Some v) (eqb-true m n e)

mask_small : (len : ℕ) → mask_of len ≤ 4294967295
mask_small len = let p : 1 ≤ 2 ^ (32 - len) = positive (32 - len) in omega arith
  where
    positive : (k : ℕ) → 1 ≤ 2 ^ k
    positive zero = omega arith
    positive (suc k) = let h = positive k in omega arith

pub mask_back : (len : ℕ) → IsBetween 1 32 len → mask_len_of (address_text (mask_of len)) ≡ Some len
unfolding mask_len_of
mask_back len range =
    rw (address_back (mask_of len) (mask_small len))
    (same_some (len_of_mask (mask_of len)) len
    (range_has (λ k. mask_reads k ≡ true) 1 32 len (all_pass mask_reads (range_with_len 1 32) masks_read) range.0 (let high = range.1 in omega arith)))

-- ---- prefixes and communities

-- the first place where a test holds, behind places where it fails
first_place : (test : ℕ → Bool) (xs : List ℕ) (y : ℕ) (ys : List ℕ) → AllByRecursion (λ x. test x ≡ false) xs → test y ≡ true →
    position_or_len test (xs ++ y ∷ ys) ≡ length xs
first_place test [] y ys none here = rw here refl
first_place test (x ∷ xs) y ys none here = rw (none.0) (ap (λ n. 1 + n) (first_place test xs y ys none.1 here) ∙ omega arith)

before_back : (test : ℕ → Bool) (xs : List ℕ) (y : ℕ) (ys : List ℕ) → AllByRecursion (λ x. test x ≡ false) xs → test y ≡ true →
    before_first test (xs ++ y ∷ ys) ≡ xs
before_back test xs y ys none here = ap (λ n. take n (xs ++ y ∷ ys)) (first_place test xs y ys none here) ∙ take-append_seam xs (y ∷ ys)

after_back : (test : ℕ → Bool) (xs : List ℕ) (y : ℕ) (ys : List ℕ) → AllByRecursion (λ x. test x ≡ false) xs → test y ≡ true →
    after_first test (xs ++ y ∷ ys) ≡ ys
after_back test xs y ys none here = ap (λ n. drop (n + 1) (xs ++ y ∷ ys)) (first_place test xs y ys none here) ∙ drop-append-add xs (y ∷ ys) 1

all_append : (P : ℕ → Type 0) (xs ys : List ℕ) → AllByRecursion P xs → AllByRecursion P ys → AllByRecursion P (xs ++ ys)
all_append P [] ys first second = second
all_append P (x ∷ xs) ys first second = (first.0, all_append P xs ys first.1 second)

-- a digit or a point
abbrev pub IsAddressByte : ℕ → Type 0
IsAddressByte b = (46 ≤ b) × (b ≤ 57) × (b ≢ 47)

digits_bytes : (n : ℕ) → n < 2 ^ 64 → AllByRecursion IsAddressByte (decimal n)
digits_bytes n small = all_weaker IsDigit IsAddressByte (λ b is. let low = is.0 in let high = is.1 in (omega arith, omega arith, λ e. omega arith)) (decimal n)
    (decimal_digits n small).digits

is_point : IsAddressByte 46
is_point = (omega arith, omega arith, λ e. omega arith)

four_bytes : (a b c d : ℕ) → a < 2 ^ 64 → b < 2 ^ 64 → c < 2 ^ 64 → d < 2 ^ 64 →
    AllByRecursion IsAddressByte (join_with_byte 46 (decimal a ∷ decimal b ∷ decimal c ∷ decimal d ∷ []))
four_bytes a b c d ha hb hc hd =
    all_append IsAddressByte (decimal a) _ (digits_bytes a ha) (
      is_point,
      all_append IsAddressByte (decimal b) _ (digits_bytes b hb) (
        is_point,
        all_append IsAddressByte (decimal c) _ (digits_bytes c hc) (is_point, digits_bytes d hd),
      ),
    )

pub address_bytes : (addr : ℕ) → IsNumber addr → AllByRecursion IsAddressByte (address_text addr)
unfolding address_text
address_bytes addr le = four_bytes (addr / 16777216) (addr / 65536 % 256) (addr / 256 % 256) (addr % 256) (omega arith) (omega arith) (omega arith)
    (omega arith)

no_slash : (addr : ℕ) → IsNumber addr → AllByRecursion (λ b. is_slash b ≡ false) (address_text addr)
no_slash addr le = all_weaker IsAddressByte (λ b. is_slash b ≡ false) (λ b is. ne_eqb b 47 is.2) (address_text addr) (address_bytes addr le)

whole_prefix : (p : Prefix) → bits_behind p.len p.addr ≡ 0 → cut_to p.len p.addr ≡ p
whole_prefix p exact = ap (λ (addr : ℕ). let q : Prefix = record { addr = addr; len = p.len } in q) (ap (λ (bits : ℕ). p.addr - bits) exact ∙ omega arith)

pub prefix_back : (p : Prefix) → IsPrefix p → prefix_of (prefix_text p) ≡ Some p
unfolding prefix_of prefix_text
prefix_back p is =
    let none = no_slash p.addr is.addr in
    let small : IsNumber p.len = let short = is.len in omega arith in
    rw (
      before_back is_slash (address_text p.addr) 47 (decimal p.len) none refl,
      address_back p.addr is.addr,
      after_back is_slash (address_text p.addr) 47 (decimal p.len) none refl,
      between_back 0 32 p.len small (omega arith, is.len),
    )
    (ap (λ q. Some q) (whole_prefix p is.exact))

no_colon : (n : ℕ) → n < 2 ^ 64 → AllByRecursion (λ b. is_colon b ≡ false) (decimal n)
no_colon n small = all_weaker IsDigit (λ b. is_colon b ≡ false) (λ b is. ne_eqb b 58 (λ e. let high = is.1 in omega arith)) (decimal n)
    (decimal_digits n small).digits

has_colon : (xs ys : List ℕ) → list_any is_colon (xs ++ 58 ∷ ys) ≡ true
has_colon [] ys = refl
has_colon (x ∷ xs) ys = rw (has_colon xs ys) (or_true (is_colon x))
  where
    or_true : (b : Bool) → (b || true) ≡ true
    or_true true = refl
    or_true false = refl

pub community_back : (c : ℕ) → IsBetween 1 4294901759 c → community_word (community_text c) ≡ Some c
unfolding community_word community_text
community_back c range =
    let high = c / 65536 in
    let low = c % 65536 in
    let top = range.1 in
    let none = no_colon high (omega arith) in
    rw (
      has_colon (decimal high) (decimal low),
      before_back is_colon (decimal high) 58 (decimal low) none refl,
      between_back 0 65535 high (omega arith) (omega arith, omega arith),
      after_back is_colon (decimal high) 58 (decimal low) none refl,
      between_back 0 65535 low (omega arith) (omega arith, omega arith),
    )
    (ap (λ v. Some v) (let e : 65536 * high + low ≡ c = omega arith in e))
