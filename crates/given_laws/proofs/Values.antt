-- What the words of a line give lies in its range.
use Rattle.std.proofs.Common.{◌≡◌, ℕ, ◌+◌, ◌-◌, ◌*◌, ◌/◌, ◌%◌, ◌^◌, ◌≤◌, Bool, true, false, ◌&&◌, ◌||◌, ◌==◌, List, [], ◌∷◌, Option, Some, None, ap, ◌∙◌, arith}
use Rattle.std.specs.Prelude.{IfSome, nat_le, nat_lt, if◌then◌else◌}
use Rattle.std.specs.List.{range_with_len, before_first, after_first}
use Rattle.std.specs.Option.{option_or}
use Rattle.std.proofs.lemmas.Bool.{leb-true, and_parts, eqb-true}
use Rattle.std.proofs.Math.Nat.{mod-eq-sub-mul-div, mul-mod_right, mod-le}
use Rattle.base_kit.specs.Numbers.{number_up_to, is_numeral, value_from, address_of_numbers, address_of_parts, parts_at_points}
use Rattle.base_kit.specs.Prefixes.{Prefix}
use Rattle.cfg_ast.specs.text.Words.{is_slash, number_word, number_between, if_between, as_number_word, address_word, mask_of, len_of_mask, mask_len_of, classful_len_of, bits_behind, cut_to, exact_prefix, prefix_of}
use Rattle.cfg_ast.specs.text.RouterForms.{area_word}
use Rattle.cfg_ast.specs.printing.WellFormed.{IsBetween, IsNumber, IsPrefix}
use Rattle.given_laws.proofs.Given.{tested, and_after}
use Rattle.given_laws.proofs.Each.{all_weaker, all_find, all_range}

-- ---- numbers

up_to : (most : ℕ) (word : List ℕ) → IfSome (number_up_to most word) (λ n. n ≤ most)
up_to most word = tested (λ n. n ≤ most) (is_numeral word && nat_le (value_from 0 word) most) (value_from 0 word)
    (λ e. leb-true (value_from 0 word) most (and_parts (is_numeral word) (nat_le (value_from 0 word) most) e).1)

pub a_number : (word : List ℕ) → IfSome (number_word word) IsNumber
unfolding number_word
a_number word = up_to 4294967295 word

in_between : (low high n : ℕ) → IfSome (if_between low high n) (IsBetween low high)
in_between low high n =
    tested (IsBetween low high) (nat_le low n && nat_le n high) n (λ e.
    let both = and_parts (nat_le low n) (nat_le n high) e in
    (leb-true low n both.0, leb-true n high both.1))

pub between : (low high : ℕ) (word : List ℕ) → IfSome (number_between low high word) (IsBetween low high)
unfolding number_between
between low high word = and_after IsNumber (IsBetween low high) (number_word word) (if_between low high) (a_number word) (λ n is. in_between low high n)

pub an_as_number : (word : List ℕ) → IfSome (as_number_word word) (IsBetween 1 4294967295)
unfolding as_number_word
an_as_number word = between 1 4294967295 word

-- ---- addresses

small_parts : (a b c d : ℕ) → a ≤ 255 → b ≤ 255 → c ≤ 255 → d ≤ 255 → ((a * 256 + b) * 256 + c) * 256 + d ≤ 4294967295
small_parts a b c d ha hb hc hd = omega arith

of_numbers : (a b c d : Option ℕ) → IfSome a (λ n. n ≤ 255) → IfSome b (λ n. n ≤ 255) → IfSome c (λ n. n ≤ 255) → IfSome d (λ n. n ≤ 255) →
    IfSome (address_of_numbers a b c d) IsNumber
of_numbers (Some a) (Some b) (Some c) (Some d) ha hb hc hd = small_parts a b c d ha hb hc hd
of_numbers _ _ _ _ ha hb hc hd = tt

of_parts : (parts : List (List ℕ)) → IfSome (address_of_parts parts) IsNumber
of_parts (a ∷ b ∷ c ∷ d ∷ []) = of_numbers (number_up_to 255 a) (number_up_to 255 b) (number_up_to 255 c) (number_up_to 255 d) (up_to 255 a) (up_to 255 b)
    (up_to 255 c) (up_to 255 d)
of_parts _ = tt

pub an_address : (word : List ℕ) → IfSome (address_word word) IsNumber
unfolding address_word
an_address word = of_parts (parts_at_points word)

pub an_area : (word : List ℕ) → IfSome (area_word word) IsNumber
unfolding area_word
an_area word = by (number_word word) (address_word word) (a_number word) (an_address word)
  where
    by : (a b : Option ℕ) → IfSome a IsNumber → IfSome b IsNumber → IfSome (option_or a b) IsNumber
    by (Some n) b first second = first
    by None b first second = second

-- ---- masks and lengths

a_len : (mask : ℕ) → IfSome (len_of_mask mask) (IsBetween 1 32)
unfolding len_of_mask
a_len mask = all_find (IsBetween 1 32) (λ len. mask_of len == mask) (range_with_len 1 32)
    (all_weaker (λ (k : ℕ). (1 ≤ k) × (k + 1 ≤ 1 + 32)) (IsBetween 1 32) (λ k is. (is.0, let high = is.1 in omega arith)) (range_with_len 1 32)
    (all_range 1 32))

pub a_mask_len : (word : List ℕ) → IfSome (mask_len_of word) (IsBetween 1 32)
unfolding mask_len_of
a_mask_len word = and_after IsNumber (IsBetween 1 32) (address_word word) len_of_mask (an_address word) (λ mask is. a_len mask)

class_len : (none a b : Bool) → IfSome (if none then None else (if a then Some 8 else (if b then Some 16 else Some 24))) (IsBetween 1 32)
class_len true a b = tt
class_len false true b = (omega arith, omega arith)
class_len false false true = (omega arith, omega arith)
class_len false false false = (omega arith, omega arith)

pub a_class_len : (addr : ℕ) → IfSome (classful_len_of addr) (IsBetween 1 32)
unfolding classful_len_of
a_class_len addr = let first = addr / 16777216 in class_len (nat_lt first 1 || nat_lt 223 first) (nat_le first 127) (nat_le first 191)

-- ---- prefixes

abbrev pub IsSomePrefix : Prefix → Type 0
IsSomePrefix p = IsPrefix p × (1 ≤ p.len)

pub an_exact_prefix : (addr len : ℕ) → IsNumber addr → IsBetween 1 32 len → IfSome (exact_prefix addr len) IsSomePrefix
unfolding exact_prefix
an_exact_prefix addr len number short =
    tested IsSomePrefix (bits_behind len addr == 0) (record { addr = addr; len = len }) (λ e.
    (record { addr = number; len = short.1; exact = eqb-true (bits_behind len addr) 0 e }, short.0))

-- what is left of a number without its rest is a multiple
no_rest : (n m : ℕ) → (n - n % m) % m ≡ 0
no_rest n m =
    let multiple : n - n % m ≡ m * (n / m) = omega (arith, mod-eq-sub-mul-div n m, mod-le n m) in
    ap (λ (k : ℕ). k % m) multiple ∙ mul-mod_right m (n / m)

cut_is : (len addr : ℕ) → IsNumber addr → len ≤ 32 → IsPrefix (cut_to len addr)
cut_is len addr number short = record {
  addr = small (addr % 2 ^ (32 - len)) addr number;
  len = short;
  exact = no_rest addr (2 ^ (32 - len));
}
  where
    small : (r n : ℕ) → n ≤ 4294967295 → n - r ≤ 4294967295
    small r n le = omega arith

pub a_prefix : (word : List ℕ) → IfSome (prefix_of word) IsPrefix
unfolding prefix_of
a_prefix word =
    and_after IsNumber IsPrefix _ _ (an_address (before_first is_slash word)) (λ addr number.
    and_after (IsBetween 0 32) IsPrefix _ _ (between 0 32 (after_first is_slash word)) (λ len short.
    cut_is len addr number short.1))
