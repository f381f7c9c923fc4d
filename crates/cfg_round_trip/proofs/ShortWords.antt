-- How long the words of a printed line are at most.
use Rattle.std.proofs.Common.{◌≡◌, ℕ, zero, suc, ◌+◌, ◌-◌, ◌/◌, ◌%◌, ◌^◌, ◌<◌, ◌≤◌, Bool, true, false, List, [], ◌∷◌, ◌++◌, length, arith, length-append}
use Rattle.std.specs.Prelude.{nat_le, ◌&&◌}
use Rattle.std.specs.Fmt.{decimal}
use Rattle.std.specs.List.{join_with_byte, list_any}
use Rattle.std.specs.Char.{is_ascii_digit, is_ascii_alphabetic}
use Rattle.std.proofs.lemmas.Fmt.{length-decimal-le}
use Rattle.std.proofs.lemmas.Bool.{leb-true, and_parts}
use Rattle.base_kit.specs.Prefixes.{Prefix}
use Rattle.cfg_ast.specs.text.Words.{mask_of, is_name_long, begins_with, is_letter_or_digit, is_router_name, is_interface_name, is_list_name}
use Rattle.cfg_ast.specs.printing.Printed.{address_text, community_text, prefix_text, act_text, line}
use Rattle.cfg_ast.specs.printing.WellFormed.{IsBetween, IsNumber, IsListName, IsPrefix, IsInterfaceName}
use Rattle.cfg_round_trip.proofs.ShortTexts.{joined}
use Rattle.cfg_round_trip.specs.ShortMaps.{IsShortLine}
use Rattle.cfg_round_trip.proofs.ShortNames.{line_length}

-- the bytes of words, each with a blank
abbrev pub weight : List (List ℕ) → ℕ
weight [] = 0
weight (word ∷ words) = (length word + 1) + weight words

pub joined_weight : (words : List (List ℕ)) → joined words ≤ weight words
joined_weight [] = omega arith
joined_weight (word ∷ []) = omega arith
joined_weight (word ∷ next ∷ words) = omega (arith, length-append word (32 ∷ join_with_byte 32 (next ∷ words)), joined_weight (next ∷ words))

-- a line of words that weigh no more is short
pub light_line : (n : ℕ) (words : List (List ℕ)) → n + weight words ≤ 1024 → IsShortLine (line n words)
light_line n words light = omega (arith, line_length (line n words), joined_weight words)

pub number_short : (n : ℕ) → IsNumber n → length (decimal n) ≤ 10
number_short n is = length-decimal-le 10 n (omega arith) (omega arith) (omega arith)

pub digits_short : (k n : ℕ) → 0 < k → n < 10 ^ k → n < 2 ^ 64 → length (decimal n) ≤ k
digits_short k n some small wide = length-decimal-le k n some small wide

pub byte_short : (n : ℕ) → n ≤ 255 → length (decimal n) ≤ 3
byte_short n is = length-decimal-le 3 n (omega arith) (omega arith) (omega arith)

pub four_short : (a b c d : List ℕ) → length a ≤ 3 → length b ≤ 3 → length c ≤ 3 → length d ≤ 3 → length (join_with_byte 46 (a ∷ b ∷ c ∷ d ∷ [])) ≤ 15
four_short a b c d ha hb hc hd = omega (
  arith,
  length-append a (46 ∷ b ++ 46 ∷ c ++ 46 ∷ d),
  length-append a (46 ∷ (b ++ (46 ∷ (c ++ (46 ∷ d))))),
  length-append b (46 ∷ (c ++ (46 ∷ d))),
  length-append c (46 ∷ d),
)

pub address_short : (addr : ℕ) → IsNumber addr → length (address_text addr) ≤ 15
unfolding address_text
address_short addr is =
    four_short (decimal (addr / 16777216)) (decimal (addr / 65536 % 256)) (decimal (addr / 256 % 256)) (decimal (addr % 256))
    (byte_short (addr / 16777216) (omega arith)) (byte_short (addr / 65536 % 256) (omega arith)) (byte_short (addr / 256 % 256) (omega arith))
    (byte_short (addr % 256) (omega arith))

pub mask_short : (len : ℕ) → length (address_text (mask_of len)) ≤ 15
mask_short len = address_short (mask_of len) (small (2 ^ (32 - len)) (positive (32 - len)))
  where
    positive : (k : ℕ) → 1 ≤ 2 ^ k
    positive zero = omega arith
    positive (suc k) = let h = positive k in omega arith

    small : (p : ℕ) → 1 ≤ p → 4294967296 - p ≤ 4294967295
    small p some = omega arith

pub prefix_short : (p : Prefix) → IsPrefix p → length (prefix_text p) ≤ 18
unfolding prefix_text
prefix_short p is =
    let len = is.len in
    omega (
      arith,
      length-append (address_text p.addr) (47 ∷ decimal p.len),
      address_short p.addr is.addr,
      length-decimal-le 2 p.len (omega arith) (omega arith) (omega arith),
    )

pub community_short : (c : ℕ) → IsBetween 1 4294901759 c → length (community_text c) ≤ 11
unfolding community_text
community_short c is =
    let high = is.1 in
    omega (
      arith,
      length-append (decimal (c / 65536)) (58 ∷ decimal (c % 65536)),
      length-decimal-le 5 (c / 65536) (omega arith) (omega arith) (omega arith),
      length-decimal-le 5 (c % 65536) (omega arith) (omega arith) (omega arith),
    )

pub act_short : (permit : Bool) → length (act_text permit) ≤ 6
act_short true = omega arith
act_short false = omega arith

pub long_name : (word : List ℕ) → is_name_long word ≡ true → length word ≤ 63
long_name word e = leb-true (length word) 63 (and_parts (nat_le 1 (length word)) (nat_le (length word) 63) e).1

pub list_name_short : (name : List ℕ) → IsListName name → length name ≤ 63
unfolding is_list_name
list_name_short name is = long_name name is.long

pub router_name_short : (name : List ℕ) → is_router_name name ≡ true → length name ≤ 63
unfolding is_router_name
router_name_short name e = long_name name (and_parts (is_name_long name) _ (and_parts (is_name_long name && begins_with is_letter_or_digit name) _ e).0).0

pub interface_name_short : (name : List ℕ) → IsInterfaceName name → length name ≤ 63
unfolding is_interface_name
interface_name_short name e = long_name name
    (and_parts (is_name_long name) _ (and_parts (is_name_long name && begins_with is_ascii_alphabetic name) _
    (and_parts (is_name_long name && begins_with is_ascii_alphabetic name && list_any is_ascii_digit name) _ e).0).0).0
