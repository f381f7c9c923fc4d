-- The words of printed lines: none is empty, and each byte prints and is no blank.
use Rattle.std.proofs.Common.{◌≡◌, ℕ, ◌+◌, ◌-◌, ◌/◌, ◌%◌, ◌≤◌, Bool, true, false, ◌&&◌, List, [], ◌∷◌, ◌++◌, length, refl, arith, length-append, codes}
use Rattle.std.specs.Prelude.{nat_le}
use Rattle.std.specs.List.{AllByRecursion, list_all, list_any}
use Rattle.std.specs.Char.{is_ascii_digit, is_ascii_alphabetic}
use Rattle.std.specs.Fmt.{decimal}
use Rattle.std.proofs.lemmas.Fmt.{decimal_by_steps}
use Rattle.std.proofs.lemmas.Bool.Decides.{nat_tests}
use Rattle.std.proofs.lemmas.Nat.{pow_pos}
use Rattle.base_kit.specs.Prefixes.{Prefix}
use Rattle.cfg_ast.specs.text.Words.{is_name_long, begins_with, is_letter_or_digit, is_router_byte, is_router_name, is_interface_byte, is_interface_name, is_list_name, mask_of}
use Rattle.cfg_ast.specs.printing.Printed.{address_text, prefix_text, community_text, act_text}
use Rattle.cfg_ast.specs.printing.WellFormed.{IsBetween, IsListName}
use Rattle.cfg_round_trip.proofs.PrintedLines.{IsPrintedWord}
use Rattle.cfg_round_trip.proofs.LineBytes.{each_append}

-- ---- words as they stand

abbrev pub is_printed_byte : ℕ → Bool
is_printed_byte b = nat_le 33 b && nat_le b 126

and_first : (a b : Bool) → (a && b) ≡ true → a ≡ true
and_first true b e = refl
and_first false b e = absurd cc

and_second : (a b : Bool) → (a && b) ≡ true → b ≡ true
and_second true b e = e
and_second false b e = absurd cc

byte_prints : (b : ℕ) → is_printed_byte b ≡ true → IsBetween 33 126 b
byte_prints b e = (grind (arith, nat_tests), grind (arith, nat_tests))

bytes_print : (test : ℕ → Bool) → ((b : ℕ) → test b ≡ true → IsBetween 33 126 b) → (w : List ℕ) → list_all test w ≡ true → AllByRecursion (IsBetween 33 126) w
bytes_print test prints [] e = tt
bytes_print test prints (b ∷ w) e = (prints b (and_first (test b) (list_all test w) e), bytes_print test prints w (and_second (test b) (list_all test w) e))

abbrev is_some_printed : List ℕ → Bool
is_some_printed w = nat_le 1 (length w) && list_all is_printed_byte w

some_long : (n : ℕ) → nat_le 1 n ≡ true → 1 ≤ n
some_long n e = grind (arith, nat_tests)

-- a word of which a test says so
pub word_as_tested : (w : List ℕ) → is_some_printed w ≡ true → IsPrintedWord w
word_as_tested w e = (
  some_long (length w) (and_first (nat_le 1 (length w)) (list_all is_printed_byte w) e),
  bytes_print is_printed_byte byte_prints w (and_second (nat_le 1 (length w)) (list_all is_printed_byte w) e),
)

-- ---- numbers

last_digit : (m : ℕ) → IsBetween 33 126 (48 + m % 10)
last_digit m = (omega arith, omega arith)

pub decimal_prints : (n : ℕ) → n ≤ 4294967295 → IsPrintedWord (decimal n)
decimal_prints n small =
    decimal_by_steps (λ m ds. IsPrintedWord ds) (λ m l. (omega arith, ((omega arith, omega arith), tt)))
    (λ m ds l h. (omega (arith, length-append ds ((48 + m % 10) ∷ [])), each_append (IsBetween 33 126) ds ((48 + m % 10) ∷ []) h.1 (last_digit m, tt))) n
    (omega arith)

-- two words with a byte between them
pub glued : (a b : List ℕ) (c : ℕ) → IsBetween 33 126 c → IsPrintedWord a → IsPrintedWord b → IsPrintedWord (a ++ c ∷ b)
glued a b c between first second = (omega (arith, length-append a (c ∷ b)), each_append (IsBetween 33 126) a (c ∷ b) first.1 (between, second.1))

pub address_prints : (addr : ℕ) → addr ≤ 4294967295 → IsPrintedWord (address_text addr)
unfolding address_text
address_prints addr small =
    let point : IsBetween 33 126 46 = (omega arith, omega arith) in
    let first : addr / 16777216 ≤ 4294967295 = omega arith in
    let second : addr / 65536 % 256 ≤ 4294967295 = omega arith in
    let third : addr / 256 % 256 ≤ 4294967295 = omega arith in
    let fourth : addr % 256 ≤ 4294967295 = omega arith in
    let low = glued (decimal (addr / 256 % 256)) (decimal (addr % 256)) 46 point (decimal_prints (addr / 256 % 256) third) (decimal_prints (addr % 256) fourth)
    in
    let lower = glued (decimal (addr / 65536 % 256)) (decimal (addr / 256 % 256) ++ 46 ∷ decimal (addr % 256)) 46 point
    (decimal_prints (addr / 65536 % 256) second) low in
    glued (decimal (addr / 16777216)) (decimal (addr / 65536 % 256) ++ 46 ∷ (decimal (addr / 256 % 256) ++ 46 ∷ decimal (addr % 256))) 46 point
    (decimal_prints (addr / 16777216) first) lower

pub mask_prints : (len : ℕ) → IsPrintedWord (address_text (mask_of len))
mask_prints len = address_prints (mask_of len) (omega (arith, pow_pos (32 - len)))

pub prefix_prints : (p : Prefix) → p.addr ≤ 4294967295 → p.len ≤ 32 → IsPrintedWord (prefix_text p)
unfolding prefix_text
prefix_prints p addr len = glued (address_text p.addr) (decimal p.len) 47 (omega arith, omega arith) (address_prints p.addr addr)
    (decimal_prints p.len (omega arith))

pub community_prints : (community : ℕ) → IsBetween 1 4294901759 community → IsPrintedWord (community_text community)
unfolding community_text
community_prints community is =
    let small = is.1 in
    glued (decimal (community / 65536)) (decimal (community % 65536)) 58 (omega arith, omega arith) (decimal_prints (community / 65536) (omega arith))
    (decimal_prints (community % 65536) (omega arith))

pub act_prints : (permit : Bool) → IsPrintedWord (act_text permit)
act_prints true = word_as_tested (codes "permit") refl
act_prints false = word_as_tested (codes "deny") refl

-- ---- names

router_byte : (b : ℕ) → is_router_byte b ≡ true → IsBetween 33 126 b
router_byte b e = (grind (arith, nat_tests), grind (arith, nat_tests))

interface_byte : (b : ℕ) → is_interface_byte b ≡ true → IsBetween 33 126 b
interface_byte b e = (grind (arith, nat_tests), grind (arith, nat_tests))

long_name : (w : List ℕ) → is_name_long w ≡ true → 1 ≤ length w
long_name w e = some_long (length w) (and_first (nat_le 1 (length w)) (nat_le (length w) 63) e)

pub router_name_prints : (name : List ℕ) → is_router_name name ≡ true → IsPrintedWord name
unfolding is_router_name
router_name_prints name e =
    let front = is_name_long name && begins_with is_letter_or_digit name in
    let first : front ≡ true = and_first front (list_all is_router_byte name) e in (
      long_name name (and_first (is_name_long name) (begins_with is_letter_or_digit name) first),
      bytes_print is_router_byte router_byte name (and_second front (list_all is_router_byte name) e),
    )

pub interface_name_prints : (name : List ℕ) → is_interface_name name ≡ true → IsPrintedWord name
unfolding is_interface_name
interface_name_prints name e =
    let digits = list_any is_ascii_digit name in
    let begins = begins_with is_ascii_alphabetic name in
    let front = is_name_long name && begins && digits in
    let first : front ≡ true = and_first front (list_all is_interface_byte name) e in
    let second : (is_name_long name && begins) ≡ true = and_first (is_name_long name && begins) digits first in (
      long_name name (and_first (is_name_long name) begins second),
      bytes_print is_interface_byte interface_byte name (and_second front (list_all is_interface_byte name) e),
    )

list_long : (w : List ℕ) → is_list_name w ≡ true → 1 ≤ length w
unfolding is_list_name
list_long w e = long_name w e

pub list_name_prints : (name : List ℕ) → IsListName name → IsPrintedWord name
list_name_prints name is = (list_long name is.long, is.bytes)
