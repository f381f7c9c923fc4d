-- The names of interfaces, maps and lists of the network of the groups: they are names as the grammar has
-- them, they are short, and they tell apart what they name. Public: the crates above use these lemmas too.
use Rattle.std.proofs.Common.{◌≡◌, ◌≢◌, ℕ, ◌+◌, ◌%◌, ◌^◌, ◌<◌, ◌≤◌, Bool, true, false, ◌&&◌, ◌||◌, List, [], ◌∷◌, ◌++◌, length, refl, sym, subst, ◌∙◌, arith, codes, decimal, bytes_eq, append_assoc, length-append}
use Rattle.std.specs.Prelude.{nat_le, nat_eq}
use Rattle.std.specs.List.{AllByRecursion, list_any, list_all}
use Rattle.std.specs.Char.{is_ascii_digit, is_ascii_alphabetic}
use Rattle.std.proofs.lemmas.Bool.{le-leb}
use Rattle.std.proofs.lemmas.Fmt.{decimal_injective, decimal_by_steps, length-decimal-le}
use Rattle.std.proofs.lemmas.List.Folds.{list_any-append, list_all-append}
use Rattle.std.proofs.lemmas.Slice.Eq.{bytes_eq-Decides}
use Rattle.cfg_ast.specs.text.Words.{is_name_long, begins_with, is_interface_byte, is_letter_or_digit, is_interface_name, is_list_name}
use Rattle.cfg_ast.specs.printing.WellFormed.{IsBetween, IsListName}
use Rattle.config_emit.specs.Maps.{map_name, list_name, match_name, deletion_name}

-- ---- bytes

pub differ : (a b : List ℕ) → (a ≡ b → ⊥) → bytes_eq a b ≡ false
differ a b apart = step (bytes_eq a b) refl
  where
    step : (t : Bool) → bytes_eq a b ≡ t → bytes_eq a b ≡ false
    step true e = absurd (apart ((bytes_eq-Decides a b).0 e))
    step false e = e

pub apart : (a b : List ℕ) → bytes_eq a b ≡ false → a ≡ b → ⊥
apart a b e same = (let f = (bytes_eq-Decides a b).1 same in cc)

pub bytes_self : (a : List ℕ) → bytes_eq a a ≡ true
bytes_self a = (bytes_eq-Decides a a).1 refl

pub cut_front : (p a b : List ℕ) → p ++ a ≡ p ++ b → a ≡ b
cut_front [] a b e = e
cut_front (c ∷ p) a b e = cut_front p a b (let f : p ++ a ≡ p ++ b = cc in f)

-- ---- decimals

abbrev IsDigit : ℕ → Type 0
IsDigit b = IsBetween 48 57 b

pub record IsDecimal (word : List ℕ) : Type 0 where
  pub some : 1 ≤ length word
  pub digits : AllByRecursion (IsBetween 48 57) word

all_append : (P : ℕ → Type 0) (xs ys : List ℕ) → AllByRecursion P xs → AllByRecursion P ys → AllByRecursion P (xs ++ ys)
all_append P [] ys first second = second
all_append P (x ∷ xs) ys first second = (first.0, all_append P xs ys first.1 second)

pub decimal_is : (n : ℕ) → n < 2 ^ 64 → IsDecimal (decimal n)
decimal_is n small = decimal_by_steps (λ m word. IsDecimal word)
    (λ m one. record { some = omega arith; digits = ((omega arith, omega arith), tt) })
    (λ m word more is. record {
      some = omega (arith, length-append word ((48 + m % 10) ∷ []), is.some);
      digits =
          all_append IsDigit word ((48 + m % 10) ∷ []) is.digits ((omega arith, omega arith), tt);
    }) n small

-- up to 99,999,999,999,999 it has at most 14 digits
pub decimal_short : (n : ℕ) → n < 10 ^ 14 → length (decimal n) ≤ 14
decimal_short n small = length-decimal-le 14 n (omega arith) small (omega arith)

all_of : (P : ℕ → Type 0) (test : ℕ → Bool) → ((b : ℕ) → P b → test b ≡ true) → (word : List ℕ) → AllByRecursion P word → list_all test word ≡ true
all_of P test pass [] all = refl
all_of P test pass (b ∷ word) all = rw (pass b all.0, all_of P test pass word all.1) refl

digit_is : (b : ℕ) → IsDigit b → is_ascii_digit b ≡ true
digit_is b is = let low = is.0 in let high = is.1 in rw (le-leb 48 b low, le-leb b 57 high) refl

or_true : (a b : Bool) → b ≡ true → (a || b) ≡ true
or_true true b e = refl
or_true false b e = e

or_left : (a b : Bool) → a ≡ true → (a || b) ≡ true
or_left true b e = refl
or_left false b e = absurd cc

digit_byte : (b : ℕ) → IsDigit b → is_interface_byte b ≡ true
digit_byte b is =
    or_left (is_letter_or_digit b || nat_eq b 47 || nat_eq b 46 || nat_eq b 58) (nat_eq b 45)
    (or_left (is_letter_or_digit b || nat_eq b 47 || nat_eq b 46) (nat_eq b 58)
    (or_left (is_letter_or_digit b || nat_eq b 47) (nat_eq b 46)
    (or_left (is_letter_or_digit b) (nat_eq b 47) (or_true (is_ascii_alphabetic b) (is_ascii_digit b) (digit_is b is)))))

first_digit : (word : List ℕ) → IsDecimal word → list_any is_ascii_digit word ≡ true
first_digit [] is = absurd (let some = is.some in omega arith)
first_digit (b ∷ word) is = or_left (is_ascii_digit b) (list_any is_ascii_digit word) (digit_is b is.digits.0)

-- ---- names of interfaces

both : (a b : Bool) → a ≡ true → b ≡ true → (a && b) ≡ true
both a b e f = rw (e, f) refl

-- a front that begins with a letter, and a decimal behind it
interface_name : (front : List ℕ) (n : ℕ) → n < 10 ^ 14 → length front ≤ 40 → begins_with is_ascii_alphabetic (front ++ decimal n) ≡ true →
    list_all is_interface_byte front ≡ true → is_interface_name (front ++ decimal n) ≡ true
unfolding is_interface_name
interface_name front n small short begins bytes =
    let is = decimal_is n (omega arith) in
    let some = is.some in
    let count = length-append front (decimal n) in
    let few = decimal_short n small in
    both (is_name_long (front ++ decimal n) && begins_with is_ascii_alphabetic (front ++ decimal n) && list_any is_ascii_digit (front ++ decimal n))
    (list_all is_interface_byte (front ++ decimal n))
    (both (is_name_long (front ++ decimal n) && begins_with is_ascii_alphabetic (front ++ decimal n)) (list_any is_ascii_digit (front ++ decimal n))
    (both (is_name_long (front ++ decimal n)) (begins_with is_ascii_alphabetic (front ++ decimal n))
    (both (nat_le 1 (length (front ++ decimal n))) (nat_le (length (front ++ decimal n)) 63) (le-leb 1 (length (front ++ decimal n)) (omega arith))
    (le-leb (length (front ++ decimal n)) 63 (omega arith)))
    begins)
    (list_any-append is_ascii_digit front (decimal n)
    ∙ or_true (list_any is_ascii_digit front) (list_any is_ascii_digit (decimal n)) (first_digit (decimal n) is)))
    (list_all-append is_interface_byte front (decimal n)
    ∙ both (list_all is_interface_byte front) (list_all is_interface_byte (decimal n)) bytes
    (all_of IsDigit is_interface_byte digit_byte (decimal n) is.digits))

pub class_name_is : (j : ℕ) → j < 10 ^ 14 → is_interface_name (codes "Vlan" ++ decimal j) ≡ true
class_name_is j small = interface_name (codes "Vlan") j small (omega arith) refl refl

pub link_name_is : (k : ℕ) → k < 10 ^ 14 → is_interface_name (codes "GigabitEthernet0/" ++ decimal k) ≡ true
link_name_is k small = interface_name (codes "GigabitEthernet0/") k small (omega arith) refl refl

wide : (n : ℕ) → n < 10 ^ 14 → n < 2 ^ 64
wide n small = omega arith

-- a front, and different numbers behind it
pub numbers_apart : (front : List ℕ) (m n : ℕ) → m < 10 ^ 14 → n < 10 ^ 14 → m ≢ n → bytes_eq (front ++ decimal m) (front ++ decimal n) ≡ false
numbers_apart front m n small few other =
    differ (front ++ decimal m) (front ++ decimal n)
    (λ same. other (decimal_injective m n (wide m small) (wide n few) (cut_front front (decimal m) (decimal n) same)))

pub fronts_apart : (j k : ℕ) → bytes_eq (codes "Vlan" ++ decimal j) (codes "GigabitEthernet0/" ++ decimal k) ≡ false
fronts_apart j k = refl

-- ---- names of maps and lists

policy_bytes : AllByRecursion (IsBetween 33 126) (codes "POLICY-")
policy_bytes = (
  (omega arith, omega arith),
  (
    (omega arith, omega arith),
    (
      (omega arith, omega arith),
      ((omega arith, omega arith), ((omega arith, omega arith), ((omega arith, omega arith), ((omega arith, omega arith), tt)))),
    ),
  ),
)

digits_print : (word : List ℕ) → AllByRecursion IsDigit word → AllByRecursion (IsBetween 33 126) word
digits_print [] all = tt
digits_print (b ∷ word) all = ((let low = all.0.0 in omega arith, let high = all.0.1 in omega arith), digits_print word all.1)

list_name_of : (name : List ℕ) → 1 ≤ length name → length name ≤ 63 → AllByRecursion (IsBetween 33 126) name → IsListName name
unfolding is_list_name
list_name_of name some short bytes = record
    { long = both (nat_le 1 (length name)) (nat_le (length name) 63) (le-leb 1 (length name) some) (le-leb (length name) 63 short); bytes = bytes }

decimal_prints : (n : ℕ) → n < 10 ^ 14 → AllByRecursion (IsBetween 33 126) (decimal n)
decimal_prints n small = digits_print (decimal n) (decimal_is n (wide n small)).digits

pub map_name_is : (k : ℕ) → k < 10 ^ 14 → IsListName (map_name k)
map_name_is k small =
    let count = length-append (codes "POLICY-") (decimal k) in
    let few = decimal_short k small in
    list_name_of (map_name k) (omega arith) (omega arith) (all_append (IsBetween 33 126) (codes "POLICY-") (decimal k) policy_bytes (decimal_prints k small))

-- how long a list's name is
pub list_name_length : (k s : ℕ) (end : List ℕ) → length (list_name k s end) ≡ 9 + length (decimal k) + length (decimal s) + length end
list_name_length k s end =
    let first = length-append (map_name k) (45 ∷ (decimal s ++ (45 ∷ end))) in
    let second = length-append (codes "POLICY-") (decimal k) in
    let third = length-append (decimal s) (45 ∷ end) in
    omega arith

pub list_name_is : (k s : ℕ) (end : List ℕ) → k < 10 ^ 14 → s < 10 ^ 14 → length end ≤ 20 → AllByRecursion (IsBetween 33 126) end →
    IsListName (list_name k s end)
list_name_is k s end small few short prints =
    let count = list_name_length k s end in
    let first = decimal_short k small in
    let second = decimal_short s few in
    list_name_of (list_name k s end) (omega arith) (omega arith)
    (all_append (IsBetween 33 126) (map_name k) (45 ∷ (decimal s ++ (45 ∷ end)))
    (all_append (IsBetween 33 126) (codes "POLICY-") (decimal k) policy_bytes (decimal_prints k small))
    ((omega arith, omega arith), all_append (IsBetween 33 126) (decimal s) (45 ∷ end) (decimal_prints s few) ((omega arith, omega arith), prints)))

pub match_name_is : (k s i : ℕ) → k < 10 ^ 14 → s < 10 ^ 14 → i < 10 ^ 14 → IsListName (match_name k s i)
match_name_is k s i small few less = let short = decimal_short i less in list_name_is k s (decimal i) small few (omega arith) (decimal_prints i less)

pub deletion_name_is : (k s : ℕ) → k < 10 ^ 14 → s < 10 ^ 14 → IsListName (deletion_name k s)
deletion_name_is k s small few = list_name_is k s (codes "D") small few (omega arith) ((omega arith, omega arith), tt)

pub maps_apart : (k m : ℕ) → k < 10 ^ 14 → m < 10 ^ 14 → k ≢ m → bytes_eq (map_name k) (map_name m) ≡ false
maps_apart k m small few other = numbers_apart (codes "POLICY-") k m small few other

-- ---- what a list's name names

abbrev IsNoDash : ℕ → Type 0
IsNoDash b = b ≢ 45

no_dashes : (word : List ℕ) → AllByRecursion IsDigit word → AllByRecursion IsNoDash word
no_dashes [] all = tt
no_dashes (b ∷ word) all = (λ same. (let low = all.0.0 in omega arith), no_dashes word all.1)

no_dash : (n : ℕ) → n < 10 ^ 14 → AllByRecursion IsNoDash (decimal n)
no_dash n small = no_dashes (decimal n) (decimal_is n (wide n small)).digits

-- the parts before and behind the first dash
split : (a b x y : List ℕ) → AllByRecursion IsNoDash a → AllByRecursion IsNoDash b → a ++ 45 ∷ x ≡ b ++ 45 ∷ y → (a ≡ b) × (x ≡ y)
split [] [] x y na nb e = (refl, cc)
split [] (c ∷ b) x y na nb e = absurd (nb.0 (let f : 45 ≡ c = cc in sym f))
split (c ∷ a) [] x y na nb e = absurd (na.0 (let f : c ≡ 45 = cc in f))
split (c ∷ a) (d ∷ b) x y na nb e =
    let head : c ≡ d = cc in
    let tail : a ++ 45 ∷ x ≡ b ++ 45 ∷ y = cc in
    let r = split a b x y na.1 nb.1 tail in
    ((λ i. head i ∷ r.0 i), r.1)

pub one_list : (k s m t : ℕ) (x y : List ℕ) → k < 10 ^ 14 → s < 10 ^ 14 → m < 10 ^ 14 → t < 10 ^ 14 → list_name k s x ≡ list_name m t y →
    (k ≡ m) × (s ≡ t) × (x ≡ y)
one_list k s m t x y hk hs hm ht e =
    let policy : List ℕ = codes "POLICY-" in
    let f =
    cut_front policy (decimal k ++ (45 ∷ (decimal s ++ (45 ∷ x)))) (decimal m ++ (45 ∷ (decimal t ++ (45 ∷ y))))
    (sym (append_assoc policy (decimal k) (45 ∷ (decimal s ++ (45 ∷ x)))) ∙ e ∙ append_assoc policy (decimal m) (45 ∷ (decimal t ++ (45 ∷ y)))) in
    let one = split (decimal k) (decimal m) (decimal s ++ (45 ∷ x)) (decimal t ++ (45 ∷ y)) (no_dash k hk) (no_dash m hm) f in
    let two = split (decimal s) (decimal t) x y (no_dash s hs) (no_dash t ht) one.1 in
    (decimal_injective k m (wide k hk) (wide m hm) one.0, decimal_injective s t (wide s hs) (wide t ht) two.0, two.1)

-- a deletion list's name is that of no match list
pub no_letter : (i : ℕ) → i < 10 ^ 14 → decimal i ≡ codes "D" → ⊥
no_letter i small e = (let d = subst (λ (w : List ℕ). AllByRecursion IsDigit w) e (decimal_is i (wide i small)).digits in let high = d.0.1 in omega arith)

-- no list's name is the mark of an exact match
pub no_mark : (k s : ℕ) (end : List ℕ) → bytes_eq (list_name k s end) (codes "exact-match") ≡ false
no_mark k s end = refl
