-- Names and communities that a line names.
use Rattle.std.proofs.Common.{◌≡◌, ℕ, ◌+◌, ◌≤◌, Bool, true, false, ◌&&◌, ◌||◌, not, List, [], ◌∷◌, length, Option, Some, None, refl, arith}
use Rattle.std.specs.Prelude.{IfSome, IfOk, nat_lt, nat_le, ◌==◌, if◌then◌else◌, bytes_eq}
use Rattle.std.specs.Option.{is_some}
use Rattle.std.specs.List.{AllByRecursion, IsDistinct, list_all, list_any, filter_map}
use Rattle.std.proofs.lemmas.Bool.{and_parts, or_parts, not-true, leb-true, leb-false, eqb-false}
use Rattle.base_kit.specs.Sets.{with_number, with_numbers}
use Rattle.base_kit.proofs.SetFacts.{ascending_with_numbers}
use Rattle.cfg_ast.specs.text.FormSteps.{list_name_of}
use Rattle.cfg_ast.specs.text.Words.{is_list_name, community_word, is_community, is_well_known_name, is_some_reserved, is_well_known, same_community}
use Rattle.cfg_ast.specs.text.PolicyForms.{all_differ, is_group, list_names_of, community_words}
use Rattle.cfg_ast.specs.printing.WellFormed.{IsBetween, IsListName, IsCommunitySet}
use Rattle.given_laws.proofs.Given.{fits, either}
use Rattle.given_laws.proofs.Each.{all_weaker, all_both, all_pass, none_pass, all_filter_map, length-filter_map}
use Rattle.given_laws.proofs.RouterItems.{IsWord, AreWords}

pub a_list_name : (word : List ℕ) → IsWord word → IfOk (list_name_of word) IsListName
unfolding list_name_of
a_list_name word is = fits IsListName (is_list_name word) _ (λ long. record { long = long; bytes = is })

-- ---- groups of words

group_count : (words : List (List ℕ)) → is_group words ≡ true → IsBetween 1 32 (length words)
group_count words e =
    let both = and_parts (nat_le 1 (length words)) (nat_le (length words) 32) e in
    (leb-true 1 (length words) both.0, leb-true (length words) 32 both.1)

differing : (same : List ℕ → List ℕ → Bool) (words : List (List ℕ)) → all_differ same words ≡ true → IsDistinct same words
unfolding IsDistinct
differing same [] e = tt
differing same (word ∷ words) e =
    let both = and_parts (not (list_any (same word) words)) (all_differ same words) e in
    (none_pass (same word) words (not-true (list_any (same word) words) both.0), differing same words both.1)

-- the names are those words
abbrev pub AreNames : List (List ℕ) → List (List ℕ) → Type 0
AreNames words names = IsBetween 1 32 (length names) × AllByRecursion IsListName names × IsDistinct bytes_eq names × (names ≡ words)

pub a_name_list : (words : List (List ℕ)) → AreWords words → IfOk (list_names_of words) (AreNames words)
unfolding list_names_of
a_name_list words are =
    fits (AreNames words) (is_group words && list_all is_list_name words && all_differ bytes_eq words) _ (λ e.
    let two = and_parts (is_group words && list_all is_list_name words) (all_differ bytes_eq words) e in
    let one = and_parts (is_group words) (list_all is_list_name words) two.0 in
    let long : AllByRecursion (λ word. is_list_name word ≡ true) words = all_pass is_list_name words one.1 in (
      group_count words one.0,
      all_both (λ word. is_list_name word ≡ true) IsWord IsListName (λ word fit is. record { long = fit; bytes = is }) words long are,
      differing bytes_eq words two.1,
      refl,
    ))

-- ---- sets of numbers

all_with : (P : ℕ → Type 0) (n : ℕ) (xs : List ℕ) → P n → AllByRecursion P xs → AllByRecursion P (with_number n xs)
all_with P n [] is all = (is, tt)
all_with P n (x ∷ xs) is all = by (nat_lt n x) (n == x) (all_with P n xs is all.1)
  where
    by : (b c : Bool) → AllByRecursion P (with_number n xs) → AllByRecursion P (if b then n ∷ x ∷ xs else (if c then x ∷ xs else x ∷ with_number n xs))
    by true c rest = (is, all)
    by false true rest = all
    by false false rest = (all.0, rest)

all_with_numbers : (P : ℕ → Type 0) (more xs : List ℕ) → AllByRecursion P more → AllByRecursion P xs → AllByRecursion P (with_numbers more xs)
all_with_numbers P [] xs are all = all
all_with_numbers P (n ∷ more) xs are all = all_with_numbers P more (with_number n xs) are.1 (all_with P n xs are.0 all)

-- where a number stands before, at or behind the first one
abbrev placed : ℕ → ℕ → List ℕ → Bool → Bool → List ℕ
placed n x xs b c = if b then n ∷ x ∷ xs else (if c then x ∷ xs else x ∷ with_number n xs)

-- one number more, or none
length_with : (n : ℕ) (xs : List ℕ) → (length xs ≤ length (with_number n xs)) × (length (with_number n xs) ≤ length xs + 1)
length_with n [] = (omega arith, omega arith)
length_with n (x ∷ xs) = by (nat_lt n x) (n == x) (length_with n xs)
  where
    by : (b c : Bool) → (length xs ≤ length (with_number n xs)) × (length (with_number n xs) ≤ length xs + 1) → (length (x ∷ xs) ≤ length (placed n x xs b c))
        × (length (placed n x xs b c) ≤ length (x ∷ xs) + 1)
    by true c rest = (omega arith, omega arith)
    by false true rest = (omega arith, omega arith)
    by false false rest = let low = rest.0 in let high = rest.1 in (omega arith, omega arith)

length_with_numbers : (more xs : List ℕ) → (length xs ≤ length (with_numbers more xs)) × (length (with_numbers more xs) ≤ length more + length xs)
length_with_numbers [] xs = (omega arith, omega arith)
length_with_numbers (n ∷ more) xs =
    let rest = length_with_numbers more (with_number n xs) in
    let here = length_with n xs in
    (omega (arith, rest.0, here.0), omega (arith, rest.1, here.1))

count_of_set : (ns : List ℕ) → 1 ≤ length ns → length ns ≤ 32 → IsBetween 1 32 (length (with_numbers ns []))
count_of_set [] some few = absurd (omega arith)
count_of_set (n ∷ ns) some few = let rest = length_with_numbers ns (n ∷ []) in (omega (arith, rest.0), omega (arith, rest.1))

-- ---- communities

abbrev IsPlainValue : Option ℕ → Type 0
IsPlainValue o = (is_some o ≡ true) × IfSome o (IsBetween 1 4294901759)

value_case : (named : Bool) (o : Option ℕ) → (named || is_some o) ≡ true → (named || is_some_reserved o) ≡ false → IsPlainValue o
value_case true o is plain = absurd cc
value_case false None is plain = absurd cc
value_case false (Some c) is plain =
    let both = or_parts (c == 0) (nat_le 4294901760 c) plain in
    let other = eqb-false c 0 both.0 in
    let low = leb-false 4294901760 c both.1 in
    (refl, (omega arith, omega arith))

plain_value : (word : List ℕ) → is_community word ≡ true → is_well_known word ≡ false → IsPlainValue (community_word word)
unfolding is_community is_well_known
plain_value word is plain = value_case (is_well_known_name word) (community_word word) is plain

set_case : (words : List (List ℕ)) → IsBetween 1 32 (length words) → AllByRecursion (λ word. IsPlainValue (community_word word)) words →
    IsCommunitySet (with_numbers (filter_map community_word words) [])
set_case words count plain =
    let values = filter_map community_word words in
    let some : AllByRecursion (λ word. is_some (community_word word) ≡ true) words =
    all_weaker (λ word. IsPlainValue (community_word word)) (λ word. is_some (community_word word) ≡ true) (λ word is. is.0) words plain in
    let ranges : AllByRecursion (λ word. IfSome (community_word word) (IsBetween 1 4294901759)) words =
    all_weaker (λ word. IsPlainValue (community_word word)) (λ word. IfSome (community_word word) (IsBetween 1 4294901759)) (λ word is. is.1) words plain in
    let same = length-filter_map community_word words some in
    record {
      count = count_of_set values (omega (arith, same, count.0)) (omega (arith, same, count.1));
      each = all_with_numbers (IsBetween 1 4294901759) values [] (all_filter_map (IsBetween 1 4294901759) community_word words ranges) tt;
      ascending = ascending_with_numbers values [] tt;
    }

pub a_community_set : (words : List (List ℕ)) → IfOk (community_words words) IsCommunitySet
unfolding community_words
a_community_set words =
    fits IsCommunitySet (is_group words && list_all is_community words && all_differ same_community words) _ (λ e.
    let two = and_parts (is_group words && list_all is_community words) (all_differ same_community words) e in
    let one = and_parts (is_group words) (list_all is_community words) two.0 in
    either IsCommunitySet (list_any is_well_known words) _ _ (λ known. tt) (λ none.
    let are : AllByRecursion (λ word. is_community word ≡ true) words = all_pass is_community words one.1 in
    let plain : AllByRecursion (λ word. is_well_known word ≡ false) words = none_pass is_well_known words none in
    set_case words (group_count words one.0)
    (all_both (λ word. is_community word ≡ true) (λ word. is_well_known word ≡ false) (λ word. IsPlainValue (community_word word)) plain_value words are
    plain)))
