-- What a printed line of a list or a route map says.
use Rattle.std.proofs.Common.{◌≡◌, ℕ, suc, ◌-◌, ◌/◌, ◌%◌, ◌<◌, ◌≤◌, Bool, true, false, ◌&&◌, ◌||◌, not, List, [], ◌∷◌, ◌++◌, length, map, take, get_or, Option, Some, None, Result, Ok, refl, sym, ap, ◌∙◌, arith, inl, inr}
use Rattle.std.specs.Prelude.{codes, bytes_eq, nat_le, ◌==◌, if◌then◌else◌}
use Rattle.std.specs.Fmt.{decimal}
use Rattle.std.specs.Option.{is_some, option_and_then}
use Rattle.std.specs.List.{AllByRecursion, IsDistinct, list_all, list_any, filter_map}
use Rattle.std.proofs.lemmas.Bool.{le-leb, lt-leb, leb-true, ne_eqb, and_parts, and_from, or_from, cases_Bool, not_from_false}
use Rattle.std.proofs.lemmas.List.{length-map, append-nil}
use Rattle.std.proofs.lemmas.Slice.Eq.{bytes_eq-Decides}
use Rattle.std.proofs.Math.Seq.{take-append_seam}
use Rattle.base_kit.specs.Numbers.{is_numeral, is_digit, value_from}
use Rattle.base_kit.specs.Sets.{has, with_numbers, AllAbove, IsAscending}
use Rattle.base_kit.proofs.SetFacts.{has-with_numbers, ascending_with_numbers, one_list}
use Rattle.cfg_ast.specs.declared.network.Named.{Named}
use Rattle.cfg_ast.specs.declared.policy.PrefixEntry.{PrefixEntry}
use Rattle.cfg_ast.specs.declared.policy.CommunityLine.{CommunityLine}
use Rattle.cfg_ast.specs.declared.policy.NameLine.{NameLine}
use Rattle.cfg_ast.specs.declared.policy.Prepend.{Prepend}
use Rattle.cfg_ast.specs.declared.policy.Change.{Change}
use Rattle.cfg_ast.specs.declared.policy.Change.TheVariants.{Clear, Replace, Append}
use Rattle.cfg_ast.specs.declared.policy.MapEntry.{MapEntry}
use Rattle.cfg_ast.specs.declared.heads.HeadClass.{HeadClass}
use Rattle.cfg_ast.specs.declared.heads.PolicyForm.{PolicyForm}
use Rattle.cfg_ast.specs.declared.heads.PolicyForm.TheVariants as form
use Rattle.cfg_ast.specs.declared.items.PolicyScope.{PolicyScope}
use Rattle.cfg_ast.specs.declared.items.PolicyScope.TheVariants as scope
use Rattle.cfg_ast.specs.declared.items.PolicyItem.{PolicyItem}
use Rattle.cfg_ast.specs.declared.items.PolicyItem.TheVariants as item
use Rattle.cfg_ast.specs.declared.refusal.FormFault.{FormFault}
use Rattle.cfg_ast.specs.text.Words.{is_list_name, number_word, number_between, if_between, as_number_word, community_word, is_community, is_well_known_name, is_well_known, same_community}
use Rattle.cfg_ast.specs.text.FormSteps.{list_name_of}
use Rattle.cfg_ast.specs.text.PolicyForms.{is_permit, all_differ, is_group, list_names_of, community_words, has_mark, but_last, bounds_of, community_line, empty_entry, comms_match, is_none_alone, change_of, is_as_number, policy_form, policy_item_by, policy_item_of}
use Rattle.cfg_ast.specs.printing.Printed.{act_text, prefix_text, community_text, bound_words, prefix_entry_line, community_list_line as printed_community_line, map_head_line, match_prefixes_line, match_comms_line, lp_line, change_line, delete_line, prepend_line}
use Rattle.cfg_ast.specs.printing.Bare.{bare_named, bare_prefix_entry, bare_community_line, bare_name_line, bare_prepend}
use Rattle.cfg_ast.specs.printing.WellFormed.{IsBetween, IsNumber, IsListName, IsCommunitySet, IsWellFormedNamed, AreBounds, IsWellFormedPrefixEntry, IsWellFormedNameLine, IsMarkRight, IsWellFormedChange, IsWellFormedPrepend}
use Rattle.given_laws.proofs.Each.{all_weaker}
use Rattle.cfg_round_trip.proofs.WordsBack.{IsDigit, decimal_digits, number_back, between_back, as_number_back, prefix_back, community_back}
use Rattle.cfg_round_trip.proofs.HeadsBack.{IsPolicyHeadOf, prefix_list_head, standard_head, numbered_head, map_head, match_prefixes_head, match_comms_head, lp_head, comms_head, delete_head, prepend_head}
use Rattle.cfg_round_trip.proofs.ItemsBack.{named_back}

of_head : (s : PolicyScope) (f : PolicyForm) (words : List (List ℕ)) (r : Result PolicyItem FormFault) → IsPolicyHeadOf s f words → policy_form f 0 words ≡ r →
    policy_item_of s 0 words ≡ r
unfolding policy_item_by
of_head s f words r head said = ap (λ (o : Option HeadClass). policy_item_by o 0 words) head ∙ said

-- ---- parts of lines

permit_back : (permit : Bool) → is_permit (act_text permit) ≡ Some permit
unfolding is_permit
permit_back true = refl
permit_back false = refl

list_name_back : (name : List ℕ) → IsListName name → list_name_of name ≡ Ok name
unfolding list_name_of
list_name_back name is = rw is.long refl

group_back : (words : List (List ℕ)) → IsBetween 1 32 (length words) → is_group words ≡ true
group_back words range = and_from (nat_le 1 (length words)) (nat_le (length words) 32) (le-leb 1 (length words) range.0) (le-leb (length words) 32 range.1)

pass_all : {X : Type 0} (test : X → Bool) (xs : List X) → AllByRecursion (λ (x : X). test x ≡ true) xs → list_all test xs ≡ true
pass_all test [] all = refl
pass_all test (x ∷ xs) all = and_from (test x) (list_all test xs) all.0 (pass_all test xs all.1)

pass_none : {X : Type 0} (test : X → Bool) (xs : List X) → AllByRecursion (λ (x : X). test x ≡ false) xs → list_any test xs ≡ false
pass_none test [] all = refl
pass_none test (x ∷ xs) all = or_from (test x) (list_any test xs) all.0 (pass_none test xs all.1)

differ_back : (same : List ℕ → List ℕ → Bool) (words : List (List ℕ)) → IsDistinct same words → all_differ same words ≡ true
unfolding IsDistinct
differ_back same [] all = refl
differ_back same (word ∷ words) all =
    and_from (not (list_any (same word) words)) (all_differ same words) (not_from_false (list_any (same word) words) (pass_none (same word) words all.0))
    (differ_back same words all.1)

names_back : (l : NameLine) → IsWellFormedNameLine l → list_names_of l.names ≡ Ok l.names
unfolding list_names_of
names_back l is =
    rw (
      group_back l.names is.count,
      pass_all is_list_name l.names (all_weaker IsListName (λ name. is_list_name name ≡ true) (λ name named. named.long) l.names is.each),
      differ_back bytes_eq l.names is.once,
    ) refl

-- ---- communities

abbrev texts : List ℕ → List (List ℕ)
texts comms = map community_text comms

abbrev IsCommunity : ℕ → Type 0
IsCommunity c = IsBetween 1 4294901759 c

all_texts : (P : List ℕ → Type 0) (comms : List ℕ) → ((c : ℕ) → IsCommunity c → P (community_text c)) → AllByRecursion IsCommunity comms →
    AllByRecursion P (texts comms)
all_texts P [] each all = tt
all_texts P (c ∷ comms) each all = (each c all.0, all_texts P comms each all.1)

text_is_community : (c : ℕ) → IsCommunity c → is_community (community_text c) ≡ true
unfolding is_community
text_is_community c is = rw (community_back c is) (or_true (is_well_known_name (community_text c)))
  where
    or_true : (b : Bool) → (b || true) ≡ true
    or_true true = refl
    or_true false = refl

-- a text begins with a digit
first_of_text : (c : ℕ) → IsCommunity c → get_or (community_text c) 0 0 ≤ 57
unfolding community_text
first_of_text c is = first (decimal (c / 65536)) (58 ∷ decimal (c % 65536)) (decimal_digits (c / 65536) (let high = is.1 in omega arith)).some
    (decimal_digits (c / 65536) (let high = is.1 in omega arith)).digits
  where
    first : (xs ys : List ℕ) → 1 ≤ length xs → AllByRecursion IsDigit xs → get_or (xs ++ ys) 0 0 ≤ 57
    first [] ys some all = absurd (omega arith)
    first (x ∷ xs) ys some all = all.0.1

-- words differ where one begins with a digit, the other with a letter
pub other_word : (word name : List ℕ) → get_or word 0 0 ≤ 57 → 57 < get_or name 0 0 → bytes_eq word name ≡ false
other_word word name digit letter = elim (cases_Bool (bytes_eq word name)) [
  | inl same ↦ let e : get_or word 0 0 ≡ get_or name 0 0 = ap (λ (w : List ℕ). get_or w 0 0) ((bytes_eq-Decides word name).0 same) in absurd (omega arith)
  | inr other ↦ other
]

no_name : (word : List ℕ) → get_or word 0 0 ≤ 57 → is_well_known_name word ≡ false
unfolding is_well_known_name
no_name word digit =
    rw (
      other_word word (codes "internet") digit (omega arith),
      other_word word (codes "no-export") digit (omega arith),
      other_word word (codes "no-advertise") digit (omega arith),
      other_word word (codes "local-AS") digit (omega arith),
      other_word word (codes "gshut") digit (omega arith),
    ) refl

text_is_plain : (c : ℕ) → IsCommunity c → is_well_known (community_text c) ≡ false
unfolding is_well_known
text_is_plain c is = rw (
  no_name (community_text c) (first_of_text c is),
  community_back c is,
  ne_eqb c 0 (λ e. let low = is.0 in omega arith),
  lt-leb 4294901760 c (let high = is.1 in omega arith),
) refl

texts_differ : (c d : ℕ) → IsCommunity c → IsCommunity d → c < d → same_community (community_text c) (community_text d) ≡ false
unfolding same_community
texts_differ c d is other less = or_from (bytes_eq (community_text c) (community_text d)) _ apart
    (rw (community_back c is, community_back d other) (ne_eqb c d (λ e. omega arith)))
  where
    apart : bytes_eq (community_text c) (community_text d) ≡ false
    apart = elim (cases_Bool (bytes_eq (community_text c) (community_text d))) [
      | inl same ↦
          let e : ◌≡◌ {A = Option ℕ} (Some c) (Some d) = sym (community_back c is)
          ∙ ap community_word ((bytes_eq-Decides (community_text c) (community_text d)).0 same) ∙ community_back d other in
          let f : c ≡ d = cc in
          absurd (omega arith)
      | inr differ ↦ differ
    ]

above_differ : (c : ℕ) (comms : List ℕ) → IsCommunity c → AllByRecursion IsCommunity comms → AllAbove c comms →
    AllByRecursion (λ word. same_community (community_text c) word ≡ false) (texts comms)
above_differ c [] is all above = tt
above_differ c (d ∷ comms) is all above = (texts_differ c d is all.0 above.0, above_differ c comms is all.1 above.1)

all_texts_differ : (comms : List ℕ) → AllByRecursion IsCommunity comms → IsAscending comms → all_differ same_community (texts comms) ≡ true
all_texts_differ [] all up = refl
all_texts_differ (c ∷ comms) all up =
    and_from (not (list_any (same_community (community_text c)) (texts comms))) (all_differ same_community (texts comms))
    (not_from_false (list_any (same_community (community_text c)) (texts comms))
    (pass_none (same_community (community_text c)) (texts comms) (above_differ c comms all.0 all.1 up.0)))
    (all_texts_differ comms all.1 up.1)

values_back : (comms : List ℕ) → AllByRecursion IsCommunity comms → filter_map community_word (texts comms) ≡ comms
values_back [] all = refl
values_back (c ∷ comms) all = rw (community_back c all.0, values_back comms all.1) refl

set_back : (comms : List ℕ) → IsAscending comms → with_numbers comms [] ≡ comms
set_back comms up = one_list (with_numbers comms []) comms (ascending_with_numbers comms [] tt) up (λ c. has-with_numbers comms [] c ∙ or_false (has comms c))
  where
    or_false : (b : Bool) → (b || false) ≡ b
    or_false true = refl
    or_false false = refl

pub communities_back : (comms : List ℕ) → IsCommunitySet comms → community_words (texts comms) ≡ Ok comms
unfolding community_words
communities_back comms is =
    rw (
      group_back (texts comms) (rw (length-map comms community_text) is.count),
      pass_all is_community (texts comms) (all_texts (λ word. is_community word ≡ true) comms text_is_community is.each),
      all_texts_differ comms is.each is.ascending,
      pass_none is_well_known (texts comms) (all_texts (λ word. is_well_known word ≡ false) comms text_is_plain is.each),
      values_back comms is.each,
      set_back comms is.ascending,
    ) refl

-- ---- lists

bounds_back : (len : ℕ) (ge le : Option ℕ) → AreBounds len ge le → bounds_of len (bound_words (codes "ge") ge ++ bound_words (codes "le") le) ≡ Ok (ge, le)
unfolding bounds_of bound_words
bounds_back len None None is = refl
bounds_back len (Some ge) None is = rw (between_back len 32 ge (let high = is.1 in omega arith) is) refl
bounds_back len None (Some le) is = rw (between_back len 32 le (let high = is.1 in omega arith) is) refl
bounds_back len (Some ge) (Some le) is =
    rw (between_back len 32 ge (let high = is.0.1 in omega arith) is.0, between_back ge 32 le (let high = is.1.1 in omega arith) is.1) refl

pub prefix_entry_item : (name : List ℕ) (e : PrefixEntry) → IsListName name → IsWellFormedPrefixEntry e →
    policy_item_of scope.Top 0 (prefix_entry_line name e).words ≡ Ok (item.PrefixEntry name (bare_prefix_entry e))
unfolding prefix_entry_line policy_form
prefix_entry_item name e named is =
    of_head scope.Top form.PrefixEntry _ _ (prefix_list_head name
    (decimal e.seq ∷ act_text e.permit ∷ prefix_text e.prefix ∷ bound_words (codes "ge") e.ge ++ bound_words (codes "le") e.le))
    (rw (
      between_back 1 4294967295 e.seq is.seq.1 is.seq,
      permit_back e.permit,
      prefix_back e.prefix is.prefix,
      bounds_back e.prefix.len e.ge e.le is.bounds,
      list_name_back name named,
    ) refl)

community_line_back : (name : List ℕ) (c : CommunityLine) → IsListName name → IsCommunitySet c.comms →
    community_line 0 name (act_text c.permit) (texts c.comms) ≡ Ok (item.CommunityLine name (bare_community_line c))
unfolding community_line
community_line_back name c named is = rw (permit_back c.permit, list_name_back name named, communities_back c.comms is) refl

-- a word that is a number from 1 to 99
digit_first : (word : List ℕ) → is_numeral word ≡ true → get_or word 0 0 ≤ 57
digit_first [] e = omega arith
digit_first (b ∷ []) e = leb-true b 57 (and_parts (nat_le 48 b) (nat_le b 57) e).1
digit_first (b ∷ c ∷ word) e =
    let digits = (and_parts (not (b == 48)) (is_digit b && (is_digit c && list_all is_digit word)) e).1 in
    leb-true b 57 (and_parts (nat_le 48 b) (nat_le b 57) (and_parts (is_digit b) (is_digit c && list_all is_digit word) digits).0).1

numeral_if : (numeral : Bool) (small : Bool) (v : ℕ) (low high : ℕ) →
    is_some (option_and_then (if_between low high) (if numeral && small then Some v else None)) ≡ true → numeral ≡ true
numeral_if true small v low high e = refl
numeral_if false small v low high e = absurd cc

number_first : (word : List ℕ) → is_some (number_between 1 99 word) ≡ true → get_or word 0 0 ≤ 57
unfolding number_between number_word
number_first word e = digit_first word (numeral_if (is_numeral word) (nat_le (value_from 0 word) 4294967295) (value_from 0 word) 1 99 e)

no_large : (n : ℕ) (a b : Bool) → nat_le 1 n ≡ a → nat_le n 99 ≡ b → is_some (if a && b then Some n else None) ≡ true → is_some (if_between 100 500 n) ≡ false
no_large n true true low high e = rw (lt-leb 100 n (let h = leb-true n 99 high in omega arith)) refl
no_large n true false low high e = absurd cc
no_large n false b low high e = absurd cc

not_large : (o : Option ℕ) → is_some (option_and_then (if_between 1 99) o) ≡ true → is_some (option_and_then (if_between 100 500) o) ≡ false
not_large None e = refl
not_large (Some n) e = no_large n (nat_le 1 n) (nat_le n 99) refl refl e

small_number : (word : List ℕ) → is_some (number_between 1 99 word) ≡ true → is_some (number_between 100 500 word) ≡ false
unfolding number_between
small_number word e = not_large (number_word word) e

-- words of which the first is no letter are not this one
other_swap : (word name : List ℕ) → get_or word 0 0 ≤ 57 → 57 < get_or name 0 0 → bytes_eq name word ≡ false
other_swap word name digit letter = elim (cases_Bool (bytes_eq name word)) [
  | inl same ↦ let e : get_or name 0 0 ≡ get_or word 0 0 = ap (λ (w : List ℕ). get_or w 0 0) ((bytes_eq-Decides name word).0 same) in absurd (omega arith)
  | inr other ↦ other
]

numbered_item : (name : List ℕ) (c : CommunityLine) → IsListName name → IsCommunitySet c.comms → is_some (number_between 1 99 name) ≡ true →
    (d : ℕ) (comms : List ℕ) → c.comms ≡ d ∷ comms
    → policy_item_of scope.Top 0 (codes "ip" ∷ codes "community-list" ∷ name ∷ act_text c.permit ∷ texts c.comms)
    ≡ Ok (item.CommunityLine name (bare_community_line c))
unfolding policy_form
numbered_item name c named is number d comms some =
    let first = number_first name number in
    of_head scope.Top form.CommunityLine _ _ (numbered_head name (act_text c.permit ∷ texts c.comms) (other_swap name (codes "expanded") first (omega arith))
    (small_number name number))
    (ap (λ (cs : List ℕ). policy_form form.CommunityLine 0 (codes "ip" ∷ codes "community-list" ∷ name ∷ act_text c.permit ∷ texts cs)) some
    ∙ rw (other_word name (codes "standard") first (omega arith), number)
    (ap (λ (cs : List ℕ). community_line 0 name (act_text c.permit) (texts cs)) (sym some) ∙ community_line_back name c named is))

standard_item : (name : List ℕ) (c : CommunityLine) → IsListName name → IsCommunitySet c.comms
    → policy_item_of scope.Top 0 (codes "ip" ∷ codes "community-list" ∷ codes "standard" ∷ name ∷ act_text c.permit ∷ texts c.comms)
    ≡ Ok (item.CommunityLine name (bare_community_line c))
unfolding policy_form
standard_item name c named is = of_head scope.Top form.CommunityLine _ _ (standard_head (name ∷ act_text c.permit ∷ texts c.comms))
    (community_line_back name c named is)

some_community : (name : List ℕ) (c : CommunityLine) → IsListName name → IsCommunitySet c.comms → is_some (number_between 1 99 name) ≡ true → (comms : List ℕ) →
    c.comms ≡ comms
    → policy_item_of scope.Top 0 (codes "ip" ∷ codes "community-list" ∷ name ∷ act_text c.permit ∷ texts c.comms)
    ≡ Ok (item.CommunityLine name (bare_community_line c))
some_community name c named is number [] none = let low = is.count.0 in absurd (omega (arith, ap (λ (cs : List ℕ). length cs) none))
some_community name c named is number (d ∷ comms) some = numbered_item name c named is number d comms some

pub community_item : (name : List ℕ) (c : CommunityLine) → IsListName name → IsCommunitySet c.comms →
    policy_item_of scope.Top 0 (printed_community_line name c).words ≡ Ok (item.CommunityLine name (bare_community_line c))
unfolding printed_community_line
community_item name c named is = by (is_some (number_between 1 99 name)) refl
  where
    by : (b : Bool) → is_some (number_between 1 99 name) ≡ b
        → policy_item_of scope.Top 0 (codes "ip" ∷ codes "community-list" ∷ (if b then name ∷ [] else codes "standard" ∷ name ∷ []) ++ act_text c.permit
        ∷ texts c.comms) ≡ Ok (item.CommunityLine name (bare_community_line c))
    by true number = some_community name c named is number c.comms refl
    by false other = standard_item name c named is

-- ---- route maps

pub map_head_item : (name : List ℕ) (e : MapEntry) → IsListName name → e.seq ≤ 65535 →
    policy_item_of scope.Top 0 (map_head_line name e).words ≡ Ok (item.MapHead name (empty_entry e.seq e.permit 0))
unfolding map_head_line policy_form
map_head_item name e named short =
    of_head scope.Top form.MapHead _ _ (map_head (name ∷ act_text e.permit ∷ decimal e.seq ∷ []))
    (rw (permit_back e.permit, between_back 0 65535 e.seq (omega arith) (omega arith, short), list_name_back name named) refl)

pub match_prefixes_item : (l : NameLine) → IsWellFormedNameLine l →
    policy_item_of scope.Entry 0 (match_prefixes_line l).words ≡ Ok (item.MatchPrefixes (bare_name_line l))
unfolding match_prefixes_line policy_form
match_prefixes_item l is = of_head scope.Entry form.MatchPrefixes _ _ (match_prefixes_head l.names) (rw (names_back l is) refl)

marked_back : (mark : List ℕ) (words : List (List ℕ)) → has_mark mark (words ++ mark ∷ []) ≡ true
marked_back mark [] = (bytes_eq-Decides mark mark).1 refl
marked_back mark (word ∷ []) = (bytes_eq-Decides mark mark).1 refl
marked_back mark (word ∷ next ∷ words) = marked_back mark (next ∷ words)

length_push : (words : List (List ℕ)) (word : List ℕ) → length (words ++ word ∷ []) ≡ suc (length words)
length_push [] word = refl
length_push (w ∷ words) word = ap (λ n. suc n) (length_push words word)

but_last_back : (words : List (List ℕ)) (word : List ℕ) → but_last (words ++ word ∷ []) ≡ words
but_last_back words word =
    let n : length (words ++ word ∷ []) - 1 ≡ length words = omega (arith, length_push words word) in
    ap (λ k. take k (words ++ word ∷ [])) n ∙ take-append_seam words (word ∷ [])

comms_match_back : (exact : Bool) (l : NameLine) → IsWellFormedNameLine l → comms_match 0 exact l.names ≡ Ok (item.MatchComms (bare_name_line l) exact)
unfolding comms_match
comms_match_back exact l is = rw (names_back l is) refl

match_comms_back : (exact : Bool) (l : NameLine) → IsWellFormedNameLine l → IsMarkRight (Some l) exact
    → policy_form form.MatchComms 0 (codes "match" ∷ codes "community" ∷ l.names ++ (if exact then codes "exact-match" ∷ [] else []))
    ≡ Ok (item.MatchComms (bare_name_line l) exact)
unfolding policy_form
match_comms_back true l is right = rw (marked_back (codes "exact-match") l.names, but_last_back l.names (codes "exact-match")) (comms_match_back true l is)
match_comms_back false l is right = ap (λ (ws : List (List ℕ)). policy_form form.MatchComms 0 (codes "match" ∷ codes "community" ∷ ws)) (append-nil l.names)
    ∙ rw right (comms_match_back false l is)

pub match_comms_item : (exact : Bool) (l : NameLine) → IsWellFormedNameLine l → IsMarkRight (Some l) exact →
    policy_item_of scope.Entry 0 (match_comms_line exact l).words ≡ Ok (item.MatchComms (bare_name_line l) exact)
unfolding match_comms_line
match_comms_item exact l is right = of_head scope.Entry form.MatchComms _ _ (match_comms_head (l.names ++ (if exact then codes "exact-match" ∷ [] else [])))
    (match_comms_back exact l is right)

pub lp_item : (n : ℕ) → IsNumber n → policy_item_of scope.Entry 0 (lp_line n).words ≡ Ok (item.Lp n)
unfolding lp_line policy_form
lp_item n is = of_head scope.Entry form.Lp _ _ (lp_head (decimal n ∷ [])) (rw (number_back n is) refl)

no_none : (comms : List ℕ) → AllByRecursion IsCommunity comms → is_none_alone (texts comms) ≡ false
unfolding is_none_alone
no_none [] all = refl
no_none (c ∷ []) all = other_word (community_text c) (codes "none") (first_of_text c all.0) (omega arith)
no_none (c ∷ d ∷ comms) all = refl

no_mark : (comms : List ℕ) → AllByRecursion IsCommunity comms → has_mark (codes "additive") (texts comms) ≡ false
no_mark [] all = refl
no_mark (c ∷ []) all = other_word (community_text c) (codes "additive") (first_of_text c all.0) (omega arith)
no_mark (c ∷ d ∷ comms) all = no_mark (d ∷ comms) all.1

no_none_marked : (comms : List ℕ) → 1 ≤ length comms → is_none_alone (texts comms ++ codes "additive" ∷ []) ≡ false
unfolding is_none_alone
no_none_marked [] some = absurd (omega arith)
no_none_marked (c ∷ []) some = refl
no_none_marked (c ∷ d ∷ comms) some = refl

replace_back : (comms : List ℕ) → IsCommunitySet comms → change_of (texts comms) ≡ Ok (Replace comms)
unfolding change_of
replace_back comms is = rw (no_none comms is.each, no_mark comms is.each, communities_back comms is) refl

append_back : (comms : List ℕ) → IsCommunitySet comms → change_of (texts comms ++ codes "additive" ∷ []) ≡ Ok (Append comms)
unfolding change_of
append_back comms is = rw (
  no_none_marked comms is.count.0,
  marked_back (codes "additive") (texts comms),
  but_last_back (texts comms) (codes "additive"),
  communities_back comms is,
) refl

pub change_item : (change : Change) → IsWellFormedChange change → policy_item_of scope.Entry 0 (change_line change).words ≡ Ok (item.Comms change)
unfolding change_line policy_form change_of is_none_alone
change_item Clear is = of_head scope.Entry form.Comms _ _ (comms_head (codes "none" ∷ [])) refl
change_item (Replace comms) is = of_head scope.Entry form.Comms _ _ (comms_head (texts comms)) (rw (replace_back comms is) refl)
change_item (Append comms) is = of_head scope.Entry form.Comms _ _ (comms_head (texts comms ++ codes "additive" ∷ [])) (rw (append_back comms is) refl)

pub delete_item : (list : Named) → IsWellFormedNamed list → policy_item_of scope.Entry 0 (delete_line list).words ≡ Ok (item.Delete (bare_named list))
unfolding delete_line policy_form
delete_item list is = of_head scope.Entry form.Delete _ _ (delete_head (list.name ∷ codes "delete" ∷ [])) (rw (named_back list is) refl)

abbrev IsAsNumber : ℕ → Type 0
IsAsNumber n = IsBetween 1 4294967295 n

as_numbers_pass : (ns : List ℕ) → AllByRecursion IsAsNumber ns → list_all is_as_number (map decimal ns) ≡ true
as_numbers_pass [] all = refl
as_numbers_pass (n ∷ ns) all = rw (as_number_back n all.0, as_numbers_pass ns all.1) refl

as_numbers_back : (ns : List ℕ) → AllByRecursion IsAsNumber ns → filter_map as_number_word (map decimal ns) ≡ ns
as_numbers_back [] all = refl
as_numbers_back (n ∷ ns) all = rw (as_number_back n all.0, as_numbers_back ns all.1) refl

pub prepend_item : (p : Prepend) → IsWellFormedPrepend p → policy_item_of scope.Entry 0 (prepend_line p).words ≡ Ok (item.Prepend (bare_prepend p))
unfolding prepend_line policy_form
prepend_item p is =
    let count : IsBetween 1 10 (length (map decimal p.numbers)) = rw (length-map p.numbers decimal) is.count in
    of_head scope.Entry form.Prepend _ _ (prepend_head (map decimal p.numbers))
    (rw (
      le-leb 1 (length (map decimal p.numbers)) count.0,
      le-leb (length (map decimal p.numbers)) 10 count.1,
      as_numbers_pass p.numbers is.each,
      as_numbers_back p.numbers is.each,
    ) refl)
