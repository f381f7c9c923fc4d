-- How many communities stand on lines, and the line at which there are too many.
use Rattle.std.proofs.Common.{◌≡◌, ◌<◌, ◌≤◌, ℕ, ◌+◌, Bool, true, false, cond, not, ◌&&◌, ◌||◌, List, [], ◌∷◌, ◌++◌, map, filter, length, get_or, take, drop, Some, None, nat_eq, nat_lt, nat_le, refl, sym, ap, ◌∙◌, subst, arith, inl, inr}
use Rattle.std.specs.List.{list_any}
use Rattle.std.proofs.lemmas.Bool.{cases_order}
use Rattle.std.proofs.lemmas.Bool.Decides.{nat_tests}
use Rattle.std.proofs.lemmas.List.{take_more, map-append, take-append-drop}
use Rattle.std.proofs.lemmas.List.Folds.{list_any-append}
use Rattle.std.specs.HashSet.{contains, hash_set_len, Updates}
use Rattle.std.proofs.lemmas.List.Elements.{filter-append}
use Rattle.std.proofs.lemmas.List.Filters.{length-filter_both}
use Rattle.base_kit.specs.Sets.{has, with_number, with_numbers, IsAscending}
use Rattle.base_kit.proofs.Members.{with_less, with_same, with_more}
use Rattle.base_kit.proofs.SetFacts.{same_number, other_number, has-with_number, has-with_numbers, has_not, ascending_with_numbers, ascending_filter, has-filter, one_list}
use Rattle.cfg_ast.specs.declared.policy.Mention.{Mention}
use Rattle.cfg_ast.specs.meaning.PolicyFaults.{community_of, communities_in, first_exceeds}
use Rattle.cfg_check.specs.Items.{line_of_mention}
use Rattle.cfg_check.specs.Communities.{mentions_before, mentions_up_to, exceeding_mentions, count_before, count_up_to, Numbers, HasNumbers, with_up_to, KeepsUpTo}
use Rattle.cfg_check.specs.LeastLine.{lesser_line, least_line}

-- Sets of numbers.

or_cond : (a b : Bool) → (a || b) ≡ cond a true b
or_cond true b = refl
or_cond false b = refl

-- one number more
pub length-with_number : (n : ℕ) (xs : List ℕ) → IsAscending xs → length (with_number n xs) ≡ length xs + cond (not (has xs n)) 1 0
length-with_number n [] up = refl
length-with_number n (x ∷ xs) up = elim (cases_order x n) [
  | inl e ↦ rw (with_same n x xs e, same_number x n e) (omega arith)
  | inr (inl l) ↦ rw (with_less n x xs l, other_number x n (omega arith)) (let ih = length-with_number n xs up.1 in omega (arith, ih))
  | inr (inr g) ↦ rw (with_more n x xs g, other_number x n (omega arith), has_not x xs n up.0 (omega arith)) (omega arith)
]

both_hold : (a b : Bool) → (a ≡ true → b ≡ true) → a ≡ (a && b)
both_hold true b inside = sym (inside refl)
both_hold false b inside = refl

filter_shorter : {X : Type 0} (p : X → Bool) (xs : List X) → length (filter p xs) ≤ length xs
filter_shorter p xs = omega (arith, length-filter_both p (λ x. not (p x)) (λ x. refl) xs)

-- a set within another one has no more numbers
shorter : (xs ys : List ℕ) → IsAscending xs → IsAscending ys → ((c : ℕ) → has xs c ≡ true → has ys c ≡ true) → length xs ≤ length ys
shorter xs ys up up' inside =
    let same : xs ≡ filter (has xs) ys = one_list xs (filter (has xs) ys) up (ascending_filter (has xs) ys up')
    (λ c. both_hold (has xs c) (has ys c) (inside c) ∙ sym (has-filter (has xs) ys c)) in
    omega (arith, ap length same, filter_shorter (has xs) ys)

put_last : (xs set : List ℕ) (n : ℕ) → with_numbers (xs ++ n ∷ []) set ≡ with_number n (with_numbers xs set)
put_last [] set n = refl
put_last (x ∷ xs) set n = put_last xs (with_number x set) n

or_no : (a : Bool) → (a || false) ≡ a
or_no true = refl
or_no false = refl

-- Communities of mentions.

pub ascending_communities : (ms : List Mention) → IsAscending (communities_in ms)
ascending_communities ms = ascending_with_numbers (map community_of ms) [] tt

any_mapped : (p : Mention → Bool) (ms : List Mention) (c : ℕ) →
    has (map community_of (filter p ms)) c ≡ list_any (λ (m : Mention). p m && nat_eq m.community c) ms
any_mapped p [] c = refl
any_mapped p (m ∷ ms) c = by (p m) (any_mapped p ms c)
  where
    by : (b : Bool) → has (map community_of (filter p ms)) c ≡ list_any (λ (m : Mention). p m && nat_eq m.community c) ms
        → has (map community_of (cond b (m ∷ filter p ms) (filter p ms)))
        c ≡ ((b && nat_eq m.community c) || list_any (λ (m : Mention). p m && nat_eq m.community c) ms)
    by true ih = ap (λ b. nat_eq m.community c || b) ih
    by false ih = ih

has_in : (p : Mention → Bool) (ms : List Mention) (c : ℕ) → has (communities_in (filter p ms)) c ≡ list_any (λ (m : Mention). p m && nat_eq m.community c) ms
has_in p ms c = has-with_numbers (map community_of (filter p ms)) [] c ∙ or_no (has (map community_of (filter p ms)) c) ∙ any_mapped p ms c

either_way : (m n : ℕ) → nat_eq m n ≡ nat_eq n m
either_way m n = grind (arith, nat_tests)

has_mapped : (ms : List Mention) (c : ℕ) → has (map community_of ms) c ≡ list_any (λ (m : Mention). nat_eq c m.community) ms
has_mapped [] c = refl
has_mapped (m ∷ ms) c = ap (λ b. b || has (map community_of ms) c) (either_way m.community c) ∙ ap (λ b. nat_eq c m.community || b) (has_mapped ms c)

pub has_communities : (ms : List Mention) (c : ℕ) → has (communities_in ms) c ≡ list_any (λ (m : Mention). nat_eq c m.community) ms
has_communities ms c = has-with_numbers (map community_of ms) [] c ∙ or_no (has (map community_of ms) c) ∙ has_mapped ms c

any_implied : {X : Type 0} (r f g : X → Bool) (xs : List X) → list_any r xs ≡ false → ((x : X) → r x ≡ false → f x ≡ true → g x ≡ true) → list_any f xs ≡ true →
    list_any g xs ≡ true
any_implied r f g [] none implied some = some
any_implied {X} r f g (x ∷ xs) none implied some = by (r x) (f x) refl refl none some (λ clear rest. any_implied r f g xs clear implied rest)
  where
    or_yes : (a : Bool) → (a || true) ≡ true
    or_yes true = refl
    or_yes false = refl

    by : (a b : Bool) → r x ≡ a → f x ≡ b → (a || list_any r xs) ≡ false → (b || list_any f xs) ≡ true →
        (list_any r xs ≡ false → list_any f xs ≡ true → list_any g xs ≡ true) → (g x || list_any g xs) ≡ true
    by true b is so clear now ih = absurd cc
    by false true is so clear now ih = ap (λ v. v || list_any g xs) (implied x is so)
    by false false is so clear now ih = ap (λ v. g x || v) (ih clear now) ∙ or_yes (g x)

and_first : (a b : Bool) → (a && b) ≡ true → a ≡ true
and_first true b both = refl
and_first false b both = both

and_second : (a b : Bool) → (a && b) ≡ true → b ≡ true
and_second true b both = both
and_second false b both = absurd cc

and_both : (a b : Bool) → a ≡ true → b ≡ true → (a && b) ≡ true
and_both a b p q = rw (p, q) refl

-- fewer mentions, fewer communities; those that pass `r` are left out, where no mention does
fewer : (r p q : Mention → Bool) (ms : List Mention) → list_any r ms ≡ false → ((m : Mention) → r m ≡ false → p m ≡ true → q m ≡ true) →
    length (communities_in (filter p ms)) ≤ length (communities_in (filter q ms))
fewer r p q ms none implied = shorter (communities_in (filter p ms)) (communities_in (filter q ms)) (ascending_communities (filter p ms))
    (ascending_communities (filter q ms))
    (λ c inside.
    has_in q ms c ∙ any_implied r (λ (m : Mention). p m && nat_eq m.community c) (λ (m : Mention). q m && nat_eq m.community c) ms none
    (λ m other both. and_both (q m) (nat_eq m.community c) (implied m other (and_first (p m) (nat_eq m.community c) both))
    (and_second (p m) (nat_eq m.community c) both))
    (sym (has_in p ms c) ∙ inside))

never : Mention → Bool
never m = false

none_pass : (ms : List Mention) → list_any never ms ≡ false
unfolding never
none_pass [] = refl
none_pass (m ∷ ms) = none_pass ms

le_lt : (m x y : ℕ) → x < y → nat_le m x ≡ true → nat_lt m y ≡ true
le_lt m x y less e = grind (arith, nat_tests)

lt_le : (m x : ℕ) → nat_lt m (x + 1) ≡ true → nat_le m x ≡ true
lt_le m x e = grind (arith, nat_tests)

le_le : (m x y : ℕ) → x ≤ y → nat_le m x ≡ true → nat_le m y ≡ true
le_le m x y less e = grind (arith, nat_tests)

le_not_eq : (m x : ℕ) → nat_eq m x ≡ false → nat_le m x ≡ true → nat_lt m x ≡ true
le_not_eq m x ne e = grind (arith, nat_tests)

lt_zero : (m : ℕ) → nat_lt m 0 ≡ false
lt_zero m = grind (arith, nat_tests)

up_to_before : (ms : List Mention) (x y : ℕ) → x < y → count_up_to ms x ≤ count_before ms y
up_to_before ms x y less = fewer never (λ (m : Mention). nat_le m.line x) (λ (m : Mention). nat_lt m.line y) ms (none_pass ms)
    (λ m other e. le_lt m.line x y less e)

pub before_next : (ms : List Mention) (x : ℕ) → count_before ms (x + 1) ≤ count_up_to ms x
before_next ms x = fewer never (λ (m : Mention). nat_lt m.line (x + 1)) (λ (m : Mention). nat_le m.line x) ms (none_pass ms) (λ m other e. lt_le m.line x e)

up_to_more : (ms : List Mention) (x y : ℕ) → x ≤ y → count_up_to ms x ≤ count_up_to ms y
up_to_more ms x y less = fewer never (λ (m : Mention). nat_le m.line x) (λ (m : Mention). nat_le m.line y) ms (none_pass ms)
    (λ m other e. le_le m.line x y less e)

no_line_before : (ms : List Mention) → mentions_before ms 0 ≡ []
no_line_before [] = refl
no_line_before (m ∷ ms) = ap (λ b. cond b (m ∷ mentions_before ms 0) (mentions_before ms 0)) (lt_zero m.line) ∙ no_line_before ms

pub before_first_line : (ms : List Mention) → count_before ms 0 ≡ 0
before_first_line ms = ap (λ (l : List Mention). length (communities_in l)) (no_line_before ms)

-- The line of the first community past the limit.

true_lt : (m n : ℕ) → nat_lt m n ≡ true → m < n
true_lt m n e = grind (arith, nat_tests)

true_le : (m n : ℕ) → nat_le m n ≡ true → m ≤ n
true_le m n e = grind (arith, nat_tests)

true_eq : (m n : ℕ) → nat_eq m n ≡ true → m ≡ n
true_eq m n e = grind (arith, nat_tests)

lt_true : (m n : ℕ) → m < n → nat_lt m n ≡ true
lt_true m n e = grind (arith, nat_tests)

le_true : (m n : ℕ) → m ≤ n → nat_le m n ≡ true
le_true m n e = grind (arith, nat_tests)

one_line : (limit : ℕ) (ms : List Mention) (line x : ℕ) → count_before ms line ≤ limit → limit < count_up_to ms line → first_exceeds limit ms x ≡ true →
    x ≡ line
one_line limit ms line x few many here =
    let few_before : count_before ms x ≤ limit = true_le _ _ (and_first (nat_le (count_before ms x) limit) (nat_lt limit (count_up_to ms x)) here) in
    let many_up_to : limit < count_up_to ms x = true_lt _ _ (and_second (nat_le (count_before ms x) limit) (nat_lt limit (count_up_to ms x)) here) in
    elim (cases_order x line) [
      | inl e ↦ e
      | inr (inl l) ↦ absurd (omega (arith, up_to_before ms x line l))
      | inr (inr g) ↦ absurd (omega (arith, up_to_before ms line x g))
    ]

stands_somewhere : (ms : List Mention) (line : ℕ) → count_before ms line < count_up_to ms line → list_any (λ (m : Mention). nat_eq m.line line) ms ≡ true
stands_somewhere ms line more = by (list_any (λ (m : Mention). nat_eq m.line line) ms) refl
  where
    by : (b : Bool) → list_any (λ (m : Mention). nat_eq m.line line) ms ≡ b → b ≡ true
    by true is = refl
    by false is =
        let no_more = fewer (λ (m : Mention). nat_eq m.line line) (λ (m : Mention). nat_le m.line line) (λ (m : Mention). nat_lt m.line line) ms is
        (λ m other e. le_not_eq m.line line other e) in
        absurd (omega (arith, no_more))

any_lines : (p : ℕ → Bool) (ms : List Mention) → list_any p (map line_of_mention ms) ≡ list_any (λ (m : Mention). p m.line) ms
any_lines p [] = refl
any_lines p (m ∷ ms) = ap (λ b. p m.line || b) (any_lines p ms)

lesser_same : (b : Bool) (line : ℕ) → lesser_line (Some line) (cond b (Some line) None) ≡ Some line
lesser_same true line = by (nat_lt line line)
  where
    by : (b : Bool) → cond b (Some line) (Some line) ≡ Some line
    by true = refl
    by false = refl
lesser_same false line = refl

-- the least of the lines that pass a test which only one passes
least_of_one : (test : ℕ → Bool) (xs : List ℕ) (line : ℕ) → ((x : ℕ) → test x ≡ true → x ≡ line) →
    least_line (filter test xs) ≡ cond (list_any test xs) (Some line) None
least_of_one test [] line only = refl
least_of_one test (x ∷ xs) line only = by (test x) refl (least_of_one test xs line only)
  where
    by : (b : Bool) → test x ≡ b → least_line (filter test xs) ≡ cond (list_any test xs) (Some line) None →
        least_line (cond b (x ∷ filter test xs) (filter test xs)) ≡ cond (b || list_any test xs) (Some line) None
    by true is ih = ap (λ n. lesser_line (Some n) (least_line (filter test xs))) (only x is) ∙ ap (lesser_line (Some line)) ih
        ∙ lesser_same (list_any test xs) line
    by false is ih = ih

pub exceeding_is : (limit : ℕ) (ms : List Mention) (line : ℕ) → count_before ms line ≤ limit → limit < count_up_to ms line →
    Some line ≡ least_line (exceeding_mentions limit ms)
exceeding_is limit ms line few many =
    let test : ℕ → Bool = first_exceeds limit ms in
    let here : test line ≡ true = and_both _ _ (le_true (count_before ms line) limit few) (lt_true limit (count_up_to ms line) many) in
    let some : list_any (λ (m : Mention). test m.line) ms ≡ true =
    any_implied never (λ (m : Mention). nat_eq m.line line) (λ (m : Mention). test m.line) ms (none_pass ms)
    (λ m other e. ap test (true_eq m.line line e) ∙ here) (stands_somewhere ms line (omega arith)) in
    sym (least_of_one test (map line_of_mention ms) line (λ x. one_line limit ms line x few many)
    ∙ ap (λ b. cond b (Some line) None) (any_lines test ms ∙ some))

no_line : (test : ℕ → Bool) (xs : List ℕ) → list_any test xs ≡ false → least_line (filter test xs) ≡ None
no_line test [] none = refl
no_line test (x ∷ xs) none = by (test x) (no_line test xs) none
  where
    by : (b : Bool) → (list_any test xs ≡ false → least_line (filter test xs) ≡ None) → (b || list_any test xs) ≡ false →
        least_line (cond b (x ∷ filter test xs) (filter test xs)) ≡ None
    by true ih clear = absurd cc
    by false ih clear = ih clear

-- with few communities up to the last line there is no such line
pub none_exceeding : (limit : ℕ) (ms : List Mention) (last : ℕ) → list_any (λ (m : Mention). nat_lt last m.line) ms ≡ false → count_up_to ms last ≤ limit →
    None ≡ least_line (exceeding_mentions limit ms)
none_exceeding limit ms last behind few =
    sym (no_line (first_exceeds limit ms) (map line_of_mention ms)
    (any_lines (first_exceeds limit ms) ms ∙ by (list_any (λ (m : Mention). first_exceeds limit ms m.line) ms) refl))
  where
    not_behind : (m n : ℕ) → nat_lt n m ≡ false → m ≤ n
    not_behind m n e = grind (arith, nat_tests)

    past : (m : Mention) → nat_lt last m.line ≡ false → first_exceeds limit ms m.line ≡ true → ⊥
    past m other here =
        let many : limit < count_up_to ms m.line =
        true_lt _ _ (and_second (nat_le (count_before ms m.line) limit) (nat_lt limit (count_up_to ms m.line)) here) in
        omega (arith, up_to_more ms m.line last (not_behind m.line last other))

    by : (b : Bool) → list_any (λ (m : Mention). first_exceeds limit ms m.line) ms ≡ b → b ≡ false
    by true is =
        let clash = any_implied (λ (m : Mention). nat_lt last m.line) (λ (m : Mention). first_exceeds limit ms m.line) never ms behind
        (λ m other here. absurd (past m other here)) is in
        let none = none_pass ms in absurd cc
    by false is = refl

-- Turns of the loops over mentions.

kept_last : (b : Bool) (kept : List Mention) (m : Mention) →
    communities_in (kept ++ cond b (m ∷ []) []) ≡ cond b (with_number m.community (communities_in kept)) (communities_in kept)
kept_last true kept m = ap (λ (l : List ℕ). with_numbers l []) (map-append community_of kept (m ∷ [])) ∙ put_last (map community_of kept) [] m.community
kept_last false kept m = ap communities_in (no_more kept)
  where
    no_more : (xs : List Mention) → xs ++ [] ≡ xs
    no_more [] = refl
    no_more (x ∷ xs) = ap (λ (l : List Mention). x ∷ l) (no_more xs)

taken : (ms : List Mention) (i : ℕ) (m : Mention) → i < length ms → m ≡ get_or ms i m → take (i + 1) ms ≡ take i ms ++ m ∷ []
taken ms i m below here = take_more ms i m below ∙ ap (λ (y : Mention). take i ms ++ y ∷ []) (sym here)

-- one mention more
pub up_to_turn : (ms : List Mention) (line i : ℕ) (m : Mention) → i < length ms → m ≡ get_or ms i m
    → communities_in (mentions_up_to (take (i + 1) ms) line) ≡ with_up_to line m (communities_in (mentions_up_to (take i ms) line))
up_to_turn ms line i m below here =
    ap (λ (l : List Mention). communities_in (mentions_up_to l line)) (taken ms i m below here)
    ∙ ap communities_in (filter-append (λ (n : Mention). nat_le n.line line) (take i ms) (m ∷ []))
    ∙ kept_last (nat_le m.line line) (mentions_up_to (take i ms) line) m

pub communities_turn : (ms : List Mention) (i : ℕ) (m : Mention) → i < length ms → m ≡ get_or ms i m →
    communities_in (take (i + 1) ms) ≡ with_number m.community (communities_in (take i ms))
communities_turn ms i m below here = ap communities_in (taken ms i m below here) ∙ kept_last true (take i ms) m

known : (n : ℕ) (xs : List ℕ) → IsAscending xs → has xs n ≡ true → xs ≡ with_number n xs
known n [] up inside = absurd cc
known n (x ∷ xs) up inside = elim (cases_order x n) [
  | inl e ↦ sym (with_same n x xs e)
  | inr (inl l) ↦ ap (λ (l : List ℕ). x ∷ l) (known n xs up.1 (rw (other_number x n (omega arith)) at inside)) ∙ sym (with_less n x xs l)
  | inr (inr g) ↦
      let no : has (x ∷ xs) n ≡ false = rw (other_number x n (omega arith)) (has_not x xs n up.0 (omega arith)) in
      absurd cc
]

-- a number that is put in where it is new
pub added_if_new : (n : ℕ) (xs : List ℕ) (is_new : Bool) → IsAscending xs → is_new ≡ not (has xs n) → cond is_new (with_number n xs) xs ≡ with_number n xs
added_if_new n xs is_new up is = ap (λ b. cond b (with_number n xs) xs) is ∙ by (has xs n) refl
  where
    by : (b : Bool) → has xs n ≡ b → cond (not b) (with_number n xs) xs ≡ with_number n xs
    by true inside = known n xs up inside
    by false inside = refl

-- communities only become more
grown : (more set : List ℕ) → IsAscending set → length set ≤ length (with_numbers more set)
grown more set up = shorter set (with_numbers more set) up (ascending_with_numbers more set up)
    (λ c inside. has-with_numbers more set c ∙ or_last (has more c) (has set c) inside)
  where
    or_last : (a b : Bool) → b ≡ true → (a || b) ≡ true
    or_last true b e = refl
    or_last false b e = e

pub with_all : (xs ys set : List ℕ) → with_numbers (xs ++ ys) set ≡ with_numbers ys (with_numbers xs set)
with_all [] ys set = refl
with_all (x ∷ xs) ys set = with_all xs ys (with_number x set)

-- the first mentions have no more communities than all
pub first_fewer : (ms : List Mention) (k line : ℕ) → count_up_to (take k ms) line ≤ count_up_to ms line
first_fewer ms k line =
    let kept : List Mention → List Mention = λ l. mentions_up_to l line in
    let front = map community_of (kept (take k ms)) in
    let rest = map community_of (kept (drop k ms)) in
    let cut : communities_in (kept ms) ≡ with_numbers rest (with_numbers front []) =
    ap (λ (l : List Mention). communities_in (kept l)) (sym (take-append-drop k ms))
    ∙ ap communities_in (filter-append (λ (m : Mention). nat_le m.line line) (take k ms) (drop k ms))
    ∙ ap (λ (l : List ℕ). with_numbers l []) (map-append community_of (kept (take k ms)) (kept (drop k ms)))
    ∙ with_all front rest [] in
    omega (arith, ap length cut, grown rest (communities_in (kept (take k ms))) (ascending_communities (kept (take k ms))))

-- a number was put into a set of numbers
pub number_put : (old new : Numbers) (n : ℕ) (set : List ℕ) (added : Bool) → IsAscending set → HasNumbers old set → Updates nat_eq old new n true →
    added ≡ not (contains nat_eq old n) → hash_set_len new ≡ hash_set_len old + cond added 1 0 → HasNumbers new (with_number n set)
number_put old new n set added up has_all step is grows = record {
  each = λ q. step.0 q ∙ ap (λ b. cond (nat_eq n q) true b) (has_all.each q) ∙ sym (or_cond (nat_eq n q) (has set q)) ∙ sym (has-with_number n set q);
  count =
      grows ∙ ap (λ b. hash_set_len old + cond b 1 0) (is ∙ ap not (has_all.each n)) ∙ ap (λ k. k + cond (not (has set n)) 1 0) has_all.count
      ∙ sym (length-with_number n set up);
}

pub put_up_to : (line : ℕ) (m : Mention) (old new : Numbers) (added : Bool) → m.line ≤ line → Updates nat_eq old new m.community true →
    added ≡ not (contains nat_eq old m.community) → hash_set_len new ≡ hash_set_len old + cond added 1 0 → KeepsUpTo line m old new
put_up_to line m old new added within step is grows = record {
  after = λ set up has_all. subst (λ b. HasNumbers new (cond b (with_number m.community set) set)) (sym (le_true m.line line within))
      (number_put old new m.community set added up has_all step is grows);
}

-- the numbers with one mention more
pub next_seen : (ms : List Mention) (line i : ℕ) (m : Mention) (old new : Numbers) → i < length ms → m ≡ get_or ms i m → KeepsUpTo line m old new
    → HasNumbers old (communities_in (mentions_up_to (take i ms) line)) → HasNumbers new (communities_in (mentions_up_to (take (i + 1) ms) line))
next_seen ms line i m old new below here keeps seen =
    let past = mentions_up_to (take i ms) line in
    subst (λ set. HasNumbers new set) (sym (up_to_turn ms line i m below here)) (keeps.after (communities_in past) (ascending_communities past) seen)

pub too_many_seen : (ms : List Mention) (k line limit : ℕ) (seen : Numbers) → HasNumbers seen (communities_in (mentions_up_to (take k ms) line)) →
    limit < hash_set_len seen → true ≡ nat_lt limit (count_up_to ms line)
too_many_seen ms k line limit seen has_all more = sym (lt_true limit (count_up_to ms line) (omega (arith, has_all.count, first_fewer ms k line)))

lt_false : (m last next : ℕ) → last ≤ next → nat_lt last m ≡ false → nat_lt next m ≡ false
lt_false m last next less e = grind (arith, nat_tests)

not_lt : (m last : ℕ) → m ≤ last → nat_lt last m ≡ false
not_lt m last less = grind (arith, nat_tests)

behind_more : (last next : ℕ) (ms : List Mention) → last ≤ next → list_any (λ (m : Mention). nat_lt last m.line) ms ≡ false →
    list_any (λ (m : Mention). nat_lt next m.line) ms ≡ false
behind_more last next [] less none = refl
behind_more last next (m ∷ ms) less none = by (nat_lt last m.line) (behind_more last next ms less) refl none
  where
    by : (b : Bool) → (list_any (λ (m : Mention). nat_lt last m.line) ms ≡ false → list_any (λ (m : Mention). nat_lt next m.line) ms ≡ false) →
        nat_lt last m.line ≡ b
        → (b || list_any (λ (m : Mention). nat_lt last m.line) ms) ≡ false → (nat_lt next m.line || list_any (λ (m : Mention). nat_lt next m.line) ms) ≡ false
    by true ih is clear = absurd cc
    by false ih is clear = ap (λ b. b || list_any (λ (m : Mention). nat_lt next m.line) ms) (lt_false m.line last next less is) ∙ ih clear

-- a line that is not before those so far, nor before that of one mention more
pub last_turn : (ms : List Mention) (i : ℕ) (m : Mention) (last next : ℕ) → i < length ms → m ≡ get_or ms i m → last ≤ next → m.line ≤ next
    → list_any (λ (m : Mention). nat_lt last m.line) (take i ms) ≡ false → list_any (λ (m : Mention). nat_lt next m.line) (take (i + 1) ms) ≡ false
last_turn ms i m last next below here less less_too none =
    ap (λ (l : List Mention). list_any (λ (m : Mention). nat_lt next m.line) l) (taken ms i m below here)
    ∙ list_any-append (λ (m : Mention). nat_lt next m.line) (take i ms) (m ∷ [])
    ∙ ap (λ b. b || (nat_lt next m.line || false)) (behind_more last next (take i ms) less none)
    ∙ ap (λ b. b || false) (not_lt m.line next less_too)

pub few_where : (count limit : ℕ) → nat_lt limit count ≡ false → count ≤ limit
few_where count limit e = grind (arith, nat_tests)

pub many_where : (count limit : ℕ) → nat_lt limit count ≡ true → limit < count
many_where count limit e = grind (arith, nat_tests)
