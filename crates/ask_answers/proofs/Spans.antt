-- The classes of a span, one by one.
use Rattle.std.proofs.Common.{subst, ◌≡◌, ℕ, zero, suc, ◌+◌, ◌-◌, ◌<◌, ◌≤◌, Bool, true, false, ◌&&◌, List, [], ◌∷◌, ◌++◌, length, take, drop, get_or, refl, sym, ap, ◌∙◌, arith, Option, Some, None}
use Rattle.std.specs.Prelude.{if◌then◌else◌, nat_le}
use Rattle.std.specs.Option.{option_map}
use Rattle.std.specs.List.{enumerate_from}
use Rattle.std.proofs.Math.ListN.{drop_of_length-le}
use Rattle.std.proofs.lemmas.List.{take_more, drop-append-le, length-take, length-take-le}
use Rattle.std.proofs.lemmas.List.FromFn.{get_or-enumerate_from, length-enumerate_from}
use Rattle.std.proofs.lemmas.Bool.Decides.{nat_tests}
use Rattle.numbered_names.proofs.Positions.{position_below}
use Rattle.cfg_ast.specs.declared.classes.DestClass.{DestClass}
use Rattle.cfg_ast.specs.meaning.Classes.{has_prefix}
use Rattle.cfg_ast.specs.text.Words.{cut_to}
use Rattle.base_kit.specs.Prefixes.{Prefix}
use Rattle.ask_words.specs.declared.request.Classes.{Classes}
use Rattle.ask_words.specs.declared.request.Classes.TheVariants as classes
use Rattle.ask_names.specs.Selection.{place_having, or_place, place_holding, one_at, numbers_between, selected, chosen}
use Rattle.ask_names.specs.declared.selection.Span.{Span}

some_same : {X : Type 0} (x y : X) → Some x ≡ Some y → x ≡ y
some_same x y e = cc

yes_below : (a b : ℕ) → nat_le a b ≡ true → a ≤ b
yes_below a b e = grind (arith, nat_tests)

no_below : (a b : ℕ) → nat_le a b ≡ false → b ≤ a
no_below a b e = grind (arith, nat_tests)

none_some : {X : Type 0} (x : X) → None ≡ Some x → ⊥
none_some x e = cc

-- ---- a span ends within the classes

numbers_if : (a b : Bool) (all : List DestClass) (from to : ℕ) (span : Span) → nat_le to (length all) ≡ b
    → (if a && b then Some (record { from = from - 1; upto = to }) else None) ≡ Some span → span.upto ≤ length all
numbers_if true true all from to span fits e =
    subst (λ (upto : ℕ). upto ≤ length all) (ap (λ (s : Span). s.upto) (some_same (record { from = from - 1; upto = to }) span e))
    (yes_below to (length all) fits)
numbers_if true false all from to span fits e = absurd (none_some span e)
numbers_if false b all from to span fits e = absurd (none_some span e)

numbers_within : (all : List DestClass) (from to : ℕ) (span : Span) → numbers_between all from to ≡ Some span → span.upto ≤ length all
numbers_within all from to span e = numbers_if (nat_le 1 from) (nat_le to (length all)) all from to span refl e

having_within : (all : List DestClass) (p : Prefix) (place : ℕ) → place_having all p ≡ Some place → place + 1 ≤ length all
unfolding place_having
having_within all p place e =
    let h = position_below (λ (class : DestClass). has_prefix class.prefixes p) all place e in
    omega (arith, h)

holding_or : (all : List DestClass) (p : Prefix) (other o : Option ℕ) (place : ℕ) → place_having all p ≡ o → (other ≡ Some place → place + 1 ≤ length all)
    → or_place o other ≡ Some place → place + 1 ≤ length all
holding_or all p other None place is later some = later some
holding_or all p other (Some here) place is later some = having_within all p place (is ∙ some)

holding_within : (all : List DestClass) (len addr place : ℕ) → place_holding all len addr ≡ Some place → place + 1 ≤ length all
unfolding place_holding
holding_within all zero addr place e = having_within all (cut_to 0 addr) place e
holding_within all (suc len) addr place e = holding_or all (cut_to (suc len) addr) (place_holding all len addr) (place_having all (cut_to (suc len) addr)) place
    refl (λ some. holding_within all len addr place some) e

one_within : (all : List DestClass) (o : Option ℕ) (span : Span) → ((place : ℕ) → o ≡ Some place → place + 1 ≤ length all) → option_map one_at o ≡ Some span →
    span.upto ≤ length all
one_within all None span within e = absurd (none_some span e)
one_within all (Some place) span within e =
    subst (λ (upto : ℕ). upto ≤ length all) (ap (λ (s : Span). s.upto) (some_same (one_at place) span e)) (within place refl)

all_within : (all : List DestClass) (span : Span) → Some (record { from = 0; upto = length all }) ≡ Some span → span.upto ≤ length all
all_within all span e =
    subst (λ (upto : ℕ). upto ≤ length all) (ap (λ (s : Span). s.upto) (some_same (record { from = 0; upto = length all }) span e)) (omega arith)

pub span_within : (asked : Classes) (all : List DestClass) (span : Span) → selected asked all ≡ Some span → span.upto ≤ length all
unfolding selected
span_within classes.All all span e = all_within all span e
span_within (classes.Number n) all span e = numbers_within all n n span e
span_within (classes.Range from to) all span e = numbers_within all from to span e
span_within (classes.Having p) all span e = one_within all (place_having all p) span (λ place is. having_within all p place is) e
span_within (classes.Holding addr) all span e = one_within all (place_holding all 32 addr) span (λ place is. holding_within all 32 addr place is) e

-- ---- its classes up to a place

abbrev pub chosen_to : List DestClass → ℕ → ℕ → List (ℕ × DestClass)
chosen_to all from place = drop from (take place (enumerate_from 1 all))

short : {X : Type 0} (xs : List X) (place : ℕ) → length (take place xs) ≤ place
short xs place = let long = length-take place xs in omega (arith, long)

pub none_chosen : (all : List DestClass) (from place : ℕ) → place ≤ from → chosen_to all from place ≡ []
none_chosen all from place past =
    let few = short (enumerate_from 1 all) place in
    drop_of_length-le (take place (enumerate_from 1 all)) (omega (arith, few))

pub one_chosen : (all : List DestClass) (from place : ℕ) (class : DestClass) → from ≤ place → place < length all → class ≡ get_or all place class
    → chosen_to all from (place + 1) ≡ chosen_to all from place ++ (place + 1, class) ∷ []
one_chosen all from place class behind inside is =
    let numbered = enumerate_from 1 all in
    let many = length-enumerate_from 1 all in
    let within : place < length numbered = omega (arith, many) in
    let long : length (take place numbered) ≡ place = length-take-le place numbered (omega (arith, within)) in
    let next : 1 + place ≡ place + 1 = omega arith in
    ap (λ (items : List (ℕ × DestClass)). drop from items) (take_more numbered place (place + 1, class) within)
    ∙ drop-append-le from (take place numbered) (get_or numbered place (place + 1, class) ∷ []) (omega (arith, long))
    ∙ ap (λ (item : ℕ × DestClass). chosen_to all from place ++ item ∷ [])
    (get_or-enumerate_from 1 all place (place + 1, class) inside ∙ ap (λ (k : ℕ). (k, get_or all place class)) next
    ∙ ap (λ (x : DestClass). (place + 1, x)) (sym is))

-- the places of a span have been passed
pub all_chosen : (all : List DestClass) (span : Span) (place : ℕ) → span.from ≤ place → span.upto ≤ place → (span.from ≤ span.upto → place ≤ span.upto)
    → (span.upto ≤ span.from → place ≤ span.from) → chosen_to all span.from place ≡ chosen all span
all_chosen all span place behind past within empty = by (nat_le span.from span.upto) refl
  where
    by : (b : Bool) → nat_le span.from span.upto ≡ b → chosen_to all span.from place ≡ chosen all span
    by true some =
        let ends = within (yes_below span.from span.upto some) in
        let same : place ≡ span.upto = omega (arith, ends, past) in
        ap (chosen_to all span.from) same
    by false none =
        let order = no_below span.from span.upto none in
        none_chosen all span.from place (empty order) ∙ sym (none_chosen all span.from span.upto order)
