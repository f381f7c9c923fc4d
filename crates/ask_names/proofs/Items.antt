-- Items looked up in sets of names and of pairs of names.
use Rattle.std.proofs.Common.{◌≡◌, ℕ, ◌+◌, ◌<◌, Bool, true, false, ◌&&◌, ◌||◌, List, [], ◌∷◌, length, get_or, take, refl, sym, ap, ◌∙◌}
use Rattle.std.specs.Prelude.{bytes_eq}
use Rattle.std.specs.List.{list_any}
use Rattle.std.proofs.lemmas.List.Folds.{list_any_more}
use Rattle.cfg_ast.specs.declared.topology.Link.{Link}
use Rattle.numbered_names.proofs.Firsts.{any_same, bytes_eq-sym}
use Rattle.numbered_names.specs.NameSets.{has_name, AddsName}
use Rattle.numbered_names.specs.declared.sets.NameSet.{NameSet}
use Rattle.ask_words.specs.declared.request.Lost.{Lost}
use Rattle.ask_words.specs.declared.request.Lost.TheVariants as lost
use Rattle.ask_names.specs.NamePairs.{has_pair, AddsPair}
use Rattle.ask_names.specs.Routers.{name_at, is_link_lost, is_router_lost, names_pair}
use Rattle.ask_names.specs.declared.pairs.NamePairs.{NamePairs}

-- one more item
pub any_next : {X : Type 0} (p : X → Bool) (xs : List X) (i : ℕ) (x : X) → i < length xs → x ≡ get_or xs i x →
    (list_any p (take i xs) || p x) ≡ list_any p (take (i + 1) xs)
any_next p xs i x inside at = ap (λ y. list_any p (take i xs) || p y) at ∙ sym (list_any_more p xs i x inside)

or_turned : (a b : Bool) → (a || b) ≡ (b || a)
or_turned true true = refl
or_turned true false = refl
or_turned false true = refl
or_turned false false = refl

or_nothing : (a : Bool) → a ≡ (a || false)
or_nothing true = refl
or_nothing false = refl

or_split : (a b c d : Bool) → ((a || b) || (c || d)) ≡ ((a || c) || (b || d))
or_split true b c d = refl
or_split false true true d = refl
or_split false true false d = refl
or_split false false c d = refl

-- one of two tests passes for some item
pub any_or : {X : Type 0} (p q : X → Bool) (xs : List X) → list_any (λ x. p x || q x) xs ≡ (list_any p xs || list_any q xs)
any_or p q [] = refl
any_or p q (x ∷ xs) = ap (λ (b : Bool). (p x || q x) || b) (any_or p q xs) ∙ or_split (p x) (q x) (list_any p xs) (list_any q xs)

and_turned : (a b : Bool) → (a && b) ≡ (b && a)
and_turned true true = refl
and_turned true false = refl
and_turned false true = refl
and_turned false false = refl

-- ---- one more item in a set

pub with_router : (old new : NameSet) (item : Lost) (name down : List ℕ) → AddsName old new name → item ≡ lost.Router down → name ≡ down →
    (other : List ℕ) → has_name new other ≡ (has_name old other || is_router_lost other item)
with_router old new item name down adds is same other =
    adds.each other
    ∙ or_turned (bytes_eq other name) (has_name old other)
    ∙ ap (λ (b : Bool). has_name old other || b) (bytes_eq-sym other name)
    ∙ ap (λ (n : List ℕ). has_name old other || bytes_eq n other) same
    ∙ ap (λ (x : Lost). has_name old other || is_router_lost other x) (sym is)

pub with_no_router : (set : NameSet) (item : Lost) (first second : List ℕ) → item ≡ lost.Links first second →
    (name : List ℕ) → has_name set name ≡ (has_name set name || is_router_lost name item)
with_no_router set item first second is name =
    or_nothing (has_name set name) ∙ ap (λ (x : Lost). has_name set name || is_router_lost name x) (sym is)

pub with_pair : (old new : NamePairs) (item : Lost) (one other a b : List ℕ) → AddsPair old new one other → item ≡ lost.Links a b → one ≡ a → other ≡ b →
    (first second : List ℕ) → has_pair new first second ≡ (has_pair old first second || names_pair first second item)
with_pair old new item one other a b adds is is_one is_other first second =
    adds.each first second
    ∙ ap (λ (n : List ℕ). has_pair old first second || bytes_eq n first && bytes_eq other second) is_one
    ∙ ap (λ (n : List ℕ). has_pair old first second || bytes_eq a first && bytes_eq n second) is_other
    ∙ ap (λ (x : Lost). has_pair old first second || names_pair first second x) (sym is)

pub with_no_pair : (set : NamePairs) (item : Lost) (down : List ℕ) → item ≡ lost.Router down →
    (first second : List ℕ) → has_pair set first second ≡ (has_pair set first second || names_pair first second item)
with_no_pair set item down is first second =
    or_nothing (has_pair set first second) ∙ ap (λ (x : Lost). has_pair set first second || names_pair first second x) (sym is)

-- ---- links

module _ (names : List (List ℕ)) (link : Link) where
  same_item : (item : Lost) → is_link_lost names link item
      ≡ (names_pair (name_at names link.low) (name_at names link.high) item || names_pair (name_at names link.high) (name_at names link.low) item)
  same_item (lost.Router down) = refl
  same_item (lost.Links first second) =
      ap (λ (b : Bool). bytes_eq first (name_at names link.low) && bytes_eq second (name_at names link.high) || b)
      (and_turned (bytes_eq second (name_at names link.low)) (bytes_eq first (name_at names link.high)))

  -- a link is down if the pair of its ends is in the set, in one order or the other
  pub link_among : (items : List Lost) (pairs : NamePairs) →
      ((first second : List ℕ) → has_pair pairs first second ≡ list_any (names_pair first second) items)
      → (has_pair pairs (name_at names link.low) (name_at names link.high) || has_pair pairs (name_at names link.high) (name_at names link.low))
      ≡ list_any (is_link_lost names link) items
  link_among items pairs are =
      let low = name_at names link.low in
      let high = name_at names link.high in
      ap (λ (b : Bool). b || has_pair pairs high low) (are low high)
      ∙ ap (λ (b : Bool). list_any (names_pair low high) items || b) (are high low)
      ∙ sym (any_or (names_pair low high) (names_pair high low) items)
      ∙ sym (any_same (is_link_lost names link) (λ item. names_pair low high item || names_pair high low item) same_item items)
