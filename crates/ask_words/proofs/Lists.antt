-- Tests that pass nowhere, and the first part of a word with commas.
use Rattle.std.proofs.Common.{rules, ◌≡◌, ℕ, ◌<◌, Bool, true, false, ◌||◌, List, [], ◌∷◌, ◌++◌, All, length, map, get_or, drop, refl, sym, ap, ◌∙◌, arith, suc, Option, Some, None, bytes_eq}
use Rattle.std.specs.List.{list_any, position_or_len}
use Rattle.numbered_names.proofs.Firsts.{any_some}
use Rattle.std.specs.Option.{is_some}
use Rattle.std.proofs.lemmas.List.{map-append}
use Rattle.std.proofs.Math.Seq.{drop-cons}
use Rattle.numbered_names.specs.NamePlaces.{ArePlacesOf, place_in}
use Rattle.numbered_names.specs.declared.places.NamePlaces.{NamePlaces}
use Rattle.ask_words.specs.NameLists.{is_among, name_of, with_name, names_from, lost_of, with_lost, down_from, word_of_lost}
use Rattle.ask_words.specs.declared.request.Lost.{Lost}

or_none : (a b : Bool) → (a || b) ≡ false → (a ≡ false) × (b ≡ false)
or_none true b e = absurd cc
or_none false b e = (refl, e)

pub none_passes : (p : ℕ → Bool) (xs : List ℕ) → list_any p xs ≡ false → All (λ x. p x ≡ false) xs
none_passes p [] e = search rules
none_passes p (x ∷ xs) e = let h = or_none (p x) (list_any p xs) e in let rest = none_passes p xs h.1 in grind (arith, h.0, rest)

within : (p : ℕ → Bool) (x : ℕ) (xs : List ℕ) (v : Bool) → p x ≡ v → (v ≡ false → position_or_len p xs < length xs)
    → position_or_len p (x ∷ xs) < length (x ∷ xs)
within p x xs true e rest = rw e (omega arith)
within p x xs false e rest = let lt = rest refl in rw e (omega arith)

-- where a test passes somewhere, its first place is within
pub some_passes : (p : ℕ → Bool) (xs : List ℕ) → list_any p xs ≡ true → position_or_len p xs < length xs
some_passes p [] e = absurd cc
some_passes p (x ∷ xs) e = within p x xs (p x) refl (λ no. some_passes p xs (let h : (p x || list_any p xs) ≡ true = e in rw no at h))

-- a name has a place where it is one of the names
pub found_among : (places : NamePlaces) (names : List (List ℕ)) (name : List ℕ) → ArePlacesOf (λ (text : List ℕ). text) places names
    → is_some (place_in places name) ≡ is_among names name
found_among places names name are = ap (λ (o : Option ℕ). is_some o) (are.each name) ∙ sym (any_some (bytes_eq name) names)

pub one_more_word : (items : List Lost) (item : Lost) → map word_of_lost (items ++ item ∷ []) ≡ map word_of_lost items ++ word_of_lost item ∷ []
one_more_word items item = map-append word_of_lost items (item ∷ [])

no_names : (parts : List (List ℕ)) → names_from None parts ≡ None
no_names [] = refl
no_names (part ∷ parts) = refl

-- a part that is no new name ends the names
pub names_end : (names : List (List ℕ)) (part : List ℕ) (parts : List (List ℕ)) → with_name names (name_of part) ≡ None →
    names_from (Some names) (part ∷ parts) ≡ None
names_end names part parts none = ap (λ (so_far : Option (List (List ℕ))). names_from so_far parts) none ∙ no_names parts

nothing_down : (parts : List (List ℕ)) → down_from None parts ≡ None
nothing_down [] = refl
nothing_down (part ∷ parts) = refl

pub down_ends : (items : List Lost) (part : List ℕ) (parts : List (List ℕ)) → with_lost items (lost_of part) ≡ None →
    down_from (Some items) (part ∷ parts) ≡ None
down_ends items part parts none = ap (λ (so_far : Option (List Lost)). down_from so_far parts) none ∙ nothing_down parts

module _ {X : Type 0} (f : X → List ℕ) (xs : List X) (i : ℕ) (d : X) where
  pub names_end_at : (names : List (List ℕ)) → i < length xs → with_name names (name_of (f (get_or xs i d))) ≡ None →
      names_from (Some names) (map f (drop i xs)) ≡ None
  names_end_at names less none = ap (λ (ys : List X). names_from (Some names) (map f ys)) (drop-cons xs i d less)
      ∙ names_end names (f (get_or xs i d)) (map f (drop (suc i) xs)) none

  pub down_ends_at : (items : List Lost) → i < length xs → with_lost items (lost_of (f (get_or xs i d))) ≡ None →
      down_from (Some items) (map f (drop i xs)) ≡ None
  down_ends_at items less none = ap (λ (ys : List X). down_from (Some items) (map f ys)) (drop-cons xs i d less)
      ∙ down_ends items (f (get_or xs i d)) (map f (drop (suc i) xs)) none
