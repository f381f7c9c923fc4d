-- One more item behind the others, and the place of its name.
use Rattle.std.proofs.Common.{◌≡◌, ℕ, Bool, true, false, cond, List, [], ◌∷◌, ◌++◌, length, Some, None, refl, sym, ap, ◌∙◌}
use Rattle.std.specs.Prelude.{is_some, bytes_eq}
use Rattle.std.specs.List.{position}
use Rattle.numbered_names.specs.NamePlaces.{ArePlacesOf, place_in}
use Rattle.numbered_names.specs.declared.places.NamePlaces.{NamePlaces}
use Rattle.numbered_names.proofs.Firsts.{bytes_same, place_by, position_kept, position_old}
use Rattle.numbered_names.proofs.Positions.{bytes_eq-sym}

module _ {X : Type 0} (name_of : X → List ℕ) (items : List X) (item : X) where
  -- a name that is new gets the place behind the others
  pub first_noted : (old new : NamePlaces) → ArePlacesOf name_of old items → place_in old (name_of item) ≡ None
      → ((name : List ℕ) → place_in new name ≡ cond (bytes_eq (name_of item) name) (Some (length items)) (place_in old name)) →
      ArePlacesOf name_of new (items ++ item ∷ [])
  first_noted old new are none updated = record {
    each = λ name.
        updated name
        ∙ ap (cond (bytes_eq (name_of item) name) (Some (length items))) (are.each name)
        ∙ ap (λ (b : Bool). cond b (Some (length items)) (position (λ (x : X). bytes_eq name (name_of x)) items)) (bytes_eq-sym (name_of item) name)
        ∙ place_by (λ (x : X). bytes_eq name (name_of x)) items item (bytes_eq name (name_of item)) refl
        (λ same. absent name (bytes_same name (name_of item) same));
  }
    where
      absent : (name : List ℕ) → name ≡ name_of item → position (λ (x : X). bytes_eq name (name_of x)) items ≡ None
      absent name same = sym (are.each name) ∙ ap (place_in old) same ∙ none

  again_by : (places : NamePlaces) → ArePlacesOf name_of places items → (name : List ℕ) →
      (name ≡ name_of item → is_some (position (λ (x : X). bytes_eq name (name_of x)) items) ≡ true) → (b : Bool) → bytes_eq name (name_of item) ≡ b
      → position (λ (x : X). bytes_eq name (name_of x)) items ≡ position (λ (x : X). bytes_eq name (name_of x)) (items ++ item ∷ [])
  again_by places are name there true same = sym (position_kept (λ (x : X). bytes_eq name (name_of x)) items item (there (bytes_same name (name_of item) same)))
  again_by places are name there false other = sym (position_old (λ (x : X). bytes_eq name (name_of x)) items item other)

  -- a name that has a place keeps it
  pub again_noted : (places : NamePlaces) → ArePlacesOf name_of places items → is_some (place_in places (name_of item)) ≡ true →
      ArePlacesOf name_of places (items ++ item ∷ [])
  again_noted places are some = record {
    each = λ name.
        are.each name ∙ again_by places are name (λ same. ap is_some (sym (are.each name) ∙ ap (place_in places) same) ∙ some) (bytes_eq name (name_of item))
        refl;
  }
