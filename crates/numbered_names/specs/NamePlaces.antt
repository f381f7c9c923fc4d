-- The places of names among items.
use Rattle.std.specs.Prelude.{◌≡◌, ℕ, ◌<◌, List, Option, Some, bytes_eq}
use Rattle.std.specs.List.{position}
use Rattle.std.specs.HashMap.{get_by_text}
use Rattle.numbered_names.specs.declared.places.NamePlaces.{NamePlaces}

-- the place that stands at a name
abbrev pub place_in : NamePlaces → List ℕ → Option ℕ
place_in places name = get_by_text places.places name

-- each name has the place of the first item that has it
pub record ArePlacesOf {X : Type 0} (name_of : X → List ℕ) (places : NamePlaces) (items : List X) : Type 0 where
  pub each : (name : List ℕ) → place_in places name ≡ position (λ x. bytes_eq name (name_of x)) items

-- each place is among so many
abbrev pub AreBelow : NamePlaces → ℕ → Type 0
AreBelow places count = (name : List ℕ) (place : ℕ) → place_in places name ≡ Some place → place < count
