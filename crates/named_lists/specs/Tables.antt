-- Tables of the places of names.
use Rattle.std.specs.Prelude.{ℕ, List, Option, Some, None}
use Rattle.numbered_names.specs.NamePlaces.{ArePlacesOf}
use Rattle.numbered_names.specs.declared.places.NamePlaces.{NamePlaces}

-- the table, if there is one, has the places of the items
abbrev pub IsTableOf : {X : Type 0} → (X → List ℕ) → List X → Option NamePlaces → Type 0
IsTableOf name_of items None = Unit {0}
IsTableOf name_of items (Some table) = ArePlacesOf name_of table items
