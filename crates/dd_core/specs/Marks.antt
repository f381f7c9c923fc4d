-- What marks of places and of variables say.
use Rattle.std.specs.Prelude.{◌≡◌, ℕ, ◌+◌, ◌<◌, ◌≤◌, Bool, true, false, ◌&&◌, List, [], ◌∷◌, Some, ◌⊎◌, length, slice_get, filter, if◌then◌else◌}
use Rattle.std.specs.List.{slice_index_or, range_with_len}
use Rattle.dd_core.specs.declared.table.Node.{Node}
use Rattle.dd_core.specs.declared.table.Node.TheVariants.{Constant, Choice}
use Rattle.dd_core.specs.Reach.{IsReached}

abbrev pub is_marked : List Bool → ℕ → Bool
is_marked marks place = slice_index_or marks place false

-- the marked places are those reached
pub record AreMarks (nodes : List Node) (from : ℕ) (marks : List Bool) : Type 0 where
  pub total : length marks ≡ from + 1
  pub reached : (place : ℕ) → is_marked marks place ≡ true → IsReached nodes from place
  pub all : (place : ℕ) → IsReached nodes from place → is_marked marks place ≡ true

-- the same while the nodes before `done` still have to mark their sons
pub record IsMarking (nodes : List Node) (from : ℕ) (marks : List Bool) (done : ℕ) : Type 0 where
  pub total : length marks ≡ from + 1
  pub start : is_marked marks from ≡ true
  pub reached : (place : ℕ) → is_marked marks place ≡ true → IsReached nodes from place
  pub closed : (place variable high low : ℕ) → done ≤ place → is_marked marks place ≡ true → slice_get nodes place ≡ Some (Choice variable high low) →
      (is_marked marks high ≡ true) × (is_marked marks low ≡ true)

-- the place has marked its sons, if it is marked itself
pub record MarksSons (nodes : List Node) (old new : List Bool) (place : ℕ) : Type 0 where
  pub total : length new ≡ length old
  pub later : (other : ℕ) → place ≤ other → is_marked new other ≡ is_marked old other
  pub kept : (other : ℕ) → is_marked old other ≡ true → is_marked new other ≡ true
  pub sons : (variable high low : ℕ) → is_marked old place ≡ true → slice_get nodes place ≡ Some (Choice variable high low) → (is_marked new high ≡ true)
      × (is_marked new low ≡ true)
  pub only : (from other : ℕ) → (is_marked old place ≡ true → IsReached nodes from place) → is_marked new other ≡ true → (is_marked old other ≡ true)
      ⊎ IsReached nodes from other

-- whether the node has sons
abbrev pub is_choice : Node → Bool
is_choice (Constant b) = false
is_choice (Choice variable high low) = true

-- whether the place is marked and its node has sons
abbrev pub is_marked_choice : List Node → List Bool → ℕ → Bool
is_marked_choice nodes marks place = is_marked marks place && is_choice (slice_index_or nodes place (Constant false))

-- the marked places before the bound whose nodes have sons
abbrev pub choices_before : List Node → List Bool → ℕ → List ℕ
choices_before nodes marks bound =
    filter (is_marked_choice nodes marks) (range_with_len 0 bound)

-- some node with the variable is reached
pub record IsVariableReached (nodes : List Node) (from variable : ℕ) : Type 0 where
  pub place : ℕ
  pub high : ℕ
  pub low : ℕ
  pub reached : IsReached nodes from place
  pub node : slice_get nodes place ≡ Some (Choice variable high low)

-- the marked variables are those of the nodes reached
pub record AreUsedVariables (nodes : List Node) (from bound : ℕ) (used : List Bool) : Type 0 where
  pub total : length used ≡ bound + 1
  pub reached : (variable : ℕ) → is_marked used variable ≡ true → IsVariableReached nodes from variable
  pub all : (variable : ℕ) → IsVariableReached nodes from variable → is_marked used variable ≡ true

-- the same for the marked places before `done`
pub record AreUsedBefore (nodes : List Node) (from bound : ℕ) (marks used : List Bool) (done : ℕ) : Type 0 where
  pub total : length used ≡ bound + 1
  pub reached : (variable : ℕ) → is_marked used variable ≡ true → IsVariableReached nodes from variable
  pub all : (place variable high low : ℕ) → place < done → is_marked marks place ≡ true → slice_get nodes place ≡ Some (Choice variable high low) →
      is_marked used variable ≡ true

-- the node at the place has marked its variable
pub record MarksVariable (nodes : List Node) (old new : List Bool) (place : ℕ) : Type 0 where
  pub total : length new ≡ length old
  pub kept : (variable : ℕ) → is_marked old variable ≡ true → is_marked new variable ≡ true
  pub added : (variable high low : ℕ) → slice_get nodes place ≡ Some (Choice variable high low) → is_marked new variable ≡ true
  pub only : (from variable : ℕ) → IsReached nodes from place → is_marked new variable ≡ true → (is_marked old variable ≡ true)
      ⊎ IsVariableReached nodes from variable

-- the communities of the list at whose places there is a mark, from a place on
abbrev pub picked : List Bool → ℕ → List ℕ → List ℕ
picked marks place [] = []
picked marks place (c ∷ cs) = if is_marked marks place then c ∷ picked marks (place + 1) cs else picked marks (place + 1) cs
