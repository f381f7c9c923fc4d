-- What a store of diagrams keeps: its nodes are ordered, reduced and all different.
use Rattle.std.specs.Prelude.{◌≡◌, ◌≢◌, ℕ, ◌<◌, ◌≤◌, Bool, true, false, List, ◌++◌, Some, length, slice_get, if◌then◌else◌, ◌⊎◌}
use Rattle.dd_core.specs.declared.table.Node.{Node}
use Rattle.dd_core.specs.declared.table.Node.TheVariants.{Constant, Choice}
use Rattle.dd_core.specs.Value.{value}
use Rattle.distinct_values.specs.Distinct.{AreDistinct}

-- the variable of the node, if it has one, comes after this one
pub record IsAbove (nodes : List Node) (variable place : ℕ) : Type 0 where
  pub later : (other high low : ℕ) → slice_get nodes place ≡ Some (Choice other high low) → variable < other

-- the variable of the node, if it has one, is this one or comes after it
pub record IsNotBefore (nodes : List Node) (variable place : ℕ) : Type 0 where
  pub same_or_later : (other high low : ℕ) → slice_get nodes place ≡ Some (Choice other high low) → variable ≤ other

-- the sons come before the node, differ, and ask for later variables
pub record IsReduced (nodes : List Node) (place variable high low : ℕ) : Type 0 where
  pub high_before : high < place
  pub low_before : low < place
  pub sons_differ : high ≢ low
  pub high_above : IsAbove nodes variable high
  pub low_above : IsAbove nodes variable low

pub record IsStore (nodes : List Node) : Type 0 where
  pub never : slice_get nodes 0 ≡ Some (Constant false)
  pub always : slice_get nodes 1 ≡ Some (Constant true)
  pub distinct : AreDistinct nodes
  pub reduced : (place variable high low : ℕ) → slice_get nodes place ≡ Some (Choice variable high low) → IsReduced nodes place variable high low

-- the old nodes stand where they were, before the new ones
pub record Extends (old new : List Node) : Type 0 where
  pub added : List Node
  pub nodes : new ≡ old ++ added

-- the place takes the value of `high` on the sets with the variable and that of `low` on the others
pub record IsChoiceBetween (old new : List Node) (variable high low place : ℕ) : Type 0 where
  pub inside : place < length new
  pub value : (has : ℕ → Bool) → value new has place ≡ (if has variable then value old has high else value old has low)
  pub above : (c : ℕ) → c < variable → IsAbove new c place

-- the earlier of this variable and that of the node at the place, if it has one
pub record IsEarlierVariable (nodes : List Node) (variable place first : ℕ) : Type 0 where
  pub not_later : first ≤ variable
  pub not_later_there : IsNotBefore nodes first place
  pub found : (first ≡ variable) ⊎ ((high : ℕ) × (low : ℕ) × (slice_get nodes place ≡ Some (Choice first high low)))

-- the node's diagrams for the sets with the variable and for those without it
pub record AreSons (nodes : List Node) (variable place high low : ℕ) : Type 0 where
  pub high_not_after : high ≤ place
  pub low_not_after : low ≤ place
  pub fall : (other other' : ℕ) → slice_get nodes place ≡ Some (Choice variable other other') → (high < place) × (low < place)
  pub high_above : IsAbove nodes variable high
  pub low_above : IsAbove nodes variable low
  pub high_value : (has : ℕ → Bool) → has variable ≡ true → value nodes has place ≡ value nodes has high
  pub low_value : (has : ℕ → Bool) → has variable ≡ false → value nodes has place ≡ value nodes has low

-- the place takes the value of `b` where `a` is true, and that of `c` elsewhere
pub record IsIte (old new : List Node) (a b c place : ℕ) : Type 0 where
  pub inside : place < length new
  pub value : (has : ℕ → Bool) → value new has place ≡ (if value old has a then value old has b else value old has c)
  pub above : (d : ℕ) → IsAbove old d a → IsAbove old d b → IsAbove old d c → IsAbove new d place

-- no node asks for a variable past the bound
pub record IsWithin (nodes : List Node) (bound : ℕ) : Type 0 where
  pub each : (place variable high low : ℕ) → slice_get nodes place ≡ Some (Choice variable high low) → variable ≤ bound
