-- The way down a diagram through variables that are fixed.
use Rattle.std.specs.Prelude.{◌≡◌, ℕ, ◌<◌, ◌≤◌, Bool, List, Option, Some, None, length, slice_get}
use Rattle.dd_core.specs.declared.table.Node.{Node}
use Rattle.dd_core.specs.declared.table.Node.TheVariants.{Choice}
use Rattle.dd_core.specs.Value.{value}
use Rattle.dd_core.specs.Store.{IsAbove}
use Rattle.dd_core.specs.Restrict.{fixed_test}

-- where some variables are fixed, the place has the value of another
pub record LeadsTo (nodes : List Node) (fix : ℕ → Option Bool) (from place : ℕ) : Type 0 where
  pub inside : place < length nodes
  pub value : (test : ℕ → Bool) → value nodes (fixed_test fix test) place ≡ value nodes (fixed_test fix test) from
  pub above : (variable : ℕ) → IsAbove nodes variable from → IsAbove nodes variable place

-- no variable from that of the node on is fixed
pub record IsUnfixed (nodes : List Node) (fix : ℕ → Option Bool) (place : ℕ) : Type 0 where
  pub none : (variable high low : ℕ) → slice_get nodes place ≡ Some (Choice variable high low) → (other : ℕ) → variable ≤ other → fix other ≡ None
