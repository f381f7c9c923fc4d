-- Lists of values that are all different.
use Rattle.std.specs.Prelude.{◌≡◌, ℕ, List, Some, slice_get}

-- no two places have equal values
pub record AreDistinct {X : Type 0} (values : List X) : Type 0 where
  pub one_place : (i j : ℕ) (value : X) → slice_get values i ≡ Some value → slice_get values j ≡ Some value → i ≡ j
