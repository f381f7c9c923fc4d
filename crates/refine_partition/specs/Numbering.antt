-- Numbers for keys, in the order in which the keys first stand.
use Rattle.std.specs.Prelude.{◌≡◌, ◌≢◌, ℕ, ◌<◌, ◌≤◌, List, length, slice_index, slice_index_or, Option, Some, None, ◌⊎◌}
use Rattle.base_kit.specs.Partition.{IsNumbered}

-- the first places have numbers below `count`, equal where their keys are
pub record IsNumbering (keys numbers : List ℕ) (count : ℕ) : Type 0 where
  pub numbered : IsNumbered numbers count
  pub small : count ≤ length numbers
  pub apart : (u v : ℕ) → u < length numbers → v < length numbers → slice_index numbers u ≡ slice_index numbers v → slice_index keys u ≡ slice_index keys v
  pub together : (u v : ℕ) → u < length numbers → v < length numbers → slice_index keys u ≡ slice_index keys v → slice_index numbers u ≡ slice_index numbers v

-- the number of a key, if it has one
abbrev pub number_of_key : List (Option ℕ) → ℕ → Option ℕ
number_of_key names key = slice_index_or names key None

-- the key has the number, which is the next one if it had none, and all others keep theirs
pub record IsKeyNamedAt (old new : List (Option ℕ)) (key next number : ℕ) : Type 0 where
  pub size : length new ≡ length old
  pub named : number_of_key new key ≡ Some number
  pub others : (other : ℕ) → other ≢ key → number_of_key new other ≡ number_of_key old other
  pub was : (number_of_key old key ≡ Some number) ⊎ ((number_of_key old key ≡ None) × (number ≡ next))
