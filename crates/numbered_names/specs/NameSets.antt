-- Sets of names.
use Rattle.std.specs.Prelude.{◌≡◌, ℕ, Bool, ◌||◌, List, bytes_eq}
use Rattle.std.specs.HashSet.{contains_by}
use Rattle.numbered_names.specs.declared.sets.NameSet.{NameSet}

-- whether the set has the name
abbrev pub has_name : NameSet → List ℕ → Bool
has_name set name = contains_by (λ k. bytes_eq name k.now) set.names

-- the name was put in
pub record AddsName (old new : NameSet) (name : List ℕ) : Type 0 where
  pub each : (other : List ℕ) → has_name new other ≡ bytes_eq other name || has_name old other
