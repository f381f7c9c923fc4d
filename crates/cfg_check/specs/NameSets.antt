-- Sets of names.
use Rattle.std.specs.Prelude.{◌≡◌, ℕ, Bool, not, ◌||◌, List}
use Rattle.numbered_names.specs.declared.sets.NameSet.{NameSet}
use Rattle.numbered_names.specs.NameSets.{has_name}

abbrev pub lacks_name : NameSet → List ℕ → Bool
lacks_name set name = not (has_name set name)

-- the set has exactly the names that pass the test
pub record HasNames (set : NameSet) (test : List ℕ → Bool) : Type 0 where
  pub each : (q : List ℕ) → has_name set q ≡ test q

-- the names that pass the test were put in
pub record AddsNames (old new : NameSet) (test : List ℕ → Bool) : Type 0 where
  pub each : (q : List ℕ) → has_name new q ≡ test q || has_name old q
