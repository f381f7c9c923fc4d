-- Sets of pairs of names.
use Rattle.std.specs.Prelude.{◌≡◌, ℕ, Bool, ◌&&◌, ◌||◌, List, bytes_eq}
use Rattle.std.specs.HashSet.{contains_by}
use Rattle.ask_names.specs.declared.pairs.NamePairs.{NamePairs}

-- whether the set has the pair, in this order
abbrev pub has_pair : NamePairs → List ℕ → List ℕ → Bool
has_pair set first second = contains_by (λ k. bytes_eq first k.0.now && bytes_eq second k.1.now) set.pairs

-- the pair was put in
pub record AddsPair (old new : NamePairs) (first second : List ℕ) : Type 0 where
  pub each : (one other : List ℕ) → has_pair new one other ≡ (has_pair old one other || bytes_eq first one && bytes_eq second other)
