-- The join of two partitions: the finest one that both refine.
use Rattle.std.specs.Prelude.{◌≡◌, ℕ, ◌<◌, List, [], ◌∷◌, length, slice_index, ◌⊎◌}
use Rattle.base_kit.specs.Partition.{Refines}

-- a chain of routers from one to another, each next two together in one of the two partitions
abbrev pub IsChain : ℕ → List ℕ → List ℕ → ℕ → List ℕ → ℕ → Type 0
IsChain count first second u [] w = u ≡ w
IsChain count first second u (v ∷ vs) w =
    (v < count) × ((slice_index first u ≡ slice_index first v) ⊎ (slice_index second u ≡ slice_index second v)) × IsChain count first second v vs w

-- both refine the join, and routers that are together in it are joined by a chain
pub record IsJoinByChains (count : ℕ) (first second join : List ℕ) : Type 0 where
  pub total : length join ≡ count
  pub first_refines : Refines count first join
  pub second_refines : Refines count second join
  pub chained : (u w : ℕ) → u < count → w < count → slice_index join u ≡ slice_index join w → (chain : List ℕ) × IsChain count first second u chain w
