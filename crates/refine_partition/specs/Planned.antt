-- The blocks of a splitting, and what a split by one of them changes.
use Rattle.std.specs.Prelude.{◌≡◌, ℕ, ◌+◌, ◌<◌, List, length, slice_index, All, Contains, Vec}
use Rattle.std.specs.declared.alloc.Global.{Global}
use Rattle.std.specs.List.Sorted.{IsStrictlyIncreasing}
use Rattle.base_kit.specs.declared.act_graph.ActGraph.{ActGraph}
use Rattle.refine_partition.specs.Members.{AreBlocks}
use Rattle.refine_partition.specs.Splits.{IsSplit}

-- numbered blocks, none of which is empty
pub record AreNumbered (numbers : List ℕ) (blocks : List (Vec ℕ Global)) : Type 0 where
  pub members : AreBlocks numbers blocks
  pub below : All (λ number. number < length blocks) numbers
  pub nonempty : (block : ℕ) → block < length blocks → (u : ℕ) × (u < length numbers) × (slice_index numbers u ≡ block)

-- what a split changes: the numbers, for each further piece the block that it comes from, and the
-- blocks whose members it looked at
pub record IsPlanned (graph : ActGraph) (taken : ℕ) (numbers : List ℕ) (before : ℕ) (next origins touched : List ℕ) : Type 0 where
  pub split : IsSplit graph taken numbers next before (before + length origins)
  pub origin : (u k : ℕ) → u < graph.count → slice_index next u ≡ before + k → slice_index origins k ≡ slice_index numbers u
  pub known : All (λ block. block < before) touched
  pub in_order : IsStrictlyIncreasing touched
  pub rest : (u : ℕ) → u < graph.count → ¬ Contains touched (slice_index numbers u) → slice_index next u ≡ slice_index numbers u
