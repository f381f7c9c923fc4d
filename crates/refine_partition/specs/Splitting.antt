-- A splitting: the routers of a graph in numbered blocks, each an ascending list of routers.
use Rattle.std.specs.Prelude.{◌≡◌, ℕ, ◌<◌, List, length, map, All}
use Rattle.std.specs.List.{range_with_len}
use Rattle.base_kit.specs.declared.act_graph.ActGraph.{ActGraph}
use Rattle.base_kit.specs.Partition.{members_of}
use Rattle.refine_partition.specs.Splits.{IsSplit, IsStart}

-- the blocks that the numbers of the routers' blocks give
abbrev pub blocks_of : List ℕ → ℕ → List (List ℕ)
blocks_of numbers count = map (members_of numbers) (range_with_len 0 count)

-- so many routers stand in the blocks, each in the one that has its number
pub record AreNumbersOf (count : ℕ) (blocks : List (List ℕ)) (numbers : List ℕ) : Type 0 where
  pub total : length numbers ≡ count
  pub below : All (λ number. number < length blocks) numbers
  pub blocks_are : blocks ≡ blocks_of numbers (length blocks)

-- the blocks are blocks of this graph's routers
pub record IsSplittingOf (graph : ActGraph) (blocks : List (List ℕ)) : Type 0 where
  pub numbers : List ℕ
  pub are : AreNumbersOf graph.count blocks numbers

-- the blocks before the first split
pub record IsStartOf (graph : ActGraph) (blocks : List (List ℕ)) : Type 0 where
  pub numbers : List ℕ
  pub are : AreNumbersOf graph.count blocks numbers
  pub start : IsStart graph numbers (length blocks)

-- the blocks before and after a split by the block `taken`
pub record IsSplitOf (graph : ActGraph) (taken : ℕ) (old new : List (List ℕ)) : Type 0 where
  pub old_numbers : List ℕ
  pub new_numbers : List ℕ
  pub old_are : AreNumbersOf graph.count old old_numbers
  pub new_are : AreNumbersOf graph.count new new_numbers
  pub split : IsSplit graph taken old_numbers new_numbers (length old) (length new)
