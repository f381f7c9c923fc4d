-- Splits one after the other.
use Rattle.std.specs.Prelude.{◌≡◌, ◌≢◌, ℕ, ◌+◌, ◌<◌, List, [], length, slice_index, slice_index_or}
use Rattle.base_kit.specs.declared.act_graph.ActGraph.{ActGraph}
use Rattle.base_kit.specs.Partition.{Refines}
use Rattle.refine_partition.specs.Splitting.{AreNumbersOf, IsSplitOf, IsStartOf}

-- the members of the block that split number `k` takes
abbrev pub taken_at : List (List (List ℕ)) → List ℕ → ℕ → List ℕ
taken_at history taken k = slice_index_or (slice_index_or history k []) (slice_index taken k) []

-- the blocks before the first split and after each: so many splits, with the number of the block that each takes
pub record IsRun (graph : ActGraph) (splits : ℕ) (history : List (List (List ℕ))) (taken : List ℕ) : Type 0 where
  pub size : length history ≡ splits + 1
  pub counted : length taken ≡ splits
  pub start : IsStartOf graph (slice_index_or history 0 [])
  pub known : (k : ℕ) → k < splits → slice_index taken k < length (slice_index_or history k [])
  pub each : (k : ℕ) → k < splits → IsSplitOf graph (slice_index taken k) (slice_index_or history k []) (slice_index_or history (k + 1) [])
  -- no block, as its list of members, is taken twice
  pub fresh : (j k : ℕ) → j < k → k < splits → taken_at history taken j ≢ taken_at history taken k

-- one of the splits takes a block of these members
abbrev pub IsTaken : ℕ → List (List (List ℕ)) → List ℕ → List ℕ → Type 0
IsTaken splits history taken members = (k : ℕ) × (k < splits) × (taken_at history taken k ≡ members)

-- The groups are the blocks to which so many splits lead from the start, each by another block. Each of
-- these blocks was taken with the members that it has at the end.
pub record AreReachedBy (graph : ActGraph) (splits : ℕ) (groups : List ℕ) : Type 0 where
  pub history : List (List (List ℕ))
  pub taken : List ℕ
  pub run : IsRun graph splits history taken
  pub complete : (block : ℕ) → block < length (slice_index_or history splits []) →
      IsTaken splits history taken (slice_index_or (slice_index_or history splits []) block [])
  pub numbers : List ℕ
  pub are : AreNumbersOf graph.count (slice_index_or history splits []) numbers
  pub finer : Refines graph.count groups numbers
  pub coarser : Refines graph.count numbers groups
