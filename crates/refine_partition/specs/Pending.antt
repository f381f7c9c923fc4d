-- The blocks that wait for their turn.
use Rattle.std.specs.Prelude.{◌≡◌, ◌≢◌, ℕ, ◌+◌, ◌*◌, ◌<◌, ◌≤◌, List, [], length, slice_index, slice_index_or, Bool, true, false, Contains, All, ◌⊎◌}
use Rattle.base_kit.specs.declared.act_graph.ActGraph.{ActGraph}
use Rattle.base_kit.specs.Partition.{color, members_of, IsAdmissibleOn, Refines}
use Rattle.refine_partition.specs.Loose.{AreRenamed}
use Rattle.refine_partition.specs.Runs.{taken_at, IsRun, IsTaken}
use Rattle.refine_partition.specs.Splits.{ActAlike}
use Rattle.refine_partition.specs.Splitting.{blocks_of}

-- no block stands twice in the queue
abbrev pub HasEachOnce : List ℕ → Type 0
HasEachOnce queue = (i j : ℕ) → i < j → j < length queue → slice_index queue i ≢ slice_index queue j

-- the blocks that are marked as waiting, and only they, stand in the queue, each once
pub record AreMarked (queue : List ℕ) (waits : List Bool) : Type 0 where
  pub marked : (block : ℕ) → block < length waits → slice_index_or waits block false ≡ true → Contains queue block
  pub only : (block : ℕ) → Contains queue block → slice_index_or waits block false ≡ true
  pub once : HasEachOnce queue

-- all blocks wait, each once
pub record AreAllWaiting (count : ℕ) (queue : List ℕ) (waits : List Bool) : Type 0 where
  pub size : length waits ≡ count
  pub marks : All (λ w. w ≡ true) waits
  pub few : length queue ≡ count
  pub once : HasEachOnce queue
  pub all : (block : ℕ) → block < count → Contains queue block
  pub known : All (λ block. block < count) queue

-- the block waits too, with all that waited before
pub record IsWaiting (old new : List ℕ) (block : ℕ) : Type 0 where
  pub waits : Contains new block
  pub kept : (other : ℕ) → Contains old other → Contains new other
  pub only : (other : ℕ) → Contains new other → Contains old other ⊎ (other ≡ block)
  pub once : ¬ Contains old block → HasEachOnce old → HasEachOnce new
  pub few : length new ≤ length old + 1

-- all pieces of the divided blocks wait, with all that waited before
pub record ArePiecesWaiting (old new : List ℕ) (before : ℕ) (origins : List ℕ) : Type 0 where
  pub further : (k : ℕ) → k < length origins → Contains new (before + k)
  pub divided : (k : ℕ) → k < length origins → Contains new (slice_index origins k)
  pub kept : (other : ℕ) → Contains old other → Contains new other
  pub only : (block : ℕ) → Contains new block →
      Contains old block ⊎ ((k : ℕ) × (k < length origins) × ((block ≡ before + k) ⊎ (block ≡ slice_index origins k)))
  pub known : (bound : ℕ) → All (λ block. block < bound) old → All (λ block. block < bound) origins → before + length origins ≤ bound →
      All (λ block. block < bound) new
  pub few : length new ≤ length old + 2 * length origins

-- the members of each other block have edges of the same acts into this one
pub record IsEven (graph : ActGraph) (numbers : List ℕ) (block : ℕ) : Type 0 where
  pub alike : (u v : ℕ) → u < graph.count → v < graph.count → slice_index numbers u ≡ slice_index numbers v → slice_index numbers u ≢ block →
      ActAlike graph.edges numbers block u v

-- Between turns: each block has one color, every admissible partition refines the blocks, and where a
-- block does not wait all others are even towards it.
pub record IsRefining (graph : ActGraph) (numbers : List ℕ) (count : ℕ) (queue : List ℕ) : Type 0 where
  pub total : length numbers ≡ graph.count
  pub below : (u : ℕ) → u < graph.count → slice_index numbers u < count
  pub small : count ≤ graph.count
  pub colors : (u v : ℕ) → u < graph.count → v < graph.count → slice_index numbers u ≡ slice_index numbers v → color graph u ≡ color graph v
  pub refined : (others : List ℕ) → IsAdmissibleOn graph others → Refines graph.count others numbers
  pub even : (block : ℕ) → block < count → ¬ Contains queue block → IsEven graph numbers block
  pub known : All (λ block. block < count) queue

-- between turns: the blocks are those to which so many splits lead, under other numbers
pub record AreSplitSoFar (graph : ActGraph) (splits : ℕ) (slots : List ℕ) (count : ℕ) : Type 0 where
  pub history : List (List (List ℕ))
  pub taken : List ℕ
  pub run : IsRun graph splits history taken
  pub numbers : List ℕ
  pub renamed : AreRenamed count slots numbers
  pub last : slice_index_or history splits [] ≡ blocks_of numbers count

-- The members of a block that was taken. Each block is inside them or apart from them, and no block that
-- waits has just these members.
pub record IsPast (numbers queue past : List ℕ) : Type 0 where
  pub whole : (u v : ℕ) → u < length numbers → v < length numbers → slice_index numbers u ≡ slice_index numbers v → Contains past u → Contains past v
  pub over : (block : ℕ) → Contains queue block → members_of numbers block ≢ past

-- between turns: no block that was taken waits, and each block that does not wait was taken
pub record AreTakenOnce (graph : ActGraph) (splits : ℕ) (slots : List ℕ) (count : ℕ) (queue : List ℕ) : Type 0 where
  pub so_far : AreSplitSoFar graph splits slots count
  pub past : (k : ℕ) → k < splits → IsPast slots queue (taken_at so_far.history so_far.taken k)
  pub done : (block : ℕ) → block < count → ¬ Contains queue block → IsTaken splits so_far.history so_far.taken (members_of slots block)

-- after the last turn: each block was taken
pub record AreAllTaken (graph : ActGraph) (splits : ℕ) (slots : List ℕ) (count : ℕ) : Type 0 where
  pub so_far : AreSplitSoFar graph splits slots count
  pub below : (u : ℕ) → u < graph.count → slice_index slots u < count
  pub all : (block : ℕ) → block < count → IsTaken splits so_far.history so_far.taken (members_of slots block)
