-- The blocks that edges reach, and their members.
use Rattle.std.specs.Prelude.{◌≡◌, ℕ, ◌<◌, List, length, slice_index, All, Contains}
use Rattle.refine_partition.specs.Splits.{StandsBeforeByBlock}

-- the block of one of these routers
pub record IsTouched (numbers routers : List ℕ) (block : ℕ) : Type 0 where
  pub router : ℕ
  pub listed : Contains routers router
  pub is : slice_index numbers router ≡ block

-- the blocks of the routers, and only those
pub record AreTouched (numbers routers blocks : List ℕ) : Type 0 where
  pub only : All (IsTouched numbers routers) blocks
  pub all : All (λ u. Contains blocks (slice_index numbers u)) routers

-- the router is in one of the blocks
pub record IsInBlocks (numbers blocks : List ℕ) (router : ℕ) : Type 0 where
  pub below : router < length numbers
  pub block : Contains blocks (slice_index numbers router)

-- the members of the blocks, in the order of the blocks and within each block ascending
pub record IsQueue (numbers blocks routers : List ℕ) : Type 0 where
  pub only : All (IsInBlocks numbers blocks) routers
  pub all : (router : ℕ) → IsInBlocks numbers blocks router → Contains routers router
  pub in_order : (i j : ℕ) → i < j → j < length routers → StandsBeforeByBlock numbers (slice_index routers i) (slice_index routers j)
