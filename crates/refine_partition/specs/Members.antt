-- The members of all blocks.
use Rattle.std.specs.Prelude.{◌≡◌, ℕ, ◌<◌, List, length, map, slice_index, slice_index_or, All, Contains, Vec}
use Rattle.std.specs.declared.alloc.Global.{Global}
use Rattle.base_kit.specs.Partition.{members_among, members_of}

-- each block has its members among the first routers
pub record AreBlocksAmong (count : ℕ) (numbers : List ℕ) (blocks : List (Vec ℕ Global)) : Type 0 where
  pub each : (block : ℕ) (d : Vec ℕ Global) → block < length blocks → (slice_index_or blocks block d).items ≡ members_among count numbers block

-- each block has its members
pub record AreBlocks (numbers : List ℕ) (blocks : List (Vec ℕ Global)) : Type 0 where
  pub each : (block : ℕ) (d : Vec ℕ Global) → block < length blocks → (slice_index_or blocks block d).items ≡ members_of numbers block

-- all members of a block, in any order, and only them
pub record AreBlockMembers (numbers : List ℕ) (block : ℕ) (routers : List ℕ) : Type 0 where
  pub below : All (λ u. u < length numbers) routers
  pub only : All (λ u. slice_index numbers u ≡ block) routers
  pub all : (u : ℕ) → u < length numbers → slice_index numbers u ≡ block → Contains routers u

-- the lists of blocks
abbrev pub block_lists : List (Vec ℕ Global) → List (List ℕ)
block_lists blocks = map (λ (block : Vec ℕ Global). block.items) blocks
