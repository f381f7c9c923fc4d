-- The members of all blocks among the first routers.
use Rattle.std.specs.Prelude.{◌≡◌, ℕ, ◌+◌, ◌<◌, List, length, slice_index_or}
use Rattle.base_kit.specs.Partition.{members_among}

-- each block, numbered from 1, has its members among the first routers
pub record AreGroupsAmong (count : ℕ) (numbers : List ℕ) (groups : List (List ℕ)) : Type 0 where
  pub each : (k : ℕ) (d : List ℕ) → k < length groups → slice_index_or groups k d ≡ members_among count numbers (k + 1)
