-- Blocks that have members.
use Rattle.std.specs.Prelude.{◌≡◌, ℕ, ◌<◌, ◌≤◌, true, List, length, All}
use Rattle.base_kit.specs.Sets.{has}

-- the blocks are numbered from 1, and each has a member, so there are no more blocks than routers
pub record AreInUse (numbers : List ℕ) (count : ℕ) : Type 0 where
  pub known : All (λ number. (0 < number) × (number ≤ count)) numbers
  pub used : (block : ℕ) → 0 < block → block ≤ count → has numbers block ≡ true
  pub few : count ≤ length numbers
