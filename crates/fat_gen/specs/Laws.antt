-- What holds of every fat tree.
use Rattle.std.specs.Prelude.{◌≡◌, ℕ, ◌*◌, length}
use Rattle.fat_gen.specs.Switches.{switches}
use Rattle.fat_gen.specs.Cables.{cables}

-- for the size k = 2 h there are 5 k k / 4 = 5 h h switches, and k k k / 2 = 4 h h h cables
pub record HasCounts (half : ℕ) : Type 0 where
  pub switches : length (switches half) ≡ 5 * (half * half)
  pub cables : length (cables half) ≡ 4 * (half * half * half)

abbrev pub CountsByHalf : Type 0
CountsByHalf = (half : ℕ) → HasCounts half
