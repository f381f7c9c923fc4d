-- Addresses of interfaces as contracts see them.
use Rattle.std.specs.Prelude.{ℕ}

-- an address, the length of its mask, and the number of its line
pub record Address : Type 0 where
  pub addr : ℕ
  pub len : ℕ
  pub line : ℕ
