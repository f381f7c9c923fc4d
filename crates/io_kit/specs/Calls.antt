-- Counting in 64 bits.
use Rattle.std.specs.Prelude.{ℕ, ◌+◌, ◌-◌, ◌^◌, min}

-- one more, up to the last value of a counter
abbrev pub up : ℕ → ℕ
up count = min (count + 1) (2 ^ 64 - 1)
