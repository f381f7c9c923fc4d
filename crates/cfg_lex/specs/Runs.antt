-- Runs of bytes of one kind, among some that are looked at together.
use Rattle.std.specs.Prelude.{◌≡◌, ℕ, ◌+◌, ◌<◌, ◌≤◌, Bool, true, false, List, ◌==◌, if◌then◌else◌, slice_index}
use Rattle.std.specs.Int.{w64, trailing_zeros}

-- the place of the lowest bit that is set, or n
abbrev pub first_set : ℕ → ℕ → ℕ
first_set mask n = if mask == 0 then n else trailing_zeros w64 mask

-- of the n bytes from a place on so many pass the test, and the next one, if it is among them, fails it
pub record IsRunIn (test : ℕ → Bool) (bs : List ℕ) (at n run : ℕ) : Type 0 where
  pub bound : run ≤ n
  pub pass : (k : ℕ) → at ≤ k → k < at + run → test (slice_index bs k) ≡ true
  pub stops : run < n → test (slice_index bs (at + run)) ≡ false
