-- Searching a range of numbers from its front.
use Rattle.std.proofs.Common.{◌≡◌, ℕ, suc, ◌+◌, ◌-◌, ◌<◌, Bool, true, false, Some, refl, arith}
use Rattle.std.specs.List.{find, range_with_len}

pub find_here : (test : ℕ → Bool) (i n : ℕ) → i < n → test i ≡ true → find test (range_with_len i (n - i)) ≡ Some i
find_here test i n lt holds = let s : n - i ≡ suc (n - (i + 1)) = omega arith in rw (s, holds) refl

pub find_next : (test : ℕ → Bool) (i n : ℕ) → i < n → test i ≡ false → find test (range_with_len i (n - i)) ≡ find test (range_with_len (i + 1) (n - (i + 1)))
find_next test i n lt fails = let s : n - i ≡ suc (n - (i + 1)) = omega arith in rw (s, fails) refl
