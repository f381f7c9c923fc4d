-- Public: counts of faults that rise.
use Rattle.std.proofs.Common.{◌≡◌, ℕ, ◌-◌, ◌^◌, ◌≤◌, inl, inr, arith}
use Rattle.std.proofs.lemmas.Bool.{cases_lt}
use Rattle.io_kit.specs.Calls.{up}
use Rattle.io_kit.specs.Ends.{Rose}

-- a counter that goes up rises
pub rose_up : (before now : ℕ) → now ≡ up before → Rose before now
rose_up before now is = elim (cases_lt before (2 ^ 64 - 1)) [ inl less ↦ inl (omega (arith, is)) | inr most ↦ inr (omega (arith, is)) ]

-- what rose behind a call rose over both
pub rose_earlier : (before mid now : ℕ) → before ≤ mid → Rose mid now → Rose before now
rose_earlier before mid now le (inl less) = inl (omega arith)
rose_earlier before mid now le (inr most) = inr most

-- what rose stays risen where counts do not fall
pub rose_later : (before mid now : ℕ) → before ≤ mid → mid ≤ now → Rose before mid → Rose before now
rose_later before mid now le after (inl less) = inl (omega arith)
rose_later before mid now le after (inr most) = elim (cases_lt mid now) [ inl less ↦ inl (omega arith) | inr same ↦ inr (omega (arith, most)) ]
