use Rattle.std.proofs.Common.{◌≡◌, ℕ, ◌<◌, true}
use Rattle.std.specs.Prelude.{slice_index, slice_index_or, false}
use Rattle.srp_core.proofs.keys.has_marked_number.Given as goal

abbrev pub invariant-loop-i : goal.invariant-loop-i
invariant-loop-i l = (k : ℕ) → k < l.i → slice_index_or l.marks k false ≡ true → slice_index l.numbers k ≡ l.wanted → ⊥
