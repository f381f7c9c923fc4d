use Rattle.std.proofs.Common.{◌≡◌, ℕ, ◌-◌, ◌<◌, ◌≤◌, true}
use Rattle.std.specs.Prelude.{slice_index}
use Rattle.cut_certificate.specs.Evenness.{mirror_each_other}
use Rattle.cut_certificate.proofs.certifying.next_parting.Given as goal

-- each router so far and its leader mirror each other
abbrev pub invariant-loop-router : goal.invariant-loop-router
invariant-loop-router l = (u : ℕ) → l.from ≤ u → u < l.router
    → mirror_each_other l.graph.edges l.numbers (slice_index l.leaders (slice_index l.numbers u - 1)) u ≡ true
