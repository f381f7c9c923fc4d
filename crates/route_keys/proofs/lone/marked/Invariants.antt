use Rattle.std.proofs.Common.{◌≡◌, ◌≤◌, ℕ, length, drop, nat_eq}
use Rattle.std.specs.HashSet.{contains}
use Rattle.srp_core.specs.Problem.{has_marked_number}
use Rattle.route_keys.proofs.lone.marked.Given as goal

-- the numbers of the marked routers from here on
abbrev pub invariant-loop-place : goal.invariant-loop-place
invariant-loop-place l = record {
  inside : l.place ≤ length l.marks;
  members : (n : ℕ) → contains nat_eq l.set n ≡ has_marked_number (drop l.place l.marks) (drop l.place l.numbers) n;
}

abbrev pub decreases-loop-place : goal.decreases-loop-place
decreases-loop-place l = l.place
