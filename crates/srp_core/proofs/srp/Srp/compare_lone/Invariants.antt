use Rattle.std.proofs.Common.{◌≡◌, length}
use Rattle.std.specs.Ordering.{nat_cmp}
use Rattle.std.specs.Cmp.Lexicographic.{slice_cmp}
use Rattle.srp_core.specs.Routes.{chosen}
use Rattle.srp_core.specs.Problem.{is_lone_number}
use Rattle.srp_core.specs.LoneOrder.{rest_above}
use Rattle.srp_core.proofs.srp.Srp.compare_lone.Given as goal

abbrev pub invariant-loop-x : goal.invariant-loop-x
invariant-loop-x l = slice_cmp nat_cmp (rest_above l.bound (chosen (is_lone_number l.self) l.a))
    (rest_above l.bound (chosen (is_lone_number l.self) l.b)) ≡ slice_cmp nat_cmp (chosen (is_lone_number l.self) l.a) (chosen (is_lone_number l.self) l.b)

abbrev pub decreases-loop-x : goal.decreases-loop-x
decreases-loop-x l = length (rest_above l.bound (chosen (is_lone_number l.self) l.a))
