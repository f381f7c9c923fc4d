use Rattle.std.proofs.Common.{◌≡◌, map, is_some, take}
use Rattle.srp_questions.proofs.marks.origins.Given as goal

abbrev pub invariant-loop-init : goal.invariant-loop-init
invariant-loop-init l = l.flags.items ≡ map is_some (take l.init-index l.init-items)
