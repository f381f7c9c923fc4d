use Rattle.std.proofs.Common.{◌≡◌, take, false}
use Rattle.route_run.specs.Activations.{is_held}
use Rattle.route_run.proofs.choosing.is_plain_held.Given as goal

abbrev pub invariant-loop-candidate : goal.invariant-loop-candidate
invariant-loop-candidate l = is_held (take l.candidate-index l.candidates) l.route ≡ false
