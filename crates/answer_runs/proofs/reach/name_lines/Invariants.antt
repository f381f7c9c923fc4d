use Rattle.std.proofs.Common.{◌≡◌, take, string_bytes}
use Rattle.srp_core.specs.Problem.{count}
use Rattle.route_run.specs.Schedules.{run_of}
use Rattle.answer_runs.specs.Reaches.{name_lines}
use Rattle.answer_runs.proofs.reach.name_lines.Given as goal

abbrev pub invariant-loop-activation : goal.invariant-loop-activation
invariant-loop-activation l = string_bytes l.text ≡ name_lines l.problem (run_of (count l.problem) (take l.activation-index l.schedule))
