use Rattle.std.proofs.Common.{◌≡◌, flat_map, take}
use Rattle.std.specs.Prelude.{string_bytes}
use Rattle.std.specs.List.{enumerate_from}
use Rattle.solution_answers.specs.Forwarding.{hops_line}
use Rattle.solution_answers.proofs.hops.hops_text.Given as goal

abbrev pub invariant-loop-router : goal.invariant-loop-router
invariant-loop-router l = string_bytes l.text ≡ flat_map (hops_line l.srp.names l.fn.labels) (enumerate_from 0 (take l.router l.hops))
