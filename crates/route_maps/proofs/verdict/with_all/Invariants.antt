use Rattle.std.proofs.Common.{◌≡◌, drop}
use Rattle.base_kit.specs.Sets.{with_numbers}
use Rattle.route_maps.proofs.verdict.with_all.Given as goal

abbrev pub invariant-loop-c : goal.invariant-loop-c
invariant-loop-c l = with_numbers (drop l.c-index l.c-items) l.all ≡ with_numbers l.c-items l.fn.comms
