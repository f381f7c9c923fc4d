use Rattle.std.proofs.Common.{◌≡◌, take, filter_map}
use Rattle.cfg_check.specs.Processes.{numbered_of}
use Rattle.cfg_check.proofs.processes.numbers_of.Given as goal

abbrev pub invariant-loop-router : goal.invariant-loop-router
invariant-loop-router l = l.all.items ≡ filter_map numbered_of (take l.router-index l.routers)
