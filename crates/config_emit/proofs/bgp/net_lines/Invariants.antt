use Rattle.std.proofs.Common.{◌≡◌, ◌++◌, drop, map}
use Rattle.config_emit.specs.BgpSteps.{announced}
use Rattle.config_emit.proofs.bgp.net_lines.Given as goal

abbrev pub invariant-loop-prefix : goal.invariant-loop-prefix
invariant-loop-prefix l = l.lines ++ map announced (drop l.prefix-index l.prefixes) ≡ map announced l.prefixes
