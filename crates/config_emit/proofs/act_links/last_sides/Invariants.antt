use Rattle.std.proofs.Common.{take}
use Rattle.config_emit.specs.ActLinks.{AreLastSides}
use Rattle.config_emit.proofs.act_links.last_sides.Given as goal

abbrev pub invariant-loop-link : goal.invariant-loop-link
invariant-loop-link l = AreLastSides l.last (take l.link-index l.links)
