use Rattle.std.proofs.Common.{take}
use Rattle.cut_certificate.specs.Moves.{AreRenumbered}
use Rattle.cut_certificate.proofs.moving.renumber.Given as goal

abbrev pub invariant-loop-router : goal.invariant-loop-router
invariant-loop-router l = AreRenumbered l.initial.numbers.items (take l.router-index l.movers) l.next l.numbers.items
