use Rattle.std.proofs.Common.{take}
use Rattle.cut_certificate.specs.Moves.{AreAdded}
use Rattle.cut_certificate.proofs.moving.add_importers.Given as goal

abbrev pub invariant-loop-p : goal.invariant-loop-p
invariant-loop-p l = AreAdded l.initial.found.items l.found.items (take l.p-index l.edges) l.act
