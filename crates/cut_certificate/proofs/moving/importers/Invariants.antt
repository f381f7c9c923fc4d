use Rattle.std.proofs.Common.{take}
use Rattle.cut_certificate.specs.Moves.{HasImporters}
use Rattle.cut_certificate.proofs.moving.importers.Given as goal

abbrev pub invariant-loop-exporter : goal.invariant-loop-exporter
invariant-loop-exporter l = HasImporters l.incoming (take l.exporter-index l.list) l.act l.found.items
