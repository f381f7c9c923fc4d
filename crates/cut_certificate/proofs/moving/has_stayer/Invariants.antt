use Rattle.std.proofs.Common.{◌-◌, length}
use Rattle.cut_certificate.proofs.Staying.{Looking}
use Rattle.cut_certificate.proofs.moving.has_stayer.Given as goal

abbrev pub invariant-loop-place : goal.invariant-loop-place
invariant-loop-place l = Looking l.graph.edges l.numbers l.initial.list.items l.list.items l.split.block l.split.by l.act l.place

abbrev pub decreases-loop-place : goal.decreases-loop-place
decreases-loop-place l = length l.list.items - l.place
