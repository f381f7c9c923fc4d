use Rattle.std.proofs.Common.{◌≡◌, drop}
use Rattle.std.specs.Prelude.{◌==◌}
use Rattle.std.specs.List.{find}
use Rattle.cut_certificate.proofs.lines.edge_over.Given as goal

abbrev pub invariant-loop-p : goal.invariant-loop-p
invariant-loop-p l = find (λ p. p.edge.link == l.link) (drop l.p-index l.list) ≡ find (λ p. p.edge.link == l.link) l.list
