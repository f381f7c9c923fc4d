use Rattle.std.proofs.Common.{◌≡◌, drop}
use Rattle.std.specs.List.{list_all}
use Rattle.cut_certificate.specs.Evenness.{is_matched, is_mirrored}
use Rattle.cut_certificate.proofs.mirrors.unmatched.Given as goal

abbrev pub invariant-loop-p : goal.invariant-loop-p
invariant-loop-p l = list_all (λ p. is_matched l.graph.edges l.numbers l.router l.other p.edge) (drop l.p-index l.list)
    ≡ is_mirrored l.graph.edges l.numbers l.router l.other
