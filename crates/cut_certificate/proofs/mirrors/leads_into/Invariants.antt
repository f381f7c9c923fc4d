use Rattle.std.proofs.Common.{◌≡◌, drop}
use Rattle.std.specs.List.{list_any}
use Rattle.cut_certificate.specs.Blocks.{leads_into}
use Rattle.cut_certificate.proofs.mirrors.leads_into.Given as goal

abbrev pub invariant-loop-p : goal.invariant-loop-p
invariant-loop-p l = list_any (λ p. leads_into l.numbers l.block l.act p.edge) (drop l.p-index l.list)
    ≡ list_any (λ p. leads_into l.numbers l.block l.act p.edge) l.list
