use Rattle.std.proofs.Common.{◌≡◌, drop}
use Rattle.std.specs.List.{list_all}
use Rattle.cut_certificate.specs.Evenness.{mirror_each_other}
use Rattle.cut_certificate.proofs.mirrors.is_even.Given as goal

abbrev pub invariant-loop-router : goal.invariant-loop-router
invariant-loop-router l = list_all (mirror_each_other l.graph.edges l.numbers l.first) (drop l.router-index l.rest)
    ≡ list_all (mirror_each_other l.graph.edges l.numbers l.first) l.rest
