use Rattle.std.proofs.Common.{◌≡◌, drop}
use Rattle.std.specs.List.{list_all}
use Rattle.cut_certificate.specs.Evenness.{is_even}
use Rattle.cut_certificate.proofs.mirrors.are_even.Given as goal

abbrev pub invariant-loop-group : goal.invariant-loop-group
invariant-loop-group l = list_all (is_even l.graph.edges l.numbers) (drop l.group-index l.groups) ≡ list_all (is_even l.graph.edges l.numbers) l.groups
