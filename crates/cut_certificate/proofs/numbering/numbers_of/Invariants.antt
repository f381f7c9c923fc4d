use Rattle.std.proofs.Common.{nat_eq}
use Rattle.std.specs.HashMap.{get}
use Rattle.cut_certificate.proofs.NextNumber.{AreNumbered}
use Rattle.cut_certificate.proofs.numbering.numbers_of.Given as goal

abbrev pub invariant-loop-key : goal.invariant-loop-key
invariant-loop-key l = AreNumbered l.keys l.numbers.items l.count l.key-index (λ key. get nat_eq l.names key)
