use Rattle.std.proofs.Common.{arith}
use Rattle.std.proofs.lemmas.Bool.Decides.{nat_tests}
use Rattle.policy_dd.proofs.SeveralLemmas.{some_accepted, none_accepted}
use Rattle.policy_dd.proofs.edge.accepts_some.Goals as goal

pub returns-clause-some : goal.returns-clause-some
returns-clause-some c = λ f of_a is. some_accepted _ c.len-known.ensures.shown _ f of_a c.constant.result c.constant.ensures.constant (grind (arith, nat_tests))

pub returns-clause-none : goal.returns-clause-none
returns-clause-none c = λ f of_a is. none_accepted _ _ f of_a c.constant.result c.constant.ensures.constant (grind (arith, nat_tests))
