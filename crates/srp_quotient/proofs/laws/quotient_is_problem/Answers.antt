use Rattle.srp_quotient.specs.Groups.{small_of}
use Rattle.srp_quotient.proofs.Quotient.{quotient_is_quotient}
use Rattle.srp_quotient.proofs.Rules.{keeps_tables}
use Rattle.srp_quotient.proofs.laws.quotient_is_problem.Goals as goal

pub returns : goal.returns
returns c = λ problem groups count good adm numbered few.
    c.quotient_is_problem.ensures problem (small_of problem groups count) groups good adm (quotient_is_quotient problem groups count good adm numbered)
    (keeps_tables problem groups count good adm numbered few)
