use Rattle.srp_core.proofs.QuotientRules as rules_kept
use Rattle.srp_core.proofs.laws.quotient_is_problem.Goals as goal

pub returns : goal.returns
returns c = λ problem small groups good adm q tables. rules_kept.quotient_problem problem good groups adm small q tables
