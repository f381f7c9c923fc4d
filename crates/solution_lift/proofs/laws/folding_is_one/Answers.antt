use Rattle.solution_lift.proofs.Carries.{one_folding}
use Rattle.solution_lift.proofs.laws.folding_is_one.Goals as goal

pub returns : goal.returns
returns c = λ problem small groups labels good small_good adm q stable first second a b.
    one_folding problem small groups labels first second q
    (λ bgp x y. c.folds.ensures.determined problem small groups labels first second good small_good adm q bgp stable x y) a b
