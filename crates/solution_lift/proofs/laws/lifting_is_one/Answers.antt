use Rattle.std.proofs.Common.{sym, ◌∙◌}
use Rattle.solution_lift.proofs.Carries.{one_lifting}
use Rattle.solution_lift.proofs.laws.lifting_is_one.Goals as goal

pub returns : goal.returns
returns c = λ problem small groups lower good small_good adm q stable first second a b.
    one_lifting problem small groups lower first second
    (λ bgp x y. c.lifts.ensures.determined problem small groups first second lower good small_good adm q (sym q.protocol ∙ bgp) stable x y) a b
