use Rattle.srp_core.proofs.AlikeQuotient as of
use Rattle.srp_core.proofs.laws.alike.labels_of_quotients.Goals as goal

pub returns-clause-correspond : goal.returns-clause-correspond
returns-clause-correspond c = λ problem other small less groups labels lower above below fits fit correspond.
    of.same_correspond problem other small less above below groups labels lower fits fit correspond

pub returns-clause-lift : goal.returns-clause-lift
returns-clause-lift c = λ problem other small less groups labels lower above below lift.
    of.same_lift problem other small less above below groups lower labels lift

pub returns-clause-fold : goal.returns-clause-fold
returns-clause-fold c = λ problem other small less groups labels lower above below fold.
    of.same_fold problem other small less above below groups labels lower fold
