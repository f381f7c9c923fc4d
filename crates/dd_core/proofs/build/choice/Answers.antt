use Rattle.dd_core.proofs.StoreLemmas.{interned_store, interned_choice, interned_extends}
use Rattle.dd_core.proofs.build.choice.Goals as goal

pub returns-clause-store : goal.returns-clause-store
returns-clause-store c =
    interned_store _ _ _ _ _ c.requires.store c.requires.high_inside c.requires.low_inside c.if-high-low.false c.requires.high_above c.requires.low_above
    c.in_ok-place.ensures.distinct c.in_ok-place.ensures.grown

pub returns-clause-choice : goal.returns-clause-choice
returns-clause-choice c =
    interned_choice _ _ _ _ _ _ (returns-clause-store c) (interned_extends _ _ _ c.in_ok-place.ensures.grown) c.requires.high_inside c.requires.low_inside
    c.in_ok-place.ensures.found
