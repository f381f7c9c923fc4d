use Rattle.dd_core.proofs.StoreLemmas.{extends_refl}
use Rattle.dd_core.proofs.FixedLemmas.{leads_restricted, unfixed_restricted}
use Rattle.dd_core.proofs.restrict.restricted_node.Goals as goal

pub returns-then-is_unfixed-clause-restricted :
    goal.returns-then-is_unfixed-clause-restricted
returns-then-is_unfixed-clause-restricted c =
    let leads = c.after_fixed-place.ensures in
    leads_restricted _ _ _ _ _ _ (extends_refl _) c.requires.inside leads
    (unfixed_restricted _ _ _ c.requires.store leads.inside (c.is_unfixed.ensures c.if-is_unfixed.true))

pub returns-clause-restricted : goal.returns-clause-restricted
returns-clause-restricted c =
    leads_restricted _ _ _ _ _ _ c.in_ok-node.ensures.extends c.requires.inside c.after_fixed-place.ensures c.in_ok-node.ensures.restricted
