use Rattle.std.proofs.Common.{sym}
use Rattle.dd_core.proofs.FixedLemmas.{leads_itself, leads_high, leads_low}
use Rattle.dd_core.proofs.restrict.after_fixed.Goals as goal

pub loop-variable-init : goal.loop-variable-init
loop-variable-init c = leads_itself _ _ _ c.requires.inside

pub loop-variable-smaller-in-Some-true : goal.loop-variable-smaller-in-Some-true
loop-variable-smaller-in-Some-true c = (c.requires.store.reduced _ _ _ _ c.in-Choice.ensures).high_before

pub loop-variable-smaller : goal.loop-variable-smaller
loop-variable-smaller c = (c.requires.store.reduced _ _ _ _ c.in-Choice.ensures).low_before

pub loop-variable-preserved-in-Some-true : goal.loop-variable-preserved-in-Some-true
loop-variable-preserved-in-Some-true c =
    leads_high _ c.requires.store _ _ _ _ _ _ c.in-Choice.ensures c.loop-variable.invariant (sym (rw c.in-Some-true.field-0-test at c.in-Some-true.ensures))

pub loop-variable-preserved : goal.loop-variable-preserved
loop-variable-preserved c =
    leads_low _ c.requires.store _ _ _ _ _ _ c.in-Choice.ensures c.loop-variable.invariant (sym (rw c.in-Some-false.field-0-test at c.in-Some-false.ensures))
