use Rattle.std.proofs.Common.{◌≡◌, true, sym, arith}
use Rattle.dd_core.proofs.RestrictLemmas.{constant_restricted, high_restricted, low_restricted, high_stays_above, low_stays_above, choice_restricted}
use Rattle.dd_core.proofs.restrict.restricted_place.Goals as goal

pub choice-requires-clause-high_above : goal.choice-requires-clause-high_above
choice-requires-clause-high_above c =
    let marked : c.args.marked ≡ true = grind arith in
    high_stays_above _ c.requires.store _ _ _ _ _ c.in-Choice.ensures _ ((c.requires.sons marked).high_is _ _ _ c.in-Choice.ensures)

pub choice-requires-clause-low_above : goal.choice-requires-clause-low_above
choice-requires-clause-low_above c =
    let marked : c.args.marked ≡ true = grind arith in
    low_stays_above _ c.requires.store _ _ _ _ _ c.in-Choice.ensures _ ((c.requires.sons marked).low_is _ _ _ c.in-Choice.ensures)

pub returns-in-Constant-clause-made : goal.returns-in-Constant-clause-made
returns-in-Constant-clause-made c = λ marked. constant_restricted _ _ _ _ c.in-Constant.ensures

pub returns-in-Some-true-clause-made : goal.returns-in-Some-true-clause-made
returns-in-Some-true-clause-made c = λ marked. high_restricted _ c.requires.store _ _ _ _ _ c.in-Choice.ensures _
    (sym (rw c.in-Some-true.field-0-test at c.in-Some-true.ensures)) ((c.requires.sons marked).high_is _ _ _ c.in-Choice.ensures)

pub returns-in-Some-false-clause-made : goal.returns-in-Some-false-clause-made
returns-in-Some-false-clause-made c = λ marked. low_restricted _ c.requires.store _ _ _ _ _ c.in-Choice.ensures _
    (sym (rw c.in-Some-false.field-0-test at c.in-Some-false.ensures)) ((c.requires.sons marked).low_is _ _ _ c.in-Choice.ensures)

pub returns-in_ok-node-in-None-clause-made :
    goal.returns-in_ok-node-in-None-clause-made
returns-in_ok-node-in-None-clause-made c = λ marked.
    choice_restricted _ c.requires.store _ _ _ _ _ c.in-Choice.ensures _ _ _ _ c.in_ok-node-in-None.ensures.extends (sym c.in-None.ensures)
    ((c.requires.sons marked).high_is _ _ _ c.in-Choice.ensures) ((c.requires.sons marked).low_is _ _ _ c.in-Choice.ensures)
    c.in_ok-node-in-None.ensures.choice
