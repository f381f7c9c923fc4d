use Rattle.std.proofs.Common.{arith, sym, ◌∙◌}
use Rattle.dd_cache.proofs.Entries.{found-recalled, found-kept}
use Rattle.dd_core.proofs.StoreLemmas.{length_kept}
use Rattle.dd_core.proofs.MemoryLemmas.{memory_extends, memory_keep, memory_recalled, memory_hit, remembered_result}
use Rattle.dd_core.proofs.IteLemmas.{ite_true, ite_false, ite_step, first_of_three, first_within, sons_fall, ite_high_above, ite_low_above}
use Rattle.dd_core.proofs.ite.+remembering.Goals as goal

pub ite-remembered_ite-requires : goal.ite-remembered_ite-requires
ite-remembered_ite-requires t c =
    let three = first_of_three _ _ _ _ _ _ _ _ _ c.in-Choice.ensures c.first_variable.ensures c.first_variable-first.ensures in
    let fall = sons_fall _ _ _ _ _ _ _ _ _ _ _ three c.sons-a_high.ensures c.sons-b_high.ensures c.sons-c_high.ensures in
    let ia = c.requires.a_inside in
    let ib = c.requires.b_inside in
    let ic = c.requires.c_inside in
    let la = c.sons-a_high.ensures.high_not_after in
    let lb = c.sons-b_high.ensures.high_not_after in
    let lc = c.sons-c_high.ensures.high_not_after in
    (omega arith, (c.requires.store, (c.requires.memory, (omega arith, (omega arith, omega arith)))))

pub ite-remembered_ite-requires-in-Choice : goal.ite-remembered_ite-requires-in-Choice
ite-remembered_ite-requires-in-Choice t c =
    let three = first_of_three _ _ _ _ _ _ _ _ _ c.in-Choice.ensures c.first_variable.ensures c.first_variable-first.ensures in
    let fall = sons_fall _ _ _ _ _ _ _ _ _ _ _ three c.sons-a_high.ensures c.sons-b_high.ensures c.sons-c_high.ensures in
    let size = length_kept _ _ c.in_ok-high-in-Choice.ensures.extends in
    let ia = c.requires.a_inside in
    let ib = c.requires.b_inside in
    let ic = c.requires.c_inside in
    let la = c.sons-a_high.ensures.low_not_after in
    let lb = c.sons-b_high.ensures.low_not_after in
    let lc = c.sons-c_high.ensures.low_not_after in
    (omega arith, (c.in_ok-high-in-Choice.ensures.store, (c.in_ok-high-in-Choice.ensures.memory, (omega arith, (omega arith, omega arith)))))

pub ite-choice-requires-clause-high_above :
    goal.ite-choice-requires-clause-high_above
ite-choice-requires-clause-high_above t c =
    let three = first_of_three _ _ _ _ _ _ _ _ _ c.in-Choice.ensures c.first_variable.ensures c.first_variable-first.ensures in
    ite_high_above _ _ _ c.args.table.now _ _ _ _ _ _ _ _ _ _ _ _ 0 c.in_ok-high-in-Choice.ensures.extends c.in_ok-low-in-Choice.ensures.extends
    c.requires.a_inside c.requires.b_inside c.requires.c_inside three c.sons-a_high.ensures c.sons-b_high.ensures c.sons-c_high.ensures
    c.in_ok-high-in-Choice.ensures.ite c.in_ok-low-in-Choice.ensures.ite

pub ite-choice-requires-clause-low_above : goal.ite-choice-requires-clause-low_above
ite-choice-requires-clause-low_above t c =
    let three = first_of_three _ _ _ _ _ _ _ _ _ c.in-Choice.ensures c.first_variable.ensures c.first_variable-first.ensures in
    ite_low_above _ _ _ c.args.table.now _ _ _ _ _ _ _ _ _ _ _ _ 0 c.in_ok-high-in-Choice.ensures.extends c.in_ok-low-in-Choice.ensures.extends
    c.requires.a_inside c.requires.b_inside c.requires.c_inside three c.sons-a_high.ensures c.sons-b_high.ensures c.sons-c_high.ensures
    c.in_ok-high-in-Choice.ensures.ite c.in_ok-low-in-Choice.ensures.ite

pub ite-returns-in_err-place-in-Choice-clause-memory :
    goal.ite-returns-in_err-place-in-Choice-clause-memory
ite-returns-in_err-place-in-Choice-clause-memory t c = memory_extends _ _ _ c.choice.ensures.extends c.in_ok-low-in-Choice.ensures.memory

pub ite-returns-in-Constant-true-clause-ite :
    goal.ite-returns-in-Constant-true-clause-ite
ite-returns-in-Constant-true-clause-ite t c = ite_true _ _ _ _ (rw c.in-Constant-true.field-0-test at c.in-Constant-true.ensures) c.requires.b_inside

pub ite-returns-in-Constant-false-clause-ite :
    goal.ite-returns-in-Constant-false-clause-ite
ite-returns-in-Constant-false-clause-ite t c = ite_false _ _ _ _ (rw c.in-Constant-false.field-0-test at c.in-Constant-false.ensures) c.requires.c_inside

pub ite-returns-in_ok-place-in-Choice-clause-memory :
    goal.ite-returns-in_ok-place-in-Choice-clause-memory
ite-returns-in_ok-place-in-Choice-clause-memory t c = memory_extends _ _ _ c.in_ok-place-in-Choice.ensures.extends c.in_ok-low-in-Choice.ensures.memory

pub ite-returns-in_ok-place-in-Choice-clause-ite :
    goal.ite-returns-in_ok-place-in-Choice-clause-ite
ite-returns-in_ok-place-in-Choice-clause-ite t c =
    let three = first_of_three _ _ _ _ _ _ _ _ _ c.in-Choice.ensures c.first_variable.ensures c.first_variable-first.ensures in
    ite_step _ _ _ _ _ _ _ _ _ _ _ _ _ _ _ _ _ c.in_ok-high-in-Choice.ensures.extends c.in_ok-low-in-Choice.ensures.extends c.requires.a_inside
    c.requires.b_inside c.requires.c_inside three c.sons-a_high.ensures c.sons-b_high.ensures c.sons-c_high.ensures c.in_ok-high-in-Choice.ensures.ite
    c.in_ok-low-in-Choice.ensures.ite c.in_ok-place-in-Choice.ensures.choice

pub ite-returns-in_err-place-in-Choice-clause-within :
    goal.ite-returns-in_err-place-in-Choice-clause-within
ite-returns-in_err-place-in-Choice-clause-within t c = λ bound within.
    let three = first_of_three _ _ _ _ _ _ _ _ _ c.in-Choice.ensures c.first_variable.ensures c.first_variable-first.ensures in
    c.in_err-place-in-Choice.ensures.within bound (first_within _ _ _ _ _ bound three within)
    (c.in_ok-low-in-Choice.ensures.within bound (c.in_ok-high-in-Choice.ensures.within bound within))

pub ite-returns-in_ok-place-in-Choice-clause-within :
    goal.ite-returns-in_ok-place-in-Choice-clause-within
ite-returns-in_ok-place-in-Choice-clause-within t c = λ bound within.
    let three = first_of_three _ _ _ _ _ _ _ _ _ c.in-Choice.ensures c.first_variable.ensures c.first_variable-first.ensures in
    c.in_ok-place-in-Choice.ensures.within bound (first_within _ _ _ _ _ bound three within)
    (c.in_ok-low-in-Choice.ensures.within bound (c.in_ok-high-in-Choice.ensures.within bound within))

pub remembered_ite-returns-in-Some-clause-memory :
    goal.remembered_ite-returns-in-Some-clause-memory
remembered_ite-returns-in-Some-clause-memory t c = rw c.in-Some.ensures.front (memory_recalled _ _ c.args.key c.requires.memory)

pub remembered_ite-returns-in-Some-clause-ite :
    goal.remembered_ite-returns-in-Some-clause-ite
remembered_ite-returns-in-Some-clause-ite t c = memory_hit _ _ c.args.key c.in-Some.place c.requires.memory (sym c.in-Some.ensures.node)

pub remembered_ite-returns-in-Some-clause-kept :
    goal.remembered_ite-returns-in-Some-clause-kept
remembered_ite-returns-in-Some-clause-kept t c = rw c.in-Some.ensures.front (found-recalled c.args.key c.args.cache.now.entries ∙ sym c.in-Some.ensures.node)

pub remembered_ite-ite-requires : goal.remembered_ite-ite-requires
remembered_ite-ite-requires t c =
    let ia = c.requires.a_inside in
    let ib = c.requires.b_inside in
    let ic = c.requires.c_inside in
    (omega arith, (c.requires.store, (rw c.recall.ensures.front (memory_recalled _ _ c.args.key c.requires.memory), (ia, (ib, ic)))))

pub remembered_ite-returns-clause-memory : goal.remembered_ite-returns-clause-memory
remembered_ite-returns-clause-memory t c =
    rw c.in_ok-keep.ensures.ok (memory_keep _ _ _ _ _ c.in_ok-place.ensures.memory
    (remembered_result _ _ _ _ c.in_ok-place.ensures.extends c.requires.a_inside c.requires.b_inside c.requires.c_inside c.in_ok-place.ensures.ite))

pub remembered_ite-returns-clause-kept : goal.remembered_ite-returns-clause-kept
remembered_ite-returns-clause-kept t c =
    rw c.in_ok-keep.ensures.ok (found-kept c.args.key _ c.in_ok-place.place _ c.in_ok-keep.ensures.bounded.some)
