use Rattle.std.proofs.Common.{arith, true}
use Rattle.dd_core.proofs.MarkLemmas.{marked_sons, length-set}
use Rattle.dd_core.proofs.reach.mark_sons.Goals as goal

pub bounds-marks-high : goal.bounds-marks-high
bounds-marks-high c =
    let hb = (c.requires.store.reduced c.args.place c.in-Choice.variable c.in-Choice.high c.in-Choice.low c.in-Choice.ensures).high_before in
    let inside = c.requires.inside in
    omega arith

pub bounds-marks-low : goal.bounds-marks-low
bounds-marks-low c =
    let lb = (c.requires.store.reduced c.args.place c.in-Choice.variable c.in-Choice.high c.in-Choice.low c.in-Choice.ensures).low_before in
    let inside = c.requires.inside in
    let size = length-set c.args.marks.now c.in-Choice.high true in
    omega arith

pub returns-in-Choice : goal.returns-in-Choice
returns-in-Choice c =
    let r = c.requires.store.reduced c.args.place c.in-Choice.variable c.in-Choice.high c.in-Choice.low c.in-Choice.ensures in
    marked_sons c.args.table.now c.args.marks.now c.args.place c.in-Choice.variable c.in-Choice.high c.in-Choice.low c.requires.inside
    c.if-not-marks-place.false c.in-Choice.ensures r.high_before r.low_before
