use Rattle.std.proofs.Common.{◌≤◌, ◌+◌, length, refl, arith}
use Rattle.std.specs.Prelude.{slice_range}
use Rattle.dest_classes.specs.Cells.{entries_of}
use Rattle.dest_classes.proofs.Rules.{at_now}
use Rattle.dest_classes.proofs.Turns.{one_turn}
use Rattle.dest_classes.proofs.cells.ask_all.Goals as goal

pub loop-done-preserved : goal.loop-done-preserved
loop-done-preserved c =
    let lists = c.args.lists.now in
    let i = c.loop-done.done in
    let j = i + c.min.result in
    let within : j ≤ length lists = omega (arith, c.min.ensures) in
    let up : i ≤ j = omega arith in
    record {
      within = within;
      are = one_turn at_now lists (slice_range lists i j) i j (entries_of c.args.members.items) c.loop-done.members.items c.in_ok-members.members.items up refl
          c.in_ok-members.ensures c.loop-done.invariant.are;
    }
