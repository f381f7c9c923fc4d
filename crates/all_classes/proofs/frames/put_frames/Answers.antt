use Rattle.std.proofs.Common.{◌≡◌, ◌-◌, ◌<◌, ◌≤◌, ℕ, List, true, arith, subst, sym, Option}
use Rattle.all_classes.specs.Progress.{HasPut}
use Rattle.all_classes.specs.Requests.{span}
use Rattle.all_classes.specs.Tellings.{IsAnswer}
use Rattle.all_classes.proofs.Framed.{none_put, put_all_of, put_few, put_more, put_part}
use Rattle.all_classes.proofs.frames.put_frames.Goals as goal

pub loop-number-init : goal.loop-number-init
loop-number-init g c =
    let old = g.O.Sink.taken c.args.out.now in
    let from = c.args.from in
    let A = IsAnswer c.args.command c.args.checked.now.network in
    let zero : from - from ≡ 0 = omega arith in
    record {
      above = omega arith;
      below = omega arith;
      later = omega arith;
      work = c.requires.work;
      put = subst (λ (k : ℕ). HasPut A from k true old old) (sym zero) (none_put A from old);
    }

pub loop-number-preserved : goal.loop-number-preserved
loop-number-preserved g c =
    let inv = c.loop-number.invariant in
    record {
      above = omega (arith, inv.above);
      below = omega (arith, inv.above, inv.below, c.loop-number-test.true);
      later = omega (arith, inv.later, c.in-Ok.ensures.later);
      work = c.put_class.ensures.work;
      put = put_more (IsAnswer c.args.command c.args.checked.now.network) c.args.from c.loop-number.number c.loop-number.done c.in-Ok.this
          c.both-done.result _ _ _ inv.above inv.put c.in-Ok.ensures.put c.both-done.ensures;
    }

pub returns-in-Err-clause-failed : goal.returns-in-Err-clause-failed
returns-in-Err-clause-failed g c = λ is.
    let inv = c.loop-number.invariant in
    put_part (IsAnswer c.args.command c.args.checked.now.network) c.args.from c.loop-number.number (span c.args.from c.args.to) c.loop-number.done _ _ _
    inv.above (omega (arith, inv.above, c.loop-number-test.true)) inv.put (c.in-Err.ensures.failed is)
