use Rattle.std.proofs.Common.{◌<◌, arith, length}
use Rattle.std.proofs.lemmas.List.{length_push}
use Rattle.dd_core.specs.Marks.{AreMarks}
use Rattle.dd_core.specs.Reach.IsReached.{itself}
use Rattle.dd_core.proofs.StoreLemmas.{length_kept, extends_trans}
use Rattle.dd_core.proofs.RestrictLemmas.{sons_restricted, one_restricted, made_at}
use Rattle.dd_core.proofs.restrict.restricted_below.Goals as goal

pub restricted_place-requires-clause-inside :
    goal.restricted_place-requires-clause-inside
restricted_place-requires-clause-inside c =
    let are : AreMarks c.args.table.now c.args.from c.deref-marked-items.result.now = rw c.deref-marked-items.ensures.value c.in_ok-marks.ensures in
    let total = are.total in
    let below = c.requires.inside in
    let more = length_kept _ _ c.loop-place.invariant.extends in
    let test = c.loop-place-test.true in
    omega arith

pub restricted_place-requires-clause-sons : goal.restricted_place-requires-clause-sons
restricted_place-requires-clause-sons c = λ marked.
    let are : AreMarks c.args.table.now c.args.from c.deref-marked-items.result.now = rw c.deref-marked-items.ensures.value c.in_ok-marks.ensures in
    let total = are.total in
    let below = c.requires.inside in
    let test = c.loop-place-test.true in
    rw c.deref.ensures.value (sons_restricted c.args.table.now c.loop-place.table _ c.deref-marked-items.result.now c.loop-place.made.items c.args.from
    c.loop-place.place c.requires.store c.loop-place.invariant.extends (omega arith) are c.loop-place.invariant.done c.loop-place.invariant.size marked)

pub loop-place-preserved : goal.loop-place-preserved
loop-place-preserved c =
    let are : AreMarks c.args.table.now c.args.from c.deref-marked-items.result.now = rw c.deref-marked-items.ensures.value c.in_ok-marks.ensures in
    let total = are.total in
    let below = c.requires.inside in
    let test = c.loop-place-test.true in
    let more = length_kept _ _ c.loop-place.invariant.extends in
    let size = c.loop-place.invariant.size in
    let pushed = length_push c.loop-place.made.items c.in_ok-node.node in
    record {
      store = c.in_ok-node.ensures.store;
      extends = extends_trans _ _ _ c.loop-place.invariant.extends c.in_ok-node.ensures.extends;
      within = λ bound within. c.in_ok-node.ensures.within bound (c.loop-place.invariant.within bound within);
      size = rw c.in_ok-push.ensures.items (omega arith);
      done = rw c.in_ok-push.ensures.items (one_restricted c.loop-place.table c.restricted_place.new.table _ c.deref-marked-items.result.now
          c.loop-place.made.items c.loop-place.place c.in_ok-node.node c.in_ok-node.ensures.extends size (omega arith) c.loop-place.invariant.done
          c.in_ok-node.ensures.made);
    }

pub returns-clause-restricted : goal.returns-clause-restricted
returns-clause-restricted c =
    let are : AreMarks c.args.table.now c.args.from c.deref-marked-items.result.now = rw c.deref-marked-items.ensures.value c.in_ok-marks.ensures in
    let total = are.total in
    let past = c.loop-place-test.false in
    let size = c.loop-place.invariant.size in
    let inside : c.args.from < length c.loop-place.made.items = omega arith in
    let is = c.loop-place.invariant.done.each c.args.from inside (are.all c.args.from itself) in
    rw (made_at c.loop-place.made.items c.args.from c.index.result.now inside c.index.ensures) at is
