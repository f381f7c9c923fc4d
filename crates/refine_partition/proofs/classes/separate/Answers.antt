use Rattle.std.proofs.Common.{◌≡◌, ◌<◌, ◌≤◌, length, get_or, ◌∙◌, sym, arith, inl, inr}
use Rattle.std.proofs.lemmas.List.{take_more, take_all, get_or_default}
use Rattle.refine_partition.specs.declared.imports.Import.{Import}
use Rattle.refine_partition.proofs.ClassLemmas.{reached_more, separated, separating_again, separating_more}
use Rattle.refine_partition.proofs.classes.separate.Goals as goal
use Rattle.refine_partition.proofs.classes.separate.Goals.{then-class-fresh+in_ok-note+in_ok-name, else-class-fresh}

pub loop-mover-preserved : goal.loop-mover-preserved
loop-mover-preserved c =
    let none : Import = record { importer = 0; act = 0 } in
    let mover : Import = get_or c.args.movers.now c.loop-mover.mover-index none in
    let total = c.loop-mover.invariant.so_far.total in
    let inside : mover.importer < length c.args.classes.now.items = c.requires.in_range c.loop-mover.mover-index none c.loop-mover-test.true in
    let inside' : mover.importer < length c.loop-mover.classes.items = omega arith in
    let class : get_or c.loop-mover.classes.items mover.importer 0 ≡ c.index-class.result.now =
    sym (c.index-class.ensures ∙ get_or_default c.loop-mover.classes.items mover.importer _ 0 inside') in
    elim c.if-class-fresh.branch [
      | then-class-fresh+in_ok-note+in_ok-name w ↦
          let named = w.in_ok-name.ensures in
          let most = w.max-next.ensures in
          let high : c.args.count ≤ w.in_ok-name.name = elim named.was [
            | inl known ↦ let b = (c.loop-mover.invariant.so_far.named _ _ known).0 in let first = c.requires.first in omega arith
            | inr e ↦ let e' = e.1 in let low = c.loop-mover.invariant.so_far.low in let first = c.requires.first in omega arith
          ] in
          let bound : w.in_ok-name.name ≤ c.loop-mover.next = elim named.was [
            | inl known ↦ let b = (c.loop-mover.invariant.so_far.named _ _ known).1 in omega arith
            | inr e ↦ let e' = e.1 in omega arith
          ] in
          record {
            so_far = rw (take_more c.args.movers.now c.loop-mover.mover-index none c.loop-mover-test.true, w.classes-is, w.names-is, w.next-is)
                (separating_more _ _ _ mover _ _ _ _ _ _ _ c.loop-mover.invariant.so_far inside' class w.if-class-fresh.true w.in_ok-name.ensures.named
                w.in_ok-name.ensures.others w.in_ok-name.ensures.was (omega arith) (omega arith) (omega arith));
            reached = rw (w.classes-is, w.reached-is) (reached_more _ _ _ _ mover.importer _ _ c.loop-mover.invariant.reached inside' class high
                w.in_ok-note.ensures);
            last = rw (w.names-is, w.last-is) w.in_ok-name.ensures.named;
          }
      | else-class-fresh w ↦
          record {
            so_far = rw (take_more c.args.movers.now c.loop-mover.mover-index none c.loop-mover-test.true, w.classes-is, w.names-is, w.next-is)
                (separating_again _ _ _ mover _ _ _ c.loop-mover.invariant.so_far (let high = w.if-class-fresh.false in omega arith));
            reached = rw (w.classes-is, w.reached-is) c.loop-mover.invariant.reached;
            last = rw (w.names-is, w.last-is) c.loop-mover.invariant.last;
          }
    ]

pub returns-clause-separated : goal.returns-clause-separated
returns-clause-separated c = rw (take_all c.loop-mover.mover-index c.args.movers.now c.loop-mover-test.false) at
    (separated _ _ _ _ _ _ c.loop-mover.invariant.so_far)
