use Rattle.std.proofs.Common.{length, ap, ◌∙◌, arith}
use Rattle.std.proofs.lemmas.List.{take_more, length-take, length_push}
use Rattle.refine_partition.proofs.RefineLemmas.{marked_new, pieces_more}
use Rattle.refine_partition.proofs.pending.add_pieces.Goals as goal

pub overflow_cast-piece : goal.overflow_cast-piece
overflow_cast-piece c =
    let size = c.requires.size in
    let few = c.requires.few in
    let now = c.loop-origin.invariant.size in
    let here = c.loop-origin-test.true in
    omega arith

pub wait-requires-clause-marked : goal.wait-requires-clause-marked
wait-requires-clause-marked c = marked_new _ _ _ c.loop-origin.invariant.marked c.in_ok-push.ensures.items

pub loop-origin-preserved : goal.loop-origin-preserved
loop-origin-preserved c =
    let here = c.loop-origin-test.true in
    let size = c.loop-origin.invariant.size in
    let first = c.in_ok-wait.ensures in
    let second = c.in_ok-wait-2.ensures in
    let pushed = ap length c.in_ok-push.ensures.items ∙ length_push _ _ in
    let first_size = first.size in
    let second_size = second.size in
    let done = length-take c.loop-origin.origin-index c.args.origins.now in
    record {
      size = second_size ∙ first_size ∙ pushed ∙ omega arith;
      marked = second.marked;
      waiting = rw (take_more c.args.origins.now c.loop-origin.origin-index 0 here)
          (pieces_more _ _ _ _ _ _ _ _ c.loop-origin.invariant.waiting first.waiting second.waiting (omega arith));
    }
