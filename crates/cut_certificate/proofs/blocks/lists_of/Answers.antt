use Rattle.std.proofs.Common.{◌<◌, ◌≤◌, arith, refl, ◌∙◌}
use Rattle.std.specs.Prelude.{slice_index}
use Rattle.std.proofs.Math.ListN.{length-set}
use Rattle.cut_certificate.proofs.Staying.{listed_more}
use Rattle.cut_certificate.proofs.blocks.lists_of.Goals as goal

pub loop-router-preserved : goal.loop-router-preserved
loop-router-preserved c =
    let number = slice_index c.args.numbers.now c.loop-router.router in
    let known : (0 < number) × (number ≤ c.args.count) = c.requires.known c.loop-router.router 0 c.loop-router-test.true in
    let total = c.loop-router.invariant.total in
    record {
      total = length-set _ _ _ ∙ total;
      so_far = listed_more _ _ _ _ _ _ c.loop-router.invariant.so_far refl (omega arith) c.index_mut.ensures.value c.in_ok-push-2.ensures.items;
    }
