use Rattle.std.proofs.Common.{◌≡◌, ◌+◌, length, ap, sym, ◌∙◌}
use Rattle.std.specs.Prelude.{slice_index}
use Rattle.std.proofs.lemmas.List.{length_push}
use Rattle.refine_partition.proofs.NumberingLemmas.{numbered_next}
use Rattle.refine_partition.proofs.numbering.numbers_of_small.Goals as goal

pub loop-key-preserved : goal.loop-key-preserved
loop-key-preserved c =
    let total = c.loop-key.invariant.total in
    let at : slice_index c.args.keys.now c.loop-key.key-index ≡ slice_index c.args.keys.now (length c.loop-key.numbers.items) =
    ap (slice_index c.args.keys.now) (sym total) in
    let named = rw at at c.number_in-number.ensures in
    let more = length_push c.loop-key.numbers.items c.number_in-number.result in
    record {
      size = named.size ∙ c.loop-key.invariant.size;
      total = ap length c.in_ok-push.ensures.items ∙ more ∙ ap (λ n. n + 1) total;
      so_far = rw c.in_ok-push.ensures.items (numbered_next _ _ _ _ _ _ _ c.loop-key.invariant.so_far named.named named.others named.was c.max-count.ensures);
    }
