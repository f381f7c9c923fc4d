use Rattle.std.proofs.Common.{◌≡◌, ◌+◌, length, ap, ◌∙◌, arith}
use Rattle.std.proofs.lemmas.List.{length-append}
use Rattle.refine_partition.proofs.DivisionLemmas.{divided_blocks, origin_known, few_blocks}
use Rattle.refine_partition.proofs.division.divide.Goals as goal

pub further_blocks-requires-clause-known : goal.further_blocks-requires-clause-known
further_blocks-requires-clause-known c =
    let planned = rw (c.deref.ensures.value, c.deref-2.ensures.value) at c.in_ok-plan.ensures in
    rw (c.deref-5.ensures.value, c.deref-3.ensures.value) (origin_known c.args.graph.now _ _ _ _ _ _ c.requires.one_number_each c.requires.numbered planned)

pub further_blocks-requires-clause-few : goal.further_blocks-requires-clause-few
further_blocks-requires-clause-few c =
    let planned = rw (c.deref.ensures.value, c.deref-2.ensures.value) at c.in_ok-plan.ensures in
    let few = few_blocks c.args.graph.now _ _ _ _ _ _ c.requires.one_number_each c.requires.numbered planned in
    rw (c.deref-5.ensures.value, c.deref-3.ensures.value) (omega arith)

pub returns : goal.returns
returns c =
    let planned = rw (c.deref.ensures.value, c.deref-2.ensures.value) at c.in_ok-plan.ensures in
    let few = few_blocks c.args.graph.now _ _ _ _ _ _ c.requires.one_number_each c.requires.numbered planned in
    let further = rw (c.deref-4.ensures.value, c.deref-5.ensures.value, c.deref-3.ensures.value) at c.in_ok-further.ensures.further in
    let total = rw c.deref-5.ensures.value at c.in_ok-further.ensures.total in
    let kept = rw (c.deref-6.ensures.value, c.deref-7.ensures.value) at c.keep_members.ensures in
    let size : length c.keep_members.new.blocks.items ≡ length c.args.blocks.now.items + length c.in_ok-plan.plan.renumbering.origins.items =
    kept.total ∙ ap length c.in_ok-append.ensures.items ∙ length-append _ _ ∙ ap (λ n. length c.args.blocks.now.items + n) total in
    record {
      numbered = divided_blocks c.args.graph.now _ _ _ _ _ _ _ _ _ c.requires.one_number_each c.requires.numbered planned total further
          c.in_ok-append.ensures.items kept;
      few = omega arith;
      ok = rw size planned.split;
      numbers_err = tt;
      blocks_err = tt;
    }
