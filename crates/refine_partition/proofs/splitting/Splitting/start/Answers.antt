use Rattle.std.proofs.Common.{◌∙◌, arith}
use Rattle.refine_partition.proofs.SplittingLemmas.{numbered_blocks, started}
use Rattle.refine_partition.specs.Splitting.{IsStartOf}
use Rattle.refine_partition.specs.Members.{block_lists}
use Rattle.refine_partition.proofs.splitting.Splitting.start.Goals as goal

pub invariant_of-result : goal.invariant_of-result
invariant_of-result c = record {
  numbered = numbered_blocks _ _ _ c.in_ok-numbers.ensures.numbering.numbered c.in_ok-blocks.ensures.total
      (rw c.deref.ensures.value at c.in_ok-blocks.ensures.blocks);
  few = let total = c.in_ok-blocks.ensures.total in omega arith;
}

start_of : (c : goal.In_ok-blocks) → IsStartOf c.args.graph.now (block_lists c.in_ok-blocks.blocks.items)
start_of c =
    let total = rw c.as_slice.ensures at c.in_ok-numbers.ensures.total in
    let numbering = rw c.as_slice.ensures at c.in_ok-numbers.ensures.numbering in
    started c.args.graph.now _ _ _ (total ∙ c.args.graph.now.one_color_each) numbering c.in_ok-blocks.ensures.total
    (rw c.deref.ensures.value at c.in_ok-blocks.ensures.blocks)

pub returns-clause-of_graph : goal.returns-clause-of_graph
returns-clause-of_graph c = let start = start_of c in record { numbers = start.numbers; are = start.are }

pub returns-clause-start : goal.returns-clause-start
returns-clause-start c = start_of c
