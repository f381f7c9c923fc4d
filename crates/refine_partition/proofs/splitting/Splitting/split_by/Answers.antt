use Rattle.std.proofs.Common.{List, ℕ, subst}
use Rattle.refine_partition.specs.Members.{block_lists}
use Rattle.refine_partition.specs.Splitting.{IsSplitOf}
use Rattle.refine_partition.proofs.SplittingLemmas.{all_routers, split_of}
use Rattle.refine_partition.proofs.splitting.Splitting.split_by.Given.{Over}
use Rattle.refine_partition.proofs.splitting.Splitting.split_by.Goals as goal

pub divide-requires-clause-one_number_each : goal.divide-requires-clause-one_number_each
divide-requires-clause-one_number_each g c = rw c.of-graph.ensures
    (all_routers c.args.graph.now _ _ _ c.self.invariant.numbered c.self.view_is c.requires.of_graph)

split_is : (g : Over) (c : goal.After-drop-exports-2 g) → IsSplitOf c.args.graph.now c.args.block c.args.self.now (block_lists c.divide.new.blocks.items)
split_is g c =
    let split = rw c.of-graph.ensures at c.in_ok-divide.ensures.ok in
    let total = all_routers c.args.graph.now _ _ _ c.self.invariant.numbered c.self.view_is c.requires.of_graph in
    subst (λ (blocks : List (List ℕ)). IsSplitOf c.args.graph.now c.args.block blocks (block_lists c.divide.new.blocks.items)) c.self.view_is
    (split_of c.args.graph.now c.args.block _ _ _ _ total c.self.invariant.numbered c.in_ok-divide.ensures.numbered split)

pub returns-clause-of_graph : goal.returns-clause-of_graph
returns-clause-of_graph g c = let split = split_is g c in record { numbers = split.new_numbers; are = split.new_are }

pub returns-clause-ok : goal.returns-clause-ok
returns-clause-ok g c = split_is g c
