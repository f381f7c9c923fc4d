use Rattle.std.proofs.Common.{rules, ◌≡◌, true}
use Rattle.dd_core.specs.declared.table.Node.{Node}
use Rattle.dd_core.specs.declared.table.Node.TheVariants.{Constant, Choice}
use Rattle.dd_core.specs.contracts.table.NodePartialEq.TheImpl.{eq-value}
use Rattle.distinct_values.proofs.Interned.{distinct_places, interned_at, interned_last}
use Rattle.dd_core.proofs.table.Table.intern.Goals as goal

same_node : (node : Node) → eq-value.it node node ≡ true
same_node (Constant b) = search rules
same_node (Choice variable high low) = search rules

one_node : (x y : Node) → eq-value.it x y ≡ true → x ≡ y
one_node (Constant b) (Constant d) e = search rules
one_node (Constant b) (Choice variable high low) e = search rules
one_node (Choice variable high low) (Constant d) e = search rules
one_node (Choice variable high low) (Choice variable' high' low') e = search rules

pub invariant_of-self-2 : goal.invariant_of-self-2
invariant_of-self-2 c = distinct_places _ same_node _ c.in_ok-place.ensures.unique

pub returns-clause-distinct : goal.returns-clause-distinct
returns-clause-distinct c = distinct_places _ same_node _ c.in_ok-place.ensures.unique

pub returns-clause-found : goal.returns-clause-found
returns-clause-found c = rw (c.in_ok-place.ensures.entries, c.in_ok-place.ensures.index)
    (interned_at eq-value.it one_node c.args.node tt c.self.inside.nodes.entries)

pub returns-clause-grown : goal.returns-clause-grown
returns-clause-grown c = rw (c.in_ok-place.ensures.entries, ← c.self.view_is) (interned_last eq-value.it one_node c.args.node tt c.self.inside.nodes.entries)
