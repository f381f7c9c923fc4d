use Rattle.std.proofs.Common.{◌≡◌, ◌++◌, map, drop, flat_map}
use Rattle.cfg_ast.specs.meaning.Classes.{lists_on}
use Rattle.dest_classes.proofs.lists.lists_of.Given as goal

abbrev pub invariant-loop-router : goal.invariant-loop-router
invariant-loop-router l = map (λ list. list.now) l.lists.items ++ flat_map lists_on (drop l.router-index l.net.routers) ≡ flat_map lists_on l.net.routers

abbrev pub invariant-loop-list : goal.invariant-loop-list
invariant-loop-list l = map (λ list. list.now) l.lists.items ++ drop l.list-index l.list-items ≡ map (λ list. list.now) l.initial.lists.items ++ l.list-items
