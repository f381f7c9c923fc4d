use Rattle.std.proofs.Common.{◌≡◌, ◌+◌, ◌++◌, drop, map}
use Rattle.std.specs.List.{enumerate_from}
use Rattle.config_emit.specs.LinkSteps.{interface_of_link}
use Rattle.config_emit.proofs.link_interfaces.with_link_interfaces.Given as goal

abbrev pub invariant-loop-i : goal.invariant-loop-i
invariant-loop-i l = l.all.items ++ map (interface_of_link l.acts l.group) (enumerate_from (l.i + 1) (drop l.i l.links)) ≡ l.initial.all.items
    ++ map (interface_of_link l.acts l.group) (enumerate_from 1 l.links)
