use Rattle.std.proofs.Common.{◌≡◌, ◌++◌, drop, map}
use Rattle.std.specs.List.{enumerate_from}
use Rattle.config_emit.specs.ActLinks.{act_link_by}
use Rattle.config_emit.proofs.act_links.links_filled_by.Given as goal

abbrev pub invariant-loop-i : goal.invariant-loop-i
invariant-loop-i l = l.found.items ++ map (act_link_by l.fill l.edges) (enumerate_from l.i (drop l.i l.links)) ≡ map (act_link_by l.fill l.edges)
    (enumerate_from 0 l.links)
