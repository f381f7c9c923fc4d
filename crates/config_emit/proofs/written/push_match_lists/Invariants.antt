use Rattle.std.proofs.Common.{◌≡◌, ◌+◌, ◌++◌, map, drop}
use Rattle.std.specs.List.{enumerate_from}
use Rattle.config_emit.specs.Maps.{match_list}
use Rattle.config_emit.proofs.written.push_match_lists.Given as goal

abbrev pub invariant-loop-i : goal.invariant-loop-i
invariant-loop-i l = l.found ++ map (match_list l.k l.seq) (enumerate_from (l.i + 1) (drop l.i l.lists)) ≡ l.initial.found
    ++ map (match_list l.k l.seq) (enumerate_from 1 l.lists)
