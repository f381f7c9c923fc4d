use Rattle.std.proofs.Common.{◌≡◌, drop}
use Rattle.cfg_ast.specs.meaning.Classes.{same_items}
use Rattle.route_maps.specs.Same.{same_entry}
use Rattle.route_maps.proofs.same.same_entries.Given as goal

abbrev pub invariant-loop-i : goal.invariant-loop-i
invariant-loop-i l = same_items same_entry l.a l.b ≡ same_items same_entry (drop l.i l.a) (drop l.i l.b)
