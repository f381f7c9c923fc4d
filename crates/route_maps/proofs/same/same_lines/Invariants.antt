use Rattle.std.proofs.Common.{◌≡◌, drop}
use Rattle.cfg_ast.specs.meaning.Classes.{same_items}
use Rattle.route_maps.specs.Same.{same_line}
use Rattle.route_maps.proofs.same.same_lines.Given as goal

abbrev pub invariant-loop-i : goal.invariant-loop-i
invariant-loop-i l = same_items same_line l.a l.b ≡ same_items same_line (drop l.i l.a) (drop l.i l.b)
