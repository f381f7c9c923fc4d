use Rattle.std.proofs.Common.{◌≡◌, drop, map}
use Rattle.std.specs.Prelude.{find}
use Rattle.cfg_ast.specs.meaning.Topology.{is_row_of, default_costs}
use Rattle.cfg_ast.proofs.lookups.default_cost.Given as goal

abbrev pub invariant-loop-row : goal.invariant-loop-row
invariant-loop-row l = find (is_row_of l.type_name) (map (λ row. (row.0.now, row.1)) (drop l.row-index l.rows)) ≡ find (is_row_of l.type_name) default_costs
