use Rattle.std.proofs.Common.{◌≡◌, drop, flat_map}
use Rattle.std.specs.Prelude.{slice_get}
use Rattle.cfg_ast.specs.meaning.Topology.{neighbors_of}
use Rattle.cfg_check.proofs.limits.neighbor_at.Given as goal

abbrev pub invariant-loop-router : goal.invariant-loop-router
invariant-loop-router l = slice_get (flat_map neighbors_of (drop l.router-index l.routers)) l.left ≡ slice_get (flat_map neighbors_of l.routers) l.place
