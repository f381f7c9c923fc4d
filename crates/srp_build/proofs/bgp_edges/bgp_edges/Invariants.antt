use Rattle.std.proofs.Common.{◌≤◌, List, length, take}
use Rattle.std.specs.Prelude.{IfSome}
use Rattle.cfg_ast.specs.declared.network.Router.{Router}
use Rattle.dd_core.specs.Sets.{Grows}
use Rattle.srp_build.specs.BgpEdges.{IsLastImport, AreEdgesOfSessions}
use Rattle.srp_build.specs.LinePolicies.{AreImportsOf}
use Rattle.srp_build.specs.LineMaps.{line_maps}
use Rattle.srp_build.specs.MetImports.{AreRight}
use Rattle.srp_build.proofs.bgp_edges.bgp_edges.Given as goal

abbrev pub invariant-loop-i : goal.invariant-loop-i
invariant-loop-i l = record {
  grows : Grows l.initial.store l.store;
  right : AreRight l.store l.maps.maps.items l.found.acts l.found.imports;
  last : IfSome l.found.last (IsLastImport l.maps l.found.acts.acts.items);
  few : length l.found.acts.acts.items ≤ l.i;
  so_far : (routers : List Router) → AreImportsOf routers l.directions.policies l.directions.hops.items l.directions.imports.items →
      AreEdgesOfSessions l.store routers l.init (line_maps l.directions.policies l.maps) (take l.i l.directions.hops.items) l.found;
}
