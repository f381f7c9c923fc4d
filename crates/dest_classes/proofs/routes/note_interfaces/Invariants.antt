use Rattle.std.proofs.Common.{◌≡◌, drop}
use Rattle.std.specs.Prelude.{filter_map}
use Rattle.std.specs.BTreeMap.{get}
use Rattle.base_kit.specs.Prefixes.{Prefix}
use Rattle.dest_classes.specs.Routes.{prefix_cmp, route_at, all_noted}
use Rattle.dest_classes.proofs.routes.note_interfaces.Given as goal

abbrev pub invariant-loop-interface : goal.invariant-loop-interface
invariant-loop-interface l =
    (p : Prefix) → all_noted p l.place (filter_map (route_at l.index.router.now) (drop l.interface-index l.interfaces))
    (get prefix_cmp l.originators p) ≡ all_noted p l.place (filter_map (route_at l.index.router.now) l.interfaces) (get prefix_cmp l.fn.originators p)
