use Rattle.std.proofs.Common.{◌≡◌, drop}
use Rattle.std.specs.Prelude.{None}
use Rattle.std.specs.List.{enumerate_from}
use Rattle.std.specs.BTreeMap.{get}
use Rattle.base_kit.specs.Prefixes.{Prefix}
use Rattle.dest_classes.specs.Routes.{prefix_cmp, noted_from}
use Rattle.dest_classes.proofs.routes.originators.Given as goal

abbrev pub invariant-loop-place : goal.invariant-loop-place
invariant-loop-place l =
    (p : Prefix) → noted_from p (enumerate_from l.place (drop l.place l.net.routers)) (get prefix_cmp l.originators p) ≡ noted_from p
    (enumerate_from 0 l.net.routers) None
