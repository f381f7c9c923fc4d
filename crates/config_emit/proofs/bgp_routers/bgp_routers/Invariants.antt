use Rattle.std.proofs.Common.{◌≡◌, ◌-◌, ◌++◌, map}
use Rattle.std.specs.List.{range_with_len}
use Rattle.config_emit.specs.Emitted.{emitted_router}
use Rattle.config_emit.specs.Sources.{plan_of}
use Rattle.config_emit.proofs.bgp_routers.bgp_routers.Given as goal

abbrev pub invariant-loop-group : goal.invariant-loop-group
invariant-loop-group l =
    l.routers ++ map (emitted_router (plan_of l.source)) (range_with_len l.group (l.source.count - l.group))
    ≡ map (emitted_router (plan_of l.source)) (range_with_len 0 l.source.count)
