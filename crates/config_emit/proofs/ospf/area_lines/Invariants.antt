use Rattle.std.proofs.Common.{◌≡◌, ◌++◌, drop, filter_map}
use Rattle.config_emit.specs.Emitted.{host_area_line}
use Rattle.config_emit.proofs.ospf.area_lines.Given as goal

abbrev pub invariant-loop-interface : goal.invariant-loop-interface
invariant-loop-interface l = l.lines ++ filter_map (host_area_line l.area) (drop l.interface-index l.interfaces) ≡ filter_map (host_area_line l.area)
    l.interfaces
