use Rattle.std.proofs.Common.{◌≡◌, ◌++◌, drop, map}
use Rattle.config_emit.specs.Emitted.{interface_name}
use Rattle.config_emit.proofs.ospf.names_of.Given as goal

abbrev pub invariant-loop-interface : goal.invariant-loop-interface
invariant-loop-interface l = l.names ++ map interface_name (drop l.interface-index l.interfaces) ≡ map interface_name l.interfaces
