-- The OSPF lines of a router that name interfaces.
use Rattle.std.specs.Prelude.{ℕ, List, [], Option, Some, None, if◌then◌else◌}
use Rattle.cfg_ast.specs.declared.ospf.OspfProcess.{OspfProcess}

-- if interfaces are passive by default, the names that are excepted; else the names that are passive
abbrev pub listed_of : Option OspfProcess → List (List ℕ)
listed_of None = []
listed_of (Some process) = if process.passive_default then process.not_passive else process.passive
