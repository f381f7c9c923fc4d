-- The routing processes of routers, as the search for faults sees them.
use Rattle.std.specs.Prelude.{ℕ, Bool, not, List, Option, nat_eq, slice_get}
use Rattle.std.specs.Option.{option_map}
use Rattle.base_kit.specs.declared.protocol.Protocol.{Protocol}
use Rattle.cfg_ast.specs.declared.bgp.BgpProcess.{BgpProcess}
use Rattle.cfg_ast.specs.declared.network.Router.{Router}
use Rattle.cfg_ast.specs.declared.ospf.AreaLine.{AreaLine}
use Rattle.cfg_ast.specs.meaning.RouterFaults.{ProtocolLine, is_same_protocol}
use Rattle.cfg_check.specs.declared.processes.Numbered.{Numbered}

-- the number and the line of a process
abbrev pub numbered_by : BgpProcess → Numbered
numbered_by process = record { number = process.number; line = process.line }

abbrev pub numbered_of : Router → Option Numbered
numbered_of router = option_map numbered_by router.bgp

abbrev pub line_of_numbered : Numbered → ℕ
line_of_numbered x = x.line

abbrev pub same_numbered : Numbered → Numbered → Bool
same_numbered x y = nat_eq x.number y.number

-- the protocol of the first line
abbrev pub protocol_in : List ProtocolLine → Option Protocol
protocol_in lines = option_map (λ (l : ProtocolLine). l.protocol) (slice_get lines 0)

abbrev pub has_other_protocol : Protocol → ProtocolLine → Bool
has_other_protocol protocol line = not (is_same_protocol protocol line.protocol)

-- the area of the first line
abbrev pub area_in : List AreaLine → Option ℕ
area_in lines = option_map (λ (l : AreaLine). l.area) (slice_get lines 0)

abbrev pub has_other_area : ℕ → AreaLine → Bool
has_other_area area line = not (nat_eq area line.area)
