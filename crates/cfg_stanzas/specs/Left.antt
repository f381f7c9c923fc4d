-- What is left of a process where memory runs out at one of its lines, which only a line that adds to a list can do.
use Rattle.std.specs.Prelude.{◌≡◌, []}
use Rattle.cfg_ast.specs.declared.bgp.BgpProcess.{BgpProcess}
use Rattle.cfg_ast.specs.declared.ospf.OspfProcess.{OspfProcess}
use Rattle.cfg_ast.specs.declared.items.RouterItem.{RouterItem}
use Rattle.cfg_ast.specs.declared.items.RouterItem.TheVariants as item

-- the list to which the line would have added is empty, and all else stays
abbrev pub IsLeftOfBgp : RouterItem → BgpProcess → BgpProcess → Type 0
IsLeftOfBgp (item.Network _) old now = now ≡ record old { networks = [] }
IsLeftOfBgp (item.RemoteAs _ _) old now = now ≡ record old { neighbors = [] }
IsLeftOfBgp _ old now = ⊥

abbrev pub IsLeftOfOspf : RouterItem → OspfProcess → OspfProcess → Type 0
IsLeftOfOspf (item.Area _) old now = now ≡ record old { areas = [] }
IsLeftOfOspf (item.Passive _) old now = now ≡ record old { passive = [] }
IsLeftOfOspf (item.NotPassive _) old now = now ≡ record old { not_passive = [] }
IsLeftOfOspf _ old now = ⊥
