-- What the problem of a BGP network depends on.
use Rattle.std.specs.Prelude.{◌≡◌, ◌<◌, ◌^◌, [], length, Some, None, Contains}
use Rattle.base_kit.specs.declared.protocol.Protocol.TheVariants as protocol
use Rattle.cfg_ast.specs.declared.network.Network.{Network}
use Rattle.cfg_ast.specs.declared.network.Router.{Router}
use Rattle.cfg_ast.specs.meaning.PolicyFaults.{prepend_in_lines}
use Rattle.cfg_ast.specs.meaning.RouterFaults.{protocol_of, shared_as_lines}
use Rattle.cfg_ast.specs.printing.WellFormed.{IsWellFormed}

-- the network runs only BGP and is as the grammar has it; its routers have AS numbers of their own, and
-- their in maps add none to paths
pub record IsBgp (n : Network) : Type 0 where
  pub protocol : protocol_of n ≡ Some protocol.Bgp
  pub form : IsWellFormed n
  pub without_ospf : (router : Router) → Contains n.routers router → router.ospf ≡ None
  pub few_routers : length n.routers < 2 ^ 32
  pub own_numbers : shared_as_lines n ≡ []
  pub nothing_added : prepend_in_lines n ≡ []
