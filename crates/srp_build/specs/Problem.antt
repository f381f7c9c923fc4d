-- The problem of an OSPF network with given initial routes, costs and edges.
use Rattle.std.specs.Prelude.{ℕ, Bool, true, false, List, Option, Some, None, map}
use Rattle.base_kit.specs.declared.act_graph.Edge.{Edge}
use Rattle.base_kit.specs.declared.protocol.Protocol.{Protocol}
use Rattle.base_kit.specs.declared.protocol.Protocol.TheVariants.{Bgp, Ospf}
use Rattle.cfg_ast.specs.declared.network.Network.{Network}
use Rattle.cfg_ast.specs.declared.network.Router.{Router}
use Rattle.srp_core.specs.declared.route.Route.{Route}
use Rattle.srp_core.specs.declared.route.Act.TheVariants.{Cost}
use Rattle.srp_core.specs.Problem.{Problem}
use Rattle.srp_core.specs.ProblemOf.{as_number_of}
use Rattle.srp_build.specs.Starts.{none_lone}

-- whether the `router` lines are of BGP
abbrev pub is_bgp : Option Protocol → Bool
is_bgp (Some Bgp) = true
is_bgp (Some Ospf) = false
is_bgp None = false

abbrev pub problem_with : Network → List (Option Route) → List ℕ → List Edge → Problem
problem_with n init costs edges = record {
  protocol = Ospf;
  names = map (λ (router : Router). router.name) n.routers;
  numbers = map as_number_of n.routers;
  init = init;
  lone = none_lone n.routers;
  acts = map Cost costs;
  edges = edges;
}
