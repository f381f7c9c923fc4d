-- What the network of the groups is written from: the network read, one of its classes with the problem
-- and the groups, and the links of the groups (Beckett, Gupta, Mahajan and Walker, Control Plane
-- Compression, SIGCOMM 2018).
use Rattle.std.specs.Prelude.{ℕ, List, Option, slice_get, slice_index_or}
use Rattle.std.specs.Option.{option_map}
use Rattle.cfg_ast.specs.declared.network.Network.{Network}
use Rattle.cfg_ast.specs.declared.network.Router.{Router}
use Rattle.cfg_ast.specs.declared.classes.DestClass.{DestClass}
use Rattle.abstract_net.specs.declared.qlink.QLink.{QLink}
use Rattle.abstract_net.specs.Carried.{act_at}
use Rattle.srp_core.specs.declared.route.Act.{Act}
use Rattle.srp_core.specs.declared.route.Act.TheVariants.{Cost}
use Rattle.srp_core.specs.Problem.{Problem}
use Rattle.srp_quotient.specs.Groups.{first_member, edge_into, quotient_problem}

pub record Plan : Type 0 where
  pub network : Network
  pub class : DestClass
  pub problem : Problem
  pub groups : List ℕ
  pub count : ℕ
  pub links : List QLink

-- the problem of the groups, which the network written is to have
abbrev pub small : Plan → Problem
small e = quotient_problem e.problem e.groups e.count e.links

-- the router by which a group is written: its first member
abbrev pub first_router_of : Plan → ℕ → Option Router
first_router_of e g = slice_get e.network.routers (first_member e.groups g)

-- the act of the edge at a place
abbrev pub act_of_place : Plan → ℕ → Act
act_of_place e k = slice_index_or e.problem.acts (act_at e.problem.edges k) (Cost 0)

-- The act that a link carries into its end g. In OSPF, a link that carries none there takes the act of
-- the last link between the two groups that carries one.
abbrev pub act_into : Plan → ℕ → QLink → Option Act
act_into e g l = option_map (act_of_place e) (edge_into e.problem.protocol e.links g l)
