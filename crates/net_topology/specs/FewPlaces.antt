-- Routers, interfaces and neighbours whose places are numbers of 32 bits.
use Rattle.std.specs.Prelude.{◌<◌, ◌^◌, List, Contains, length}
use Rattle.cfg_ast.specs.declared.network.Router.{Router}
use Rattle.cfg_ast.specs.meaning.Topology.{neighbors_of}

pub record HasFewItems (router : Router) : Type 0 where
  pub interfaces : length router.interfaces < 2 ^ 32
  pub neighbors : length (neighbors_of router) < 2 ^ 32

pub record HasFewPlaces (all : List Router) : Type 0 where
  pub routers : length all < 2 ^ 32
  pub items : (router : Router) → Contains all router → HasFewItems router
