-- The acts of a problem, each as the lines at the ends of the first edge that has it give it.
use Rattle.std.specs.Prelude.{◌≡◌, ◌≢◌, ℕ, ◌<◌, Bool, List, Some, slice_get}
use Rattle.base_kit.specs.declared.act_graph.Edge.{Edge}
use Rattle.base_kit.specs.Prefixes.{Prefix}
use Rattle.cfg_ast.specs.declared.network.Network.{Network}
use Rattle.route_maps.specs.declared.plain.Plain.{Plain}
use Rattle.specialize.specs.Sessions.{out_map, in_map}
use Rattle.srp_core.specs.declared.route.Act.{Act}
use Rattle.srp_core.specs.declared.route.Act.TheVariants.{Import, Cost}
use Rattle.srp_core.specs.Problem.{Problem, act_of}
use Rattle.srp_core.specs.ProblemOf.{Direction, SessionEnds, StandsFor}

-- the maps and the sending are those of the neighbour lines at both ends, written out for the prefix
pub record AreMapsOf (network : Network) (prefix : Prefix) (d : Direction) (out : Plain) (sends : Bool) (into : Plain) : Type 0 where
  pub ends : SessionEnds network d
  pub out_is : out ≡ out_map prefix ends.exporter ends.exporter_line
  pub sends_is : sends ≡ ends.exporter_line.sends
  pub into_is : into ≡ in_map prefix ends.importer ends.importer_line

-- an import has the maps of the lines, and a cost says all of itself
abbrev pub IsActOfLines : Network → Prefix → Direction → Act → Type 0
IsActOfLines network prefix d (Import out sends into) = AreMapsOf network prefix d out sends into
IsActOfLines network prefix d (Cost cost) = Unit {0}

-- no edge before the place has the act
pub record IsFirstWith (edges : List Edge) (place act : ℕ) : Type 0 where
  pub first : (earlier : ℕ) (other : Edge) → earlier < place → slice_get edges earlier ≡ Some other → other.act ≢ act

-- the act of the edge is that of the lines at its ends
pub record IsAsWritten (network : Network) (prefix : Prefix) (problem : Problem) (edge : Edge) : Type 0 where
  pub d : Direction
  pub stands : StandsFor problem network prefix edge d
  pub act : IsActOfLines network prefix d (act_of problem edge)

-- each act is that of the lines at the ends of the first edge that has it
pub record HasFirstActs (network : Network) (prefix : Prefix) (problem : Problem) : Type 0 where
  pub each : (place : ℕ) (edge : Edge) → slice_get problem.edges place ≡ Some edge → IsFirstWith problem.edges place edge.act →
      IsAsWritten network prefix problem edge
