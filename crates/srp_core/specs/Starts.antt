-- What decides the color of a router in the graph of a problem.
use Rattle.std.specs.Prelude.{◌≡◌, ℕ, ◌<◌, Bool, true, false, List, length, Option, Some, None, slice_index, slice_get}
use Rattle.base_kit.specs.declared.act_graph.ActGraph.{ActGraph}
use Rattle.base_kit.specs.Partition.{color}
use Rattle.distinct_values.specs.Distinct.{AreDistinct}
use Rattle.srp_core.specs.declared.route.Route.{Route}
use Rattle.srp_core.specs.declared.route.Route.TheVariants.{Bgp, Ospf}
use Rattle.srp_core.specs.declared.starts.Start.{Start}
use Rattle.srp_core.specs.declared.starts.Start.TheVariants.{Alone, Silent, Preference, Cost}
use Rattle.srp_core.specs.Problem.{Problem, count, initial, is_lone}

-- a lone router is alone, and the others start by their initial routes
abbrev pub start_of : Bool → ℕ → Option Route → Start
start_of true router init = Alone router
start_of false router None = Silent
start_of false router (Some (Bgp lp path comms)) = Preference lp
start_of false router (Some (Ospf cost)) = Cost cost

abbrev pub start : Problem → ℕ → Start
start problem router = start_of (is_lone problem router) router (initial problem router)

-- the colors of the routers are the places of their starts in a list of different ones
pub record AreColors (problem : Problem) (colors : List ℕ) : Type 0 where
  pub total : length colors ≡ count problem
  pub starts : List Start
  pub distinct : AreDistinct starts
  pub placed : (u : ℕ) → u < count problem → slice_get starts (slice_index colors u) ≡ Some (start problem u)

-- the graph has the problem's routers and edges; lone routers have colors of their own, and two others
-- have equal colors exactly if their initial routes are equal or both are none
pub record IsGraphOf (problem : Problem) (graph : ActGraph) : Type 0 where
  pub routers : graph.count ≡ count problem
  pub edges : graph.edges ≡ problem.edges
  pub alone : (u v : ℕ) → u < count problem → v < count problem → is_lone problem u ≡ true → color graph u ≡ color graph v → u ≡ v
  pub apart : (u v : ℕ) → u < count problem → v < count problem → is_lone problem u ≡ false → is_lone problem v ≡ false → color graph u ≡ color graph v →
      initial problem u ≡ initial problem v
  pub alike : (u v : ℕ) → u < count problem → v < count problem → is_lone problem u ≡ false → is_lone problem v ≡ false →
      initial problem u ≡ initial problem v → color graph u ≡ color graph v
