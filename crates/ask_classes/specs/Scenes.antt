-- What a class is asked over.
use Rattle.std.specs.Prelude.{◌≡◌, ◌<◌, ◌≤◌, ◌^◌, length}
use Rattle.cfg_ast.specs.meaning.Topology.{links_of}
use Rattle.srp_core.specs.Without.{marked_down, IsWithout}
use Rattle.srp_without.specs.Accepting.{Serves}
use Rattle.ask_names.specs.Networks.{names_of}
use Rattle.ask_names.specs.Marks.{AreMarksFor}
use Rattle.ask_classes.specs.declared.asking.Asking.{Asking}
use Rattle.ask_classes.specs.declared.scene.Problems.{Problems}
use Rattle.ask_classes.specs.declared.scene.Scene.{Scene}

-- the links of the network, marks for each router and each link, a problem of its routers, and what is
-- left of that problem
pub record IsScene (scene : Scene) (problems : Problems) : Type 0 where
  pub links : scene.links.now ≡ links_of scene.network.now
  pub few_links : length scene.links.now < 2 ^ 32
  pub few_routers : length scene.network.now.routers ≤ 4096
  pub each_router : length scene.routers_down.now ≡ length scene.network.now.routers
  pub each_link : length scene.links_down.now ≡ length scene.links.now
  pub names : problems.whole.now.names ≡ names_of scene.network.now
  pub left : IsWithout problems.whole.now (marked_down scene.routers_down.now scene.links_down.now) problems.left.now
  pub serves : Serves problems.whole.now problems.failures.now

-- a question about a class, with marks of the routers that it names
pub record IsAsking (asking : Asking) : Type 0 where
  pub scene : IsScene asking.scene.now asking.problems.now
  pub marks : AreMarksFor asking.problems.now.whole.now.names asking.asks.now asking.named.now
