-- What a request comes to before its classes.
use Rattle.std.specs.Prelude.{◌≡◌, Bool}
use Rattle.cfg_ast.specs.declared.network.Network.{Network}
use Rattle.cfg_ast.specs.meaning.Topology.{links_of}
use Rattle.ask_words.specs.declared.request.Request.{Request}
use Rattle.ask_names.specs.Marks.{AreMarksIn}
use Rattle.ask_names.specs.Networks.{names_of}
use Rattle.ask_names.specs.Routers.{routers_lost, links_lost}
use Rattle.ask_answers.specs.Reports.{manner_of}
use Rattle.ask_answers.specs.declared.plan.Plan.{Plan}

-- how the request writes, what is down, and the routers that it names
pub record IsRequestPlan (shows : Bool) (network : Network) (request : Request) (plan : Plan) : Type 0 where
  pub manner : plan.manner ≡ manner_of shows request
  pub routers : plan.routers_down.items ≡ routers_lost (names_of network) request.down
  pub links : plan.links_down.items ≡ links_lost (names_of network) (links_of network) request.down
  pub named : AreMarksIn (names_of network) request.task plan.named
