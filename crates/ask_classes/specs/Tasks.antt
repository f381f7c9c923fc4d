-- What a task writes of one class.
use Rattle.std.specs.Prelude.{ℕ, Bool, List}
use Rattle.cfg_ast.specs.declared.classes.DestClass.{DestClass}
use Rattle.cfg_ast.specs.declared.network.Network.{Network}
use Rattle.cfg_ast.specs.meaning.Topology.{links_of}
use Rattle.answer_kit.specs.Groups.{IsProblemOfClass}
use Rattle.srp_core.specs.Problem.{Problem}
use Rattle.srp_core.specs.Without.{marked_down, IsWithout}
use Rattle.ask_words.specs.declared.request.Request.{Request}
use Rattle.ask_words.specs.declared.request.Task.{Task}
use Rattle.ask_words.specs.declared.request.Task.TheVariants as task
use Rattle.ask_names.specs.Networks.{names_of}
use Rattle.ask_names.specs.Routers.{routers_lost, links_lost, question_for}
use Rattle.solution_answers.specs.Parts.{Part}
use Rattle.solution_answers.specs.Questions.{IsAnswerPart}
use Rattle.solution_answers.specs.Solutions.{IsCountPart, IsSolutionsPart}
use Rattle.solution_answers.specs.Told.{IsToldAs}
use Rattle.solution_answers.specs.declared.told.Told.TheVariants as told
use Rattle.ask_classes.specs.declared.manner.Manner.{Manner}
use Rattle.ask_classes.specs.Failing.{IsFailingPart, link_losses, router_losses}

-- what a task writes of a class, over the problem of the class and that without what is down
abbrev pub IsTaskPart : Manner → Network → List Bool → List Bool → ℕ → Problem → Problem → Task → Part → Type 0
IsTaskPart manner network routers links number whole problem task.Count part = IsCountPart number problem part
IsTaskPart manner network routers links number whole problem task.Solutions part = IsSolutionsPart (IsToldAs told.Labels) manner.one number problem part
IsTaskPart manner network routers links number whole problem task.Forwards part = IsSolutionsPart (IsToldAs told.Hops) manner.one number problem part
IsTaskPart manner network routers links number whole problem (task.Answer asks) part =
    IsAnswerPart manner.shows number (question_for whole.names (marked_down routers links) asks) problem part
IsTaskPart manner network routers links number whole problem (task.FailingLinks asks) part =
    IsFailingPart asks number whole (marked_down routers links) (link_losses whole.names (links_of network) routers links) problem part
IsTaskPart manner network routers links number whole problem (task.FailingRouters asks) part =
    IsFailingPart asks number whole (marked_down routers links) (router_losses whole.names routers links) problem part

-- what a request writes of a class with its number
pub record IsClassPart (manner : Manner) (network : Network) (request : Request) (numbered : ℕ × DestClass) (part : Part) : Type 0 where
  pub whole : Problem
  pub of_class : IsProblemOfClass network numbered.1 whole
  pub problem : Problem
  pub without : IsWithout whole (marked_down (routers_lost (names_of network) request.down) (links_lost (names_of network) (links_of network) request.down)) problem
  pub written : IsTaskPart manner network (routers_lost (names_of network) request.down) (links_lost (names_of network) (links_of network) request.down) numbered.0
      whole problem request.task part
