-- What a request writes of a class, from what its task writes.
use Rattle.std.proofs.Common.{◌≡◌, ℕ, Bool, List, subst}
use Rattle.cfg_ast.specs.declared.classes.DestClass.{DestClass}
use Rattle.cfg_ast.specs.declared.network.Network.{Network}
use Rattle.cfg_ast.specs.meaning.Topology.{links_of}
use Rattle.solution_answers.specs.Writing.{Writes}
use Rattle.srp_core.specs.Problem.{Problem}
use Rattle.srp_core.specs.Without.{marked_down, IsWithout}
use Rattle.ask_words.specs.declared.request.Request.{Request}
use Rattle.ask_names.specs.Networks.{names_of}
use Rattle.ask_names.specs.Routers.{routers_lost, links_lost}
use Rattle.ask_classes.specs.Tasks.{IsClassPart, IsTaskPart}
use Rattle.ask_classes.specs.declared.manner.Manner.{Manner}
use Rattle.ask_answers.specs.Atlases.{IsKnownFor}
use Rattle.ask_answers.specs.declared.problems.KnownProblem.{KnownProblem}

pub class_written : (network : Network) (request : Request) (manner : Manner) (number : ℕ) (class : DestClass) (known : KnownProblem) (left : Problem)
    (routers links : List Bool) (old new : List ℕ) (all : Bool) → routers ≡ routers_lost (names_of network) request.down
    → links ≡ links_lost (names_of network) (links_of network) request.down → IsKnownFor network class known
    → IsWithout known.whole (marked_down routers links) left
    → Writes (IsTaskPart manner network routers links number known.whole left request.task) old new all
    → Writes (IsClassPart manner network request (number, class)) old new all
class_written network request manner number class known left routers links old new all are_routers are_links is without written =
    let lost = routers_lost (names_of network) request.down in
    record {
      part = written.part;
      is = record {
        whole = known.whole;
        of_class = is.built.of;
        problem = left;
        without = subst (λ (ls : List Bool). IsWithout known.whole (marked_down lost ls) left) are_links
            (subst (λ (rs : List Bool). IsWithout known.whole (marked_down rs links) left) are_routers without);
        written = subst (λ (ls : List Bool). IsTaskPart manner network lost ls number known.whole left request.task written.part) are_links
            (subst (λ (rs : List Bool). IsTaskPart manner network rs links number known.whole left request.task written.part) are_routers written.is);
      };
      bytes = written.bytes;
      all_is = written.all_is;
    }
