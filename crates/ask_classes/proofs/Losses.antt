-- The losses that are tried over a scene, and questions about what is left.
use Rattle.std.proofs.Common.{◌≡◌, ℕ, Bool, List, length, sym, ap, ◌∙◌, subst}
use Rattle.cfg_ast.specs.declared.topology.Link.{Link}
use Rattle.srp_core.specs.Problem.{Problem}
use Rattle.srp_core.specs.Without.{Down, IsWithout}
use Rattle.srp_questions.specs.Questions.{IsAskedOf}
use Rattle.srp_questions.specs.declared.question.Question.{Question}
use Rattle.ask_words.specs.declared.request.AskedOf.{AskedOf}
use Rattle.ask_names.proofs.Marks.{asked_of_problem}
use Rattle.ask_names.specs.Routers.{question_for}
use Rattle.ask_classes.specs.Failing.{Loss, is_link_left, loss_of_link, is_router_left, loss_of_router}
use Rattle.ask_classes.specs.declared.asking.Asking.{Asking}

abbrev pub link_loss : Asking → ℕ × Link → Loss
link_loss asking = loss_of_link asking.problems.now.whole.now.names asking.scene.now.links.now asking.scene.now.routers_down.now asking.scene.now.links_down.now

abbrev pub link_left : Asking → ℕ × Link → Bool
link_left asking = is_link_left asking.scene.now.routers_down.now asking.scene.now.links_down.now

abbrev pub router_loss : Asking → ℕ × List ℕ → Loss
router_loss asking = loss_of_router asking.scene.now.routers_down.now asking.scene.now.links_down.now

abbrev pub router_left : Asking → ℕ × List ℕ → Bool
router_left asking = is_router_left asking.scene.now.routers_down.now

-- a question about routers that are named is asked of routers of what is left
pub asked_of_left : (whole other : Problem) (lost down : Down) (asks : AskedOf) (question : Question) → IsWithout whole lost other →
    question ≡ question_for whole.names down asks →
    IsAskedOf other question
asked_of_left whole other lost down asks question without is =
    subst (IsAskedOf other) (sym is) (asked_of_problem other whole.names down asks
    (ap (λ (ns : List (List ℕ)). length ns) (sym without.names) ∙ without.rules.tables.names))
