-- What solutions that were seen say of a question.
use Rattle.std.proofs.Common.{rules, ◌≡◌, All, Contains, List, [], sym, subst, Option}
use Rattle.std.proofs.lemmas.List.Elements.{All-contains}
use Rattle.srp_core.specs.declared.route.Route.{Route}
use Rattle.srp_core.specs.Problem.{Problem, IsProblem}
use Rattle.srp_core.specs.Stability.{label, HaveSameKeys}
use Rattle.srp_core.specs.Stability.HaveSameKeys.{both_none, both_some}
use Rattle.srp_core.specs.Solutions.{HaveEqualKeys, AreAllSolutions}
use Rattle.srp_questions.specs.declared.question.Question.{Question}
use Rattle.srp_questions.specs.Answers.{HoldsInAll, HasNoSolution}
use Rattle.srp_questions.specs.Laws.{KeysDecide}
use Rattle.srp_questions.specs.Questions.{IsTrueIn}

module _ (problem : Problem) where
  turned_at : (a b : Option Route) → HaveSameKeys problem problem a b → HaveSameKeys problem problem b a
  turned_at a b (both_none x y) = both_none y x
  turned_at a b (both_some r s x y e) = both_some s r y x (sym e)

  turned : (first second : List (Option Route)) → HaveEqualKeys problem first second → HaveEqualKeys problem second first
  turned first second keys u inside = turned_at (label first u) (label second u) (keys u inside)

  -- true in each member of a list of all solutions, so true in all solutions
  pub in_all : KeysDecide → (asked : Question) (found : List (List (Option Route))) → IsProblem problem → AreAllSolutions problem found
      → All (IsTrueIn asked problem) found → (labels : List (Option Route)) × Contains found labels → HoldsInAll problem (IsTrueIn asked problem)
  in_all keys asked found rules are holds (some, inside) = record {
    some = some;
    stable = are.stable some inside;
    all = λ labels stable. (let like = are.all labels stable in
        keys problem asked like.member labels rules (are.stable like.member like.inside) stable (turned labels like.member like.keys)
        (All-contains (IsTrueIn asked problem) found like.member holds like.inside));
  }

  -- without a member there is no solution
  pub none_at_all : (found : List (List (Option Route))) → AreAllSolutions problem found → found ≡ [] → HasNoSolution problem
  none_at_all found are none labels stable =
      let like = are.all labels stable in
      let inside : Contains [] like.member = subst (λ (all : List (List (Option Route))). Contains all like.member) none like.inside in
      All-contains (λ (labels : List (Option Route)). ⊥) [] like.member (search rules) inside
