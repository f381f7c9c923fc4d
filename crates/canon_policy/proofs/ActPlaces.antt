-- The act of the edge at a place, as it becomes canonical.
use Rattle.std.proofs.Common.{◌≡◌, ℕ, ◌+◌, ◌<◌, Bool, true, false, List, [], ◌∷◌, ◌++◌, length, get_or, take, set, Some, Err, sym, ◌∙◌, ap, subst, arith}
use Rattle.std.specs.List.{AllByRecursion}
use Rattle.std.proofs.lemmas.List.{take_more, get_or_default}
use Rattle.base_kit.specs.declared.act_graph.Edge.{Edge}
use Rattle.base_kit.proofs.Elements.{In, contains_in, in_at}
use Rattle.srp_core.specs.declared.route.Act.{Act}
use Rattle.srp_core.specs.declared.route.Act.TheVariants.{Cost}
use Rattle.srp_core.specs.Problem.{Problem, IsProblem}
use Rattle.canon_policy.specs.CanonicalProblem.{canonical_act}
use Rattle.canon_policy.specs.declared.lists.CanonRefusal.{CanonRefusal}
use Rattle.canon_policy.specs.declared.lists.CanonRefusal.TheVariants.{NoCanon, Memory}
use Rattle.canon_policy.specs.MadeActs.{at_place, act_at_place, IsActFor, IsCanonicalActOr, AreActsSoFar, IsRefusedAtFirst}
use Rattle.canon_policy.proofs.ActsSoFar.{at_index, seen_again, seen_first, first_without}

abbrev pub edge_at : List Edge → ℕ → Edge
edge_at edges place = get_or edges place (record { importer = 0; exporter = 0; act = 0; link = 0 })

module _ (problem : Problem) (rules : IsProblem problem) where
  pub in_acts : (edge : Edge) → In problem.edges edge → edge.act < length problem.acts
  in_acts edge h = (rules.edges.inside edge (contains_in problem.edges edge h)).act_in

  -- the edge at a place of the edges as read
  module _ (edges : List Edge) (are : edges ≡ problem.edges) (place : ℕ) (lt : place < length problem.edges) where
    there : In problem.edges (edge_at edges place)
    there = subst (λ (l : List Edge). In problem.edges (edge_at l place)) (sym are)
        (in_at problem.edges (edge_at problem.edges place) place lt (get_or_default problem.edges place _ _ lt))

    pub act_inside : (edge_at edges place).act < length problem.acts
    act_inside = in_acts (edge_at edges place) there

    next : take (place + 1) problem.edges ≡ take place problem.edges ++ edge_at edges place ∷ []
    next = subst (λ (l : List Edge). take (place + 1) problem.edges ≡ take place problem.edges ++ edge_at l place ∷ []) (sym are)
        (take_more problem.edges place (record { importer = 0; exporter = 0; act = 0; link = 0 }) lt)

    at_own : edge_at edges place ≡ get_or problem.edges place (edge_at edges place)
    at_own = ap (λ (l : List Edge). edge_at l place) are ∙ get_or_default problem.edges place _ _ lt

    -- the act as read
    module _ (acts : List Act) (acts_are : acts ≡ problem.acts) (act : Act) (is : act ≡ get_or acts (edge_at edges place).act act) where
      act_is : act ≡ act_at_place problem.acts (edge_at edges place).act
      act_is =
          is ∙ ap (λ (l : List Act). get_or l (edge_at edges place).act act) acts_are
          ∙ get_or_default problem.acts (edge_at edges place).act _ _ act_inside

      pub act_holds : (P : Act → Type 0) → AllByRecursion P problem.acts → P act
      act_holds P all = subst P (sym act_is) (at_index P problem.acts (edge_at edges place).act (Cost 0) act_inside all)

      module _ (universe : List ℕ) (made : List Act) (done : List Bool) (so : AreActsSoFar universe problem (take place problem.edges) made done) where
        pub seen_now : (new : Act) → canonical_act universe act ≡ Some new → IsActFor universe act new
            → AreActsSoFar universe problem (take (place + 1) problem.edges)
            (set made (edge_at edges place).act new) (set done (edge_at edges place).act true)
        seen_now new canonical instead =
            subst
            (λ (l : List Edge). AreActsSoFar universe problem l (set made (edge_at edges place).act new) (set done (edge_at edges place).act true)) (sym next)
            (seen_first universe problem (take place problem.edges) made done so (edge_at edges place) act_inside new
            (ap (canonical_act universe) (sym act_is) ∙ canonical)
            (subst (λ (a : Act). IsActFor universe a new) act_is instead))

        pub refused_first : (refusal : CanonRefusal) → IsCanonicalActOr universe act (Err refusal)
            → IsRefusedAtFirst universe problem (Err (at_place refusal place))
        refused_first NoCanon none =
            first_without universe problem made done in_acts place (edge_at edges place) lt at_own so (ap (canonical_act universe) (sym act_is) ∙ none)
        refused_first Memory none = tt

    pub seen_before : (universe : List ℕ) (made : List Act) (done : List Bool) → AreActsSoFar universe problem (take place problem.edges) made done
        → (mark other : Bool) → mark ≡ get_or done (edge_at edges place).act other → mark ≡ true
        → AreActsSoFar universe problem (take (place + 1) problem.edges) made done
    seen_before universe made done so mark other read marked =
        subst (λ (l : List Edge). AreActsSoFar universe problem l made done) (sym next)
        (seen_again universe problem (take place problem.edges) made done so (edge_at edges place)
        (get_or_default done (edge_at edges place).act false other (let n = so.done_count in let i = act_inside in omega arith) ∙ sym read ∙ marked))
