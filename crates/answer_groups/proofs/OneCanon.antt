-- A class has one canonical problem, or one first edge without canonical lists, so `canon` has one outcome.
use Rattle.std.proofs.Common.{◌≡◌, ℕ, ◌<◌, Bool, true, false, List, [], ◌∷◌, ◌++◌, length, Option, Some, None, inl, inr, refl, sym, ap, ◌∙◌, subst, ext_get_or}
use Rattle.std.specs.Prelude.{Contains, slice_index_or, is_some}
use Rattle.std.specs.List.{AllByRecursion}
use Rattle.base_kit.specs.declared.act_graph.Edge.{Edge}
use Rattle.base_kit.specs.declared.protocol.Protocol.{Protocol}
use Rattle.base_kit.proofs.Elements.{In, contains_in, get_in}
use Rattle.cfg_ast.specs.declared.network.Network.{Network}
use Rattle.cfg_ast.specs.declared.classes.DestClass.{DestClass}
use Rattle.cfg_ast.specs.meaning.Classes.{classes_of}
use Rattle.cfg_ast.specs.meaning.PolicyFaults.{communities_of}
use Rattle.canon_policy.specs.CanonicalProblem.{canonical_act, has_canonical, IsCanonicalProblem, IsFirstWithout}
use Rattle.config_emit.specs.Pool.{pool_line}
use Rattle.srp_build.specs.ActOrder.{AreActsByFirstUse}
use Rattle.srp_core.specs.declared.route.Act.{Act}
use Rattle.srp_core.specs.declared.route.Act.TheVariants.{Cost}
use Rattle.srp_core.specs.declared.route.Route.{Route}
use Rattle.srp_core.specs.Problem.{Problem, act_of}
use Rattle.answer_kit.specs.Outcome.{Outcome, refused}
use Rattle.answer_groups.specs.CanonText.{IsCanonicalFor, IsCanonicalPlanOf, no_canon, IsWithoutCanon, IsWithCanon, IsCanonOf}
use Rattle.answer_groups.specs.CompressText.{IsTextOfPlan}
use Rattle.answer_groups.proofs.OnePlan.{built_is_one, one_plan, one_text, one_unless_pool}

-- ---- the canonical problem

abbrev made : Protocol → List (List ℕ) → List ℕ → List (Option Route) → List Bool → List Act → List Edge → Problem
made protocol names numbers init lone acts edges =
    record { protocol = protocol; names = names; numbers = numbers; init = init; lone = lone; acts = acts; edges = edges }

module _ (universe : List ℕ) (old P Q : Problem) (order : AreActsByFirstUse old)
    (x : IsCanonicalProblem universe old P) (y : IsCanonicalProblem universe old Q) where
  one_act : (k : ℕ) → k < length old.acts → slice_index_or P.acts k (Cost 0) ≡ slice_index_or Q.acts k (Cost 0)
  one_act k h =
      let used = order.used k h in
      let has = contains_in old.edges used.edge (get_in old.edges used.earlier used.edge used.at) in
      let one : act_of P used.edge ≡ act_of Q used.edge = (let a = x.used used.edge has in let b = y.used used.edge has in cc) in
      subst (λ (m : ℕ). slice_index_or P.acts m (Cost 0) ≡ slice_index_or Q.acts m (Cost 0)) used.same one

  one_acts : P.acts ≡ Q.acts
  one_acts = ext_get_or (Cost 0) P.acts Q.acts (x.count ∙ sym y.count) (λ k h. one_act k (subst (λ (m : ℕ). k < m) x.count h))

  pub one_canonical : P ≡ Q
  one_canonical =
      let protocols = x.protocol ∙ sym y.protocol in
      let names = x.names ∙ sym y.names in
      let numbers = x.numbers ∙ sym y.numbers in
      let inits = x.init ∙ sym y.init in
      let lones = x.lone ∙ sym y.lone in
      let edges = x.edges ∙ sym y.edges in
      λ j. made (protocols j) (names j) (numbers j) (inits j) (lones j) (one_acts j) (edges j)

canonical_is_one : (n : Network) (class : DestClass) → Contains (classes_of n) class
    → (P Q : Problem) → IsCanonicalFor n class P → IsCanonicalFor n class Q → P ≡ Q
canonical_is_one n class has P Q x y =
    let originals = built_is_one n class has x.original y.original x.built y.built in
    one_canonical (communities_of n) y.original P Q y.built.order
    (subst (λ (old : Problem). IsCanonicalProblem (communities_of n) old P) originals x.canonical) y.canonical

-- ---- the first edge without canonical lists

is_without : (universe : List ℕ) (problem : Problem) (e : Edge) → canonical_act universe (act_of problem e) ≡ None → has_canonical universe problem e ≡ false
is_without universe problem e none = ap is_some none

module _ (universe : List ℕ) (problem : Problem) where
  abbrev AllHave : List Edge → Type 0
  AllHave before = AllByRecursion (λ earlier. has_canonical universe problem earlier ≡ true) before

  one_first : (before others : List Edge) (e f : Edge) (after more : List Edge) → before ++ e ∷ after ≡ others ++ f ∷ more
      → canonical_act universe (act_of problem e) ≡ None → canonical_act universe (act_of problem f) ≡ None
      → AllHave before → AllHave others → e ≡ f
  one_first [] [] e f after more same a b x y = cc
  one_first [] (d ∷ others) e f after more same a b x y = (
      let here : e ≡ d = cc in
      absurd (let no : false ≡ true = sym (is_without universe problem e a) ∙ ap (has_canonical universe problem) here ∙ y.0 in cc))
  one_first (d ∷ before) [] e f after more same a b x y = (
      let here : f ≡ d = cc in
      absurd (let no : false ≡ true = sym (is_without universe problem f b) ∙ ap (has_canonical universe problem) here ∙ x.0 in cc))
  one_first (d ∷ before) (c ∷ others) e f after more same a b x y = (
      let rest : before ++ e ∷ after ≡ others ++ f ∷ more = cc in
      one_first before others e f after more rest a b x.1 y.1)

  one_edge : (p q : ℕ) (x : IsFirstWithout universe problem p) (y : IsFirstWithout universe problem q) → x.edge ≡ y.edge
  one_edge p q x y = one_first x.before y.before x.edge y.edge x.after y.after (sym x.split ∙ y.split) x.none y.none x.earlier y.earlier

  in_middle : (before : List Edge) (e : Edge) (after : List Edge) → In (before ++ e ∷ after) e
  in_middle [] e after = inl refl
  in_middle (d ∷ before) e after = inr (in_middle before e after)

  -- no edge is without them where there is a canonical problem
  pub not_both : (p : ℕ) (new : Problem) → IsFirstWithout universe problem p → IsCanonicalProblem universe problem new → ⊥
  not_both p new x is =
      let has = contains_in problem.edges x.edge (subst (λ (es : List Edge). In es x.edge) (sym x.split) (in_middle x.before x.edge x.after)) in
      let some = is.used x.edge has in
      let none = x.none in
      cc

-- what is reported of a problem that has such an edge
record IsToldOf (universe : List ℕ) (problem : Problem) (o : Outcome) : Type 0 where
  place : ℕ
  first : IsFirstWithout universe problem place
  told : o ≡ refused (no_canon problem first.edge)

one_told : (universe : List ℕ) (problem : Problem) (o p : Outcome) → IsToldOf universe problem o → IsToldOf universe problem p → o ≡ p
one_told universe problem o p x y =
    x.told ∙ ap (λ (e : Edge). refused (no_canon problem e)) (one_edge universe problem x.place y.place x.first y.first) ∙ sym y.told

-- ---- one outcome

module _ (n : Network) (class : DestClass) (has : Contains (classes_of n) class) where
  told_of : (o : Outcome) (x : IsWithoutCanon n class o) → IsToldOf (communities_of n) x.problem o
  told_of o x = record { place = x.place; first = x.first; told = x.told }

  one_without : (o p : Outcome) → IsWithoutCanon n class o → IsWithoutCanon n class p → o ≡ p
  one_without o p x y =
      let problems = built_is_one n class has x.problem y.problem x.built y.built in
      one_told (communities_of n) y.problem o p (subst (λ (problem : Problem). IsToldOf (communities_of n) problem o) problems (told_of o x)) (told_of p y)

  with_and_without : (o p : Outcome) → IsWithoutCanon n class o → IsWithCanon n class p → ⊥
  with_and_without o p x y =
      let problems = built_is_one n class has x.problem y.is.original x.built y.is.built in
      let told = subst (λ (problem : Problem). IsToldOf (communities_of n) problem o) problems (told_of o x) in
      not_both (communities_of n) y.is.original told.place y.problem told.first y.is.canonical

  one_with : (o p : Outcome) → IsWithCanon n class o → IsWithCanon n class p → o ≡ p
  one_with o p x y =
      one_unless_pool (IsTextOfPlan (IsCanonicalPlanOf n class))
      (one_text (IsCanonicalPlanOf n class) (one_plan IsCanonicalFor n class (canonical_is_one n class has)))
      (pool_line n class) o p x.emission y.emission

  pub one_canon : (o p : Outcome) → IsCanonOf n class o → IsCanonOf n class p → o ≡ p
  one_canon o p (inl x) (inl y) = one_without o p x y
  one_canon o p (inl x) (inr y) = absurd (with_and_without o p x y)
  one_canon o p (inr x) (inl y) = absurd (with_and_without p o y x)
  one_canon o p (inr x) (inr y) = one_with o p x y
