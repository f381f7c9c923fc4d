-- Each chain of routers lies above a chain of groups. Above each chain of groups lies a chain of routers
-- from each member of its first group.
use Rattle.std.proofs.Common.{◌≡◌, ℕ, ◌<◌, zero, suc, List, refl, sym, ap, ◌∙◌, subst, Option, None}
use Rattle.srp_core.specs.declared.route.Route.{Route}
use Rattle.srp_core.specs.Problem.{Problem, count, IsProblem}
use Rattle.srp_core.specs.Stability.{label, ForwardsTo, HaveSameKeys}
use Rattle.srp_core.specs.Quotient.{group_of, IsQuotient, Corresponds}
use Rattle.quotient_laws.specs.Questions.{itself, has_routes, is_no_longer, is_nowhere_longer, passes, HasHops, HasHopsAround, QuestionsCarry}
use Rattle.quotient_laws.proofs.Answered.{AnswersAlike, Down, Up, carries}

none_below : (P Q : Problem) (a b : Option Route) → HaveSameKeys P Q a b → a ≡ None → b ≡ None
none_below P Q a b (HaveSameKeys.both_none none other) e = other
none_below P Q a b (HaveSameKeys.both_some r s is other keys) e = absurd (cc)

none_above : (P Q : Problem) (a b : Option Route) → HaveSameKeys P Q a b → b ≡ None → a ≡ None
none_above P Q a b (HaveSameKeys.both_none none other) e = none
none_above P Q a b (HaveSameKeys.both_some r s is other keys) e = absurd (cc)

-- a router forwards to a router of the problem
next_inside : (P : Problem) → IsProblem P → (labels : List (Option Route)) (u v : ℕ) → ForwardsTo P labels u v → v < count P
next_inside P rules labels u v f = subst (λ k. k < count P) f.exporter (rules.edges.inside f.edge f.edge_in).exporter_in

module _ (P Q : Problem) (groups : List ℕ) (rules : IsProblem P) (q : IsQuotient P groups Q) (labels lower : List (Option Route))
    (c : Corresponds P Q groups labels lower) where
  routes_alike : AnswersAlike P Q groups has_routes labels lower
  routes_alike = record {
    below = λ each g inside none. (
        let m = q.onto g inside in
        each m.0 m.1 (none_above P Q (label labels m.0) (label lower (group_of groups m.0)) (c.keys m.0 m.1) (ap (label lower) m.2 ∙ none)));
    above = λ each u inside none. each (group_of groups u) (q.inside u inside)
        (none_below P Q (label labels u) (label lower (group_of groups u)) (c.keys u inside) none);
  }

  hops_down : (hops u v : ℕ) → u < count P → HasHops P labels hops u v → HasHops Q lower hops (group_of groups u) (group_of groups v)
  hops_down zero u v inside same = ap (group_of groups) same
  hops_down (suc hops) u v inside chain = (
    group_of groups chain.0,
    c.down u chain.0 inside chain.1,
    hops_down hops chain.0 v (next_inside P rules labels u chain.0 chain.1) chain.2,
  )

  hops_up : (hops u h : ℕ) → u < count P → HasHops Q lower hops (group_of groups u) h → (v : ℕ) × HasHops P labels hops u v × (group_of groups v ≡ h)
  hops_up zero u h inside same = (u, refl, same)
  hops_up (suc hops) u h inside chain =
      let next = c.up u chain.0 inside chain.1 in
      let rest = hops_up hops next.0 h (next_inside P rules labels u next.0 next.1) (subst (λ k. HasHops Q lower hops k h) (sym next.2) chain.2) in
      (rest.0, (next.0, next.1, rest.1), rest.2)

  length_alike : (most g : ℕ) → AnswersAlike P Q groups (is_no_longer most g) labels lower
  length_alike most g = record {
    below = λ none hops u v long inside same chain. (
        let m = q.onto u inside in
        let above = hops_up hops m.0 v m.1 (subst (λ k. HasHops Q lower hops k v) (sym m.2) chain) in
        none hops m.0 above.0 long m.1 (m.2 ∙ same) above.1);
    above = λ none hops u v long inside same chain. none hops (group_of groups u) (group_of groups v) long (q.inside u inside) same
        (hops_down hops u v inside chain);
  }

  longest_alike : (most : ℕ) → AnswersAlike P Q groups (is_nowhere_longer most) labels lower
  longest_alike most = record {
    below = λ none g. (length_alike most g).below (none g);
    above = λ none g. (length_alike most g).above (none g);
  }

  around_down : (w hops u v : ℕ) → u < count P → HasHopsAround w P (group_of groups) labels hops u v
      → HasHopsAround w Q itself lower hops (group_of groups u) (group_of groups v)
  around_down w zero u v inside chain = (ap (group_of groups) chain.0, chain.1)
  around_down w (suc hops) u v inside chain = (
    chain.0,
    (
      group_of groups chain.1.0,
      c.down u chain.1.0 inside chain.1.1,
      around_down w hops chain.1.0 v (next_inside P rules labels u chain.1.0 chain.1.1) chain.1.2,
    ),
  )

  around_up : (w hops u h : ℕ) → u < count P → HasHopsAround w Q itself lower hops (group_of groups u) h
      → (v : ℕ) × HasHopsAround w P (group_of groups) labels hops u v × (group_of groups v ≡ h)
  around_up w zero u h inside chain = (u, (refl, chain.1), chain.0)
  around_up w (suc hops) u h inside chain =
      let next = c.up u chain.1.0 inside chain.1.1 in
      let rest = around_up w hops next.0 h (next_inside P rules labels u next.0 next.1)
      (subst (λ k. HasHopsAround w Q itself lower hops k h) (sym next.2) chain.1.2) in
      (rest.0, (chain.0, (next.0, next.1, rest.1)), rest.2)

  passes_alike : (g h w : ℕ) → AnswersAlike P Q groups (passes g h w) labels lower
  passes_alike g h w = record {
    below = λ none hops u v inside from to chain. (
        let m = q.onto u inside in
        let above = around_up w hops m.0 v m.1 (subst (λ k. HasHopsAround w Q itself lower hops k v) (sym m.2) chain) in
        none hops m.0 above.0 m.1 (m.2 ∙ from) (above.2 ∙ to) above.1);
    above = λ none hops u v inside from to chain. none hops (group_of groups u) (group_of groups v) (q.inside u inside) from to
        (around_down w hops u v inside chain);
  }

pub questions_carry : Down → Up → QuestionsCarry
questions_carry down up P Q groups q = record {
  reachability = carries down up P Q groups q has_routes (routes_alike P Q groups q.rules q.quotient);
  path_length = λ most g. carries down up P Q groups q (is_no_longer most g)
      (λ labels lower c. length_alike P Q groups q.rules q.quotient labels lower c most g);
  longest = λ most. carries down up P Q groups q (is_nowhere_longer most)
      (λ labels lower c. longest_alike P Q groups q.rules q.quotient labels lower c most);
  waypoint = λ g h w. carries down up P Q groups q (passes g h w) (λ labels lower c. passes_alike P Q groups q.rules q.quotient labels lower c g h w);
}
