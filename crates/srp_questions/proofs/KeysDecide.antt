-- What is true in stable labels is true in all that have the same keys.
use Rattle.std.proofs.Common.{◌≡◌, ◌≢◌, ◌⊎◌, ℕ, ◌<◌, List, [], ◌∷◌, Option, Some, None, refl, sym, ap, ◌∙◌, subst, arith, inl, inr}
use Rattle.std.specs.Prelude.{All, Contains, slice_index_or}
use Rattle.std.proofs.lemmas.Bool.{cases_lt}
use Rattle.std.proofs.lemmas.List.{get_or_past}
use Rattle.srp_core.specs.declared.route.Route.{Route}
use Rattle.srp_core.specs.Routes.{comms_of, Key}
use Rattle.srp_core.specs.Problem.{Problem, count, key_of, IsProblem}
use Rattle.srp_core.specs.Solutions.{HaveEqualKeys}
use Rattle.srp_core.specs.Stability.{label, ForwardsTo, IsStable, HaveSameKeys, both_none, both_some}
use Rattle.srp_core.proofs.Filling.{IsTied}
use Rattle.srp_core.proofs.Forwarding.{forwarded}
use Rattle.srp_core.proofs.Matching.{Held, identity}
use Rattle.srp_questions.specs.declared.question.Question.{Question}
use Rattle.srp_questions.specs.declared.question.Question.TheVariants as question
use Rattle.srp_questions.specs.Chains.{IsChain}
use Rattle.srp_questions.specs.Laws.{KeysDecide}
use Rattle.srp_questions.specs.Questions.{IsTrueIn, IsWithinHops, PassesThrough, StaysOff, HoldsCommunity, LacksCommunity}
use Rattle.srp_questions.proofs.ChainFacts.{from_inside}

module _ (P : Problem) where
  -- a router of the problem, matched to itself
  abbrev Same : ℕ → ℕ → Type 0
  Same u v = u ≡ v × (u < count P)

  held_by : (u : ℕ) (a b : Option Route) (r : Route) (L : List (Option Route)) → label L u ≡ b → HaveSameKeys P P a b → a ≡ Some r → Held P L u (key_of P r)
  held_by u a b r L is (both_none none other) e = absurd (cc)
  held_by u a b r L is (both_some s t some other keys) e =
      let one : s ≡ r = cc in
      record { route = t; labelled = is ∙ other; keyed = sym keys ∙ ap (key_of P) one }

  tied_by : (L L' : List (Option Route)) → HaveEqualKeys P L L' → IsTied P P (λ u v. u ≡ v × (u < count P)) L L'
  tied_by L L' keys = record {
    held = λ u v r x e.
        subst (λ w. Held P L' w (key_of P r)) x.0 (held_by u (label L u) (label L' u) r L' refl (keys u x.1) e);
  }

  back_by : (L L' : List (Option Route)) → HaveEqualKeys P L L' → IsTied P P (λ u v. v ≡ u × (v < count P)) L L'
  back_by L L' keys = record {
    held = λ u v r x e.
        held_by v (label L v) (label L' v) r L' refl (keys v x.1) (subst (λ w. label L w ≡ Some r) (sym x.0) e);
  }

  turned : (L L' : List (Option Route)) → HaveEqualKeys P L L' → HaveEqualKeys P L' L
  turned L L' keys u inside = by (keys u inside)
    where
      by : HaveSameKeys P P (label L u) (label L' u) → HaveSameKeys P P (label L' u) (label L u)
      by (both_none none other) = both_none other none
      by (both_some r s is other same) = both_some s r other is (sym same)

  module _ (good : IsProblem P) (L L' : List (Option Route)) (st : IsStable P L) (st' : IsStable P L') (keys : HaveEqualKeys P L L') where
    -- who forwards under the second labels forwards under the first
    forwards_back : (u v : ℕ) → ForwardsTo P L' u v → ForwardsTo P L u v
    forwards_back u v f =
        let w = forwarded P P (λ a b. a ≡ b × (a < count P)) (identity P good) good good L st L' st' (tied_by L' L (turned L L' keys)) (back_by L L' keys)
        u u v (refl, from_inside P good L' u v f) f in
        subst (ForwardsTo P L u) (sym w.2.0) w.1

    chain_back : (u : ℕ) (behind : List ℕ) → IsChain P L' u behind → IsChain P L u behind
    chain_back u [] chain = tt
    chain_back u (v ∷ rest) chain = (forwards_back u v chain.0, chain_back v rest chain.1)

    -- a router outside of the problem has no label
    outside : (u : ℕ) → (u < count P) ⊎ (label L' u ≡ None)
    outside u = elim (cases_lt u (count P)) [
      | inl inside ↦ inl inside
      | inr past ↦ inr (get_or_past L' u None (let t = st'.fitting.total in omega (arith, t, past)))
    ]

    none_by : (a b : Option Route) → HaveSameKeys P P a b → b ≡ None → a ≡ None
    none_by a b (both_none none other) e = none
    none_by a b (both_some r s is other same) e = absurd (cc)

    by_none : (a b : Option Route) → HaveSameKeys P P a b → a ≡ None → b ≡ None
    by_none a b (both_none none other) e = other
    by_none a b (both_some r s is other same) e = absurd (cc)

    routed : (u : ℕ) → label L u ≢ None → label L' u ≢ None
    routed u some none = some (elim (cases_lt u (count P)) [
      | inl inside ↦ none_by (label L u) (label L' u) (keys u inside) none
      | inr past ↦ get_or_past L u None (let t = st.fitting.total in omega (arith, t, past))
    ])

    unrouted : (u : ℕ) → label L u ≡ None → label L' u ≡ None
    unrouted u none = elim (outside u) [ inl inside ↦ by_none (label L u) (label L' u) (keys u inside) none | inr out ↦ out ]

    -- the label before, of the same communities
    record HasLike (u : ℕ) (r : Route) : Type 0 where
      route : Route
      labelled : label L u ≡ Some route
      comms : comms_of route ≡ comms_of r

    like_by : (u : ℕ) (r : Route) → HaveSameKeys P P (label L u) (label L' u) → label L' u ≡ Some r → HasLike u r
    like_by u r (both_none none other) e = absurd (cc)
    like_by u r (both_some s t is other same) e =
        let one : t ≡ r = cc in
        record { route = s; labelled = is; comms = ap (λ (k : Key). k.comms) same ∙ ap comms_of one }

    like : (u : ℕ) (r : Route) → label L' u ≡ Some r → HasLike u r
    like u r e = elim (outside u) [ inl inside ↦ like_by u r (keys u inside) e | inr out ↦ absurd (cc) ]

    carried : (c u : ℕ) → HoldsCommunity L c u → HoldsCommunity L' c u
    carried c u holds r e = let l = like u r e in subst (λ (xs : List ℕ). Contains xs c) l.comms (holds l.route l.labelled)

    lacked : (c u : ℕ) → LacksCommunity L c u → LacksCommunity L' c u
    lacked c u lacks r e there = let l = like u r e in lacks l.route l.labelled (subst (λ (xs : List ℕ). Contains xs c) (sym l.comms) there)

    each : (Q S : ℕ → Type 0) (xs : List ℕ) → ((u : ℕ) → Q u → S u) → All Q xs → All S xs
    each Q S xs more all = λ k d inside. more (slice_index_or xs k d) (all k d inside)

    decided : (asked : Question) → IsTrueIn asked P L → IsTrueIn asked P L'
    decided (question.Route routers) is = each (λ u. label L u ≢ None) (λ u. label L' u ≢ None) routers routed is
    decided (question.Isolated routers) is = each (λ u. label L u ≡ None) (λ u. label L' u ≡ None) routers unrouted is
    decided (question.Hops most routers) is = each (IsWithinHops P L most) (IsWithinHops P L' most) routers
        (λ u all behind chain. all behind (chain_back u behind chain)) is
    decided (question.Through way routers) is = each (PassesThrough P L way) (PassesThrough P L' way) routers
        (λ u all behind chain. all behind (chain_back u behind chain)) is
    decided (question.Avoids way routers) is = each (StaysOff P L way) (StaysOff P L' way) routers
        (λ u all behind chain. all behind (chain_back u behind chain)) is
    decided (question.Carries community routers) is = each (HoldsCommunity L community) (HoldsCommunity L' community) routers (carried community) is
    decided (question.Lacks community routers) is = each (LacksCommunity L community) (LacksCommunity L' community) routers (lacked community) is

pub keys_decide : KeysDecide
keys_decide P asked L L' good st st' keys is = decided P good L L' st st' keys asked is
