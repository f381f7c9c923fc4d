-- Questions under labels that correspond.
use Rattle.std.proofs.Common.{◌≡◌, ◌≢◌, ℕ, suc, ◌<◌, List, [], ◌∷◌, map, length, Option, None, refl, sym, ap, ◌∙◌, subst, inl, inr, arith}
use Rattle.std.specs.Prelude.{All}
use Rattle.std.proofs.lemmas.List.Elements.{All-contains}
use Rattle.base_kit.proofs.Elements.{In, in_contains, contains_in, in_map, map_in}
use Rattle.srp_core.specs.declared.route.Route.{Route}
use Rattle.srp_core.specs.Problem.{Problem, count, initial, IsProblem}
use Rattle.srp_core.specs.Quotient.{group_of, IsQuotient, Corresponds}
use Rattle.srp_core.specs.Stability.{label, ForwardsTo, HaveSameKeys}
use Rattle.srp_questions.specs.declared.question.Question.{Question}
use Rattle.srp_questions.specs.declared.question.Question.TheVariants as question
use Rattle.srp_questions.specs.Chains.{IsChain, end_of, EndsAtOrigin, Meets}
use Rattle.srp_questions.specs.Questions.{IsWithinHops, PassesThrough, StaysOff, HoldsCommunity, LacksCommunity, IsTrueIn, IsAskedOf, way_of}
use Rattle.question_laws.specs.Small.{in_groups, AreWholeGroups}
use Rattle.question_laws.proofs.Lists.{all_down, all_up}
use Rattle.question_laws.proofs.SameLabels.{other_way, still_some, still_none, still_holds, still_lacks}

pub next_inside : (P : Problem) → IsProblem P → (L : List (Option Route)) (u v : ℕ) → ForwardsTo P L u v → v < count P
next_inside P good L u v f = subst (λ w. w < count P) f.exporter (good.edges.inside f.edge f.edge_in).exporter_in

pub own_inside : (P : Problem) → IsProblem P → (L : List (Option Route)) (u v : ℕ) → ForwardsTo P L u v → u < count P
own_inside P good L u v f = subst (λ w. w < count P) f.importer (good.edges.inside f.edge f.edge_in).importer_in

-- the routers of a chain
chain_inside : (P : Problem) → IsProblem P → (L : List (Option Route)) (u : ℕ) (behind : List ℕ) → u < count P → IsChain P L u behind → (x : ℕ) →
    In (u ∷ behind) x → x < count P
chain_inside P good L u behind lt chain x (inl same) = subst (λ w. w < count P) same lt
chain_inside P good L u [] lt chain x (inr there) = absurd there
chain_inside P good L u (v ∷ behind) lt chain x (inr there) = chain_inside P good L v behind (next_inside P good L u v chain.0) chain.1 x there

end_inside : (P : Problem) → IsProblem P → (L : List (Option Route)) (u : ℕ) (behind : List ℕ) → u < count P → IsChain P L u behind → end_of u behind < count P
end_inside P good L u [] lt chain = lt
end_inside P good L u (v ∷ behind) lt chain = end_inside P good L v behind (next_inside P good L u v chain.0) chain.1

length_groups : (g : ℕ → ℕ) (xs : List ℕ) → length (map g xs) ≡ length xs
length_groups g [] = refl
length_groups g (x ∷ xs) = ap suc (length_groups g xs)

module _ (P S : Problem) (groups : List ℕ) (gp : IsProblem P) (quotient : IsQuotient P groups S) (L M : List (Option Route))
    (co : Corresponds P S groups L M) where
  chain_down : (u : ℕ) (behind : List ℕ) → IsChain P L u behind → IsChain S M (group_of groups u) (map (group_of groups) behind)
  chain_down u [] chain = tt
  chain_down u (v ∷ behind) chain = (co.down u v (own_inside P gp L u v chain.0) chain.0, chain_down v behind chain.1)

  record IsLifted (u : ℕ) (below : List ℕ) : Type 0 where
    behind : List ℕ
    chain : IsChain P L u behind
    same : map (group_of groups) behind ≡ below

  chain_up : (u : ℕ) (below : List ℕ) → u < count P → IsChain S M (group_of groups u) below → IsLifted u below
  chain_up u [] lt chain = record { behind = []; chain = tt; same = refl }
  chain_up u (h ∷ below) lt chain =
      let next = co.up u h lt chain.0 in
      let rest = chain_up next.0 below (next_inside P gp L u next.0 next.1) (subst (λ k. IsChain S M k below) (sym next.2) chain.1) in
      record {
        behind = next.0 ∷ rest.behind;
        chain = (next.1, rest.chain);
        same = ap (λ k. k ∷ map (group_of groups) rest.behind) next.2 ∙ ap (λ l. h ∷ l) rest.same;
      }

  end_down : (u : ℕ) (behind : List ℕ) → end_of (group_of groups u) (map (group_of groups) behind) ≡ group_of groups (end_of u behind)
  end_down u [] = refl
  end_down u (v ∷ behind) = end_down v behind

  start_same : (u : ℕ) (behind : List ℕ) → u < count P → IsChain P L u behind →
      initial S (end_of (group_of groups u) (map (group_of groups) behind)) ≡ initial P (end_of u behind)
  start_same u behind lt chain = ap (initial S) (end_down u behind) ∙ quotient.origins (end_of u behind) (end_inside P gp L u behind lt chain)

  -- ---- chains that meet routers

  module _ (way : List ℕ) (inside : All (λ u. u < count P) way) (whole : AreWholeGroups P groups way) where
    meets_down : (u : ℕ) (behind : List ℕ) → Meets way u behind → Meets (map (group_of groups) way) (group_of groups u) (map (group_of groups) behind)
    meets_down u behind m = record {
      met = group_of groups m.met;
      wanted = contains_in (map (group_of groups) way) (group_of groups m.met) (in_map (group_of groups) way m.met (in_contains way m.met m.wanted));
      on_chain = contains_in (map (group_of groups) (u ∷ behind)) (group_of groups m.met)
          (in_map (group_of groups) (u ∷ behind) m.met (in_contains (u ∷ behind) m.met m.on_chain));
    }

    meets_up : (u : ℕ) (behind : List ℕ) → u < count P → IsChain P L u behind →
        Meets (map (group_of groups) way) (group_of groups u) (map (group_of groups) behind) → Meets way u behind
    meets_up u behind lt chain m =
        let w = map_in (group_of groups) way m.met (in_contains (map (group_of groups) way) m.met m.wanted) in
        let x = map_in (group_of groups) (u ∷ behind) m.met (in_contains (map (group_of groups) (u ∷ behind)) m.met m.on_chain) in
        let w_in = contains_in way w.0 w.1 in
        record {
          met = x.0;
          wanted = whole w.0 x.0 (All-contains (λ v. v < count P) way w.0 inside w_in) (chain_inside P gp L u behind lt chain x.0 x.1) (w.2 ∙ sym x.2) w_in;
          on_chain = contains_in (u ∷ behind) x.0 x.1;
        }

    passes_down : (u : ℕ) → u < count P → PassesThrough P L way u → PassesThrough S M (map (group_of groups) way) (group_of groups u)
    passes_down u lt passes = λ below chain ends.
        let up = chain_up u below lt chain in
        let ends' : EndsAtOrigin S (group_of groups u) (map (group_of groups) up.behind) =
        subst (λ l. EndsAtOrigin S (group_of groups u) l) (sym up.same) ends in
        subst (λ l. Meets (map (group_of groups) way) (group_of groups u) l) up.same
        (meets_down u up.behind (passes up.behind up.chain (λ none. ends' (start_same u up.behind lt up.chain ∙ none))))

    passes_up : (u : ℕ) → u < count P → PassesThrough S M (map (group_of groups) way) (group_of groups u) → PassesThrough P L way u
    passes_up u lt passes = λ behind chain ends.
        meets_up u behind lt chain
        (passes (map (group_of groups) behind) (chain_down u behind chain) (λ none. ends (sym (start_same u behind lt chain) ∙ none)))

    off_down : (u : ℕ) → u < count P → StaysOff P L way u → StaysOff S M (map (group_of groups) way) (group_of groups u)
    off_down u lt off = λ below chain meets.
        let up = chain_up u below lt chain in
        off up.behind up.chain (meets_up u up.behind lt up.chain (subst (λ l. Meets (map (group_of groups) way) (group_of groups u) l) (sym up.same) meets))

    off_up : (u : ℕ) → u < count P → StaysOff S M (map (group_of groups) way) (group_of groups u) → StaysOff P L way u
    off_up u lt off = λ behind chain meets. off (map (group_of groups) behind) (chain_down u behind chain) (meets_down u behind meets)

  hops_down : (most u : ℕ) → u < count P → IsWithinHops P L most u → IsWithinHops S M most (group_of groups u)
  hops_down most u lt within = λ below chain.
      let up = chain_up u below lt chain in
      let short = within up.behind up.chain in
      let long = length_groups (group_of groups) up.behind in
      let same = ap length up.same in
      omega arith

  hops_up : (most u : ℕ) → u < count P → IsWithinHops S M most (group_of groups u) → IsWithinHops P L most u
  hops_up most u lt within = λ behind chain.
      let short = within (map (group_of groups) behind) (chain_down u behind chain) in
      let long = length_groups (group_of groups) behind in
      omega arith

  -- ---- the seven questions

  back : (u : ℕ) → u < count P → HaveSameKeys S P (label M (group_of groups u)) (label L u)
  back u lt = other_way P S (label L u) (label M (group_of groups u)) (co.keys u lt)

  pub true_below : (asked : Question) → IsAskedOf P asked → AreWholeGroups P groups (way_of asked) → IsTrueIn asked P L → IsTrueIn (in_groups groups asked) S M
  true_below (question.Route routers) is whole t = all_down (λ u. u < count P) (λ u. label L u ≢ None) (λ h. label M h ≢ None) (group_of groups)
      (λ u lt some. still_some P S (label L u) (label M (group_of groups u)) (co.keys u lt) some) routers is.routers t
  true_below (question.Isolated routers) is whole t = all_down (λ u. u < count P) (λ u. label L u ≡ None) (λ h. label M h ≡ None) (group_of groups)
      (λ u lt none. still_none P S (label L u) (label M (group_of groups u)) (co.keys u lt) none) routers is.routers t
  true_below (question.Hops most routers) is whole t =
      all_down (λ u. u < count P) (IsWithinHops P L most) (IsWithinHops S M most) (group_of groups) (hops_down most) routers is.routers t
  true_below (question.Through way routers) is whole t = all_down (λ u. u < count P) (PassesThrough P L way) (PassesThrough S M (map (group_of groups) way))
      (group_of groups) (passes_down way is.way whole) routers is.routers t
  true_below (question.Avoids way routers) is whole t = all_down (λ u. u < count P) (StaysOff P L way) (StaysOff S M (map (group_of groups) way))
      (group_of groups) (off_down way is.way whole) routers is.routers t
  true_below (question.Carries community routers) is whole t = all_down (λ u. u < count P) (HoldsCommunity L community) (HoldsCommunity M community)
      (group_of groups) (λ u lt holds. still_holds P S (label L u) (label M (group_of groups u)) community (co.keys u lt) holds) routers is.routers t
  true_below (question.Lacks community routers) is whole t = all_down (λ u. u < count P) (LacksCommunity L community) (LacksCommunity M community)
      (group_of groups) (λ u lt lacks. still_lacks P S (label L u) (label M (group_of groups u)) community (co.keys u lt) lacks) routers is.routers t

  pub true_above : (asked : Question) → IsAskedOf P asked → AreWholeGroups P groups (way_of asked) → IsTrueIn (in_groups groups asked) S M → IsTrueIn asked P L
  true_above (question.Route routers) is whole t = all_up (λ u. u < count P) (λ u. label L u ≢ None) (λ h. label M h ≢ None) (group_of groups)
      (λ u lt some. still_some S P (label M (group_of groups u)) (label L u) (back u lt) some) routers is.routers t
  true_above (question.Isolated routers) is whole t = all_up (λ u. u < count P) (λ u. label L u ≡ None) (λ h. label M h ≡ None) (group_of groups)
      (λ u lt none. still_none S P (label M (group_of groups u)) (label L u) (back u lt) none) routers is.routers t
  true_above (question.Hops most routers) is whole t =
      all_up (λ u. u < count P) (IsWithinHops P L most) (IsWithinHops S M most) (group_of groups) (hops_up most) routers is.routers t
  true_above (question.Through way routers) is whole t = all_up (λ u. u < count P) (PassesThrough P L way) (PassesThrough S M (map (group_of groups) way))
      (group_of groups) (passes_up way is.way whole) routers is.routers t
  true_above (question.Avoids way routers) is whole t = all_up (λ u. u < count P) (StaysOff P L way) (StaysOff S M (map (group_of groups) way))
      (group_of groups) (off_up way is.way whole) routers is.routers t
  true_above (question.Carries community routers) is whole t = all_up (λ u. u < count P) (HoldsCommunity L community) (HoldsCommunity M community)
      (group_of groups) (λ u lt holds. still_holds S P (label M (group_of groups u)) (label L u) community (back u lt) holds) routers is.routers t
  true_above (question.Lacks community routers) is whole t = all_up (λ u. u < count P) (LacksCommunity L community) (LacksCommunity M community)
      (group_of groups) (λ u lt lacks. still_lacks S P (label M (group_of groups u)) (label L u) community (back u lt) lacks) routers is.routers t
