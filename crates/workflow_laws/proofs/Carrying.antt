-- Stable labels are folded, and stable labels of the groups are lifted: there are such labels.
use Rattle.std.proofs.Common.{◌≡◌, ◌⊎◌, inl, inr, ℕ, zero, suc, ◌+◌, ◌<◌, ◌≤◌, List, [], ◌∷◌, map}
use Rattle.std.proofs.Common.{length, refl, sym, ap, ◌∙◌, subst, arith, get_or, Option, Some, None}
use Rattle.std.specs.List.{range_with_len}
use Rattle.std.proofs.lemmas.Bool.{cases_lt}
use Rattle.std.proofs.lemmas.List.{length-map}
use Rattle.std.proofs.lemmas.List.FromFn.{length-range_with_len, get_or-range_with_len}
use Rattle.base_kit.specs.declared.protocol.Protocol.{Protocol}
use Rattle.base_kit.specs.declared.protocol.Protocol.TheVariants.{Bgp as OverBgp, Ospf as OverOspf}
use Rattle.srp_core.specs.declared.route.Route.{Route}
use Rattle.srp_core.specs.declared.route.Route.TheVariants.{Bgp, Ospf}
use Rattle.srp_core.specs.Lifts.{IsFold, IsLift}
use Rattle.srp_core.specs.Problem.{Problem, count, IsProblem}
use Rattle.srp_core.specs.Quotient.{group_of, IsAdmissible, IsQuotient, Corresponds}
use Rattle.srp_core.specs.Routes.{size_of, IsRouteOf, Key}
use Rattle.srp_core.specs.Stability.{label, HaveSameKeys, IsStable}
use Rattle.solution_lift.specs.Carried.{IsFolding, IsLifting}

-- what the laws of quotients have as premises
pub record IsPair (P Q : Problem) (groups : List ℕ) : Type 0 where
  pub rules : IsProblem P
  pub small_rules : IsProblem Q
  pub admissible : IsAdmissible P groups
  pub quotient : IsQuotient P groups Q

abbrev FoldedTo : (Problem → Problem → List ℕ → List (Option Route) → List (Option Route) → Type 0) → Type 0
FoldedTo Gives = (P Q : Problem) (groups : List ℕ) (labels lower : List (Option Route)) → IsProblem P → IsProblem Q → IsAdmissible P groups
    → IsQuotient P groups Q → P.protocol ≡ OverBgp → IsStable P labels → IsFold P Q groups labels lower → Gives P Q groups labels lower

abbrev LiftedTo : (Problem → Problem → List ℕ → List (Option Route) → List (Option Route) → Type 0) → Type 0
LiftedTo Gives = (P Q : Problem) (groups : List ℕ) (labels lower : List (Option Route)) → IsProblem P → IsProblem Q → IsAdmissible P groups
    → IsQuotient P groups Q → Q.protocol ≡ OverBgp → IsStable Q lower → IsLift P Q groups lower labels → Gives P Q groups labels lower

abbrev CostsFolded : (Problem → Problem → List ℕ → List (Option Route) → List (Option Route) → Type 0) → Type 0
CostsFolded Gives = (P Q : Problem) (groups : List ℕ) (labels lower : List (Option Route)) → IsProblem P → IsProblem Q → IsAdmissible P groups
    → IsQuotient P groups Q → P.protocol ≡ OverOspf → IsStable P labels → length lower ≡ count Q
    → ((u : ℕ) → u < count P → label lower (group_of groups u) ≡ label labels u) → Gives P Q groups labels lower

abbrev CostsLifted : (Problem → Problem → List ℕ → List (Option Route) → List (Option Route) → Type 0) → Type 0
CostsLifted Gives = (P Q : Problem) (groups : List ℕ) (labels lower : List (Option Route)) → IsProblem P → IsProblem Q → IsAdmissible P groups
    → IsQuotient P groups Q → Q.protocol ≡ OverOspf → IsStable Q lower → length labels ≡ count P
    → ((u : ℕ) → u < count P → label labels u ≡ label lower (group_of groups u)) → Gives P Q groups labels lower

-- the laws of `srp_core` on folding and lifting
pub record HasCarrying : Type 0 where
  pub fold : (P Q : Problem) (groups : List ℕ) (labels : List (Option Route)) → IsProblem P → IsProblem Q → IsAdmissible P groups
      → IsQuotient P groups Q → P.protocol ≡ OverBgp → IsStable P labels → (lower : List (Option Route)) × IsFold P Q groups labels lower
  pub lift : (P Q : Problem) (groups : List ℕ) (lower : List (Option Route)) → IsProblem P → IsProblem Q → IsAdmissible P groups
      → IsQuotient P groups Q → Q.protocol ≡ OverBgp → IsStable Q lower → (labels : List (Option Route)) × IsLift P Q groups lower labels
  pub fold_stable : FoldedTo (λ P Q groups labels lower. IsStable Q lower)
  pub fold_corresponds : FoldedTo Corresponds
  pub lift_stable : LiftedTo (λ P Q groups labels lower. IsStable P labels)
  pub lift_corresponds : LiftedTo Corresponds
  pub costs_stable : CostsFolded (λ P Q groups labels lower. IsStable Q lower)
  pub costs_correspond : CostsFolded Corresponds
  pub lifted_stable : CostsLifted (λ P Q groups labels lower. IsStable P labels)
  pub lifted_correspond : CostsLifted Corresponds
  pub equal_keys : (P : Problem) (groups : List ℕ) (labels : List (Option Route)) → IsProblem P → IsAdmissible P groups → IsStable P labels
      → (u v : ℕ) → u < count P → v < count P → group_of groups u ≡ group_of groups v → HaveSameKeys P P (label labels u) (label labels v)

-- ---- lists by place

by_place : (ℕ → Option Route) → ℕ → List (Option Route)
by_place f n = map f (range_with_len 0 n)

at_place : (f : ℕ → Option Route) (n u : ℕ) → u < n → label (by_place f n) u ≡ f u
unfolding by_place
at_place f n u h = map_at (range_with_len 0 n) u (let long = length-range_with_len 0 n in omega (arith, long, h))
    ∙ ap f (get_or-range_with_len 0 n u 0 h ∙ (let e : 0 + u ≡ u = omega arith in e))
  where
    map_at : (xs : List ℕ) (k : ℕ) → k < length xs → label (map f xs) k ≡ f (get_or xs k 0)
    map_at [] k h = absurd (omega (arith, h))
    map_at (x ∷ xs) zero h = refl
    map_at (x ∷ xs) (suc k) h = map_at xs k (omega (arith, h))

place_long : (f : ℕ → Option Route) (n : ℕ) → length (by_place f n) ≡ n
unfolding by_place
place_long f n = length-map (range_with_len 0 n) f ∙ length-range_with_len 0 n

module _ (laws : HasCarrying) (P Q : Problem) (groups : List ℕ) (p : IsPair P Q groups) where
  -- routes of OSPF that have equal keys are equal
  same_cost : P.protocol ≡ OverOspf → (labels : List (Option Route)) → IsStable P labels → (u v : ℕ)
      → HaveSameKeys P P (label labels u) (label labels v) → label labels u ≡ label labels v
  same_cost over labels stable u v (HaveSameKeys.both_none none other) = none ∙ sym other
  same_cost over labels stable u v (HaveSameKeys.both_some r s is other keys) =
      is ∙ ap (λ (x : Route). Some x) (by r s (subst (λ q. IsRouteOf q r) over (stable.fitting.routes u r is))
      (subst (λ q. IsRouteOf q s) over (stable.fitting.routes v s other)) (ap (λ (k : Key). k.size) keys)) ∙ sym other
    where
      by : (a b : Route) → IsRouteOf OverOspf a → IsRouteOf OverOspf b → size_of a ≡ size_of b → a ≡ b
      by (Ospf cost) (Ospf other) x y same = (λ j. Ospf (same j))
      by (Bgp lp path comms) b x y same = absurd x
      by (Ospf cost) (Bgp lp path comms) x y same = absurd y

  module _ (labels : List (Option Route)) (stable : IsStable P labels) where
    pick : ℕ → Option Route
    pick g = elim (cases_lt g (count Q)) [ inl h ↦ label labels (p.quotient.onto g h).0 | inr past ↦ None ]

    picked : P.protocol ≡ OverOspf → (u : ℕ) → u < count P → pick (group_of groups u) ≡ label labels u
    unfolding pick
    picked over u h = by (cases_lt (group_of groups u) (count Q))
      where
        by : (c : (group_of groups u < count Q) ⊎ (count Q ≤ group_of groups u))
            → elim c [ inl h ↦ label labels (p.quotient.onto (group_of groups u) h).0 | inr past ↦ None ] ≡ label labels u
        by (inl inside) =
            let v = p.quotient.onto (group_of groups u) inside in
            same_cost over labels stable v.0 u (laws.equal_keys P groups labels p.rules p.admissible stable v.0 u v.1 h v.2)
        by (inr past) = absurd (let inside = p.quotient.inside u h in omega (arith, inside, past))

    fold_over : (protocol : Protocol) → P.protocol ≡ protocol → (lower : List (Option Route)) × IsFolding P Q groups labels lower
    fold_over OverBgp over =
        let f = laws.fold P Q groups labels p.rules p.small_rules p.admissible p.quotient over stable in (
          f.0,
          record {
            stable = laws.fold_stable P Q groups labels f.0 p.rules p.small_rules p.admissible p.quotient over stable f.1;
            corresponds = laws.fold_corresponds P Q groups labels f.0 p.rules p.small_rules p.admissible p.quotient over stable f.1;
            routes = λ e. f.1;
            costs = λ e. absurd (let no : OverBgp ≡ OverOspf = sym over ∙ e in cc);
          },
        )
    fold_over OverOspf over =
        let lower = by_place pick (count Q) in
        let costs : (u : ℕ) → u < count P → label lower (group_of groups u) ≡ label labels u =
        λ u h. at_place pick (count Q) (group_of groups u) (p.quotient.inside u h) ∙ picked over u h in (
          lower,
          record {
            stable = laws.costs_stable P Q groups labels lower p.rules p.small_rules p.admissible p.quotient over stable (place_long pick (count Q)) costs;
            corresponds = laws.costs_correspond P Q groups labels lower p.rules p.small_rules p.admissible p.quotient over stable
                (place_long pick (count Q)) costs;
            routes = λ e. absurd (let no : OverOspf ≡ OverBgp = sym over ∙ e in cc);
            costs = λ e. costs;
          },
        )

    pub is_folded : (lower : List (Option Route)) × IsFolding P Q groups labels lower
    is_folded = fold_over P.protocol refl

  module _ (lower : List (Option Route)) (stable : IsStable Q lower) where
    lift_over : (protocol : Protocol) → P.protocol ≡ protocol → (labels : List (Option Route)) × IsLifting P Q groups lower labels
    lift_over OverBgp over =
        let below = sym p.quotient.protocol ∙ over in
        let l = laws.lift P Q groups lower p.rules p.small_rules p.admissible p.quotient below stable in (
          l.0,
          record {
            stable = laws.lift_stable P Q groups l.0 lower p.rules p.small_rules p.admissible p.quotient below stable l.1;
            corresponds = laws.lift_corresponds P Q groups l.0 lower p.rules p.small_rules p.admissible p.quotient below stable l.1;
            routes = λ e. l.1;
            costs = λ e. absurd (let no : OverBgp ≡ OverOspf = sym over ∙ e in cc);
          },
        )
    lift_over OverOspf over =
        let below = sym p.quotient.protocol ∙ over in
        let f : ℕ → Option Route = λ u. label lower (group_of groups u) in
        let labels = by_place f (count P) in
        let costs : (u : ℕ) → u < count P → label labels u ≡ label lower (group_of groups u) = λ u h. at_place f (count P) u h in (
          labels,
          record {
            stable = laws.lifted_stable P Q groups labels lower p.rules p.small_rules p.admissible p.quotient below stable (place_long f (count P)) costs;
            corresponds = laws.lifted_correspond P Q groups labels lower p.rules p.small_rules p.admissible p.quotient below stable
                (place_long f (count P)) costs;
            routes = λ e. absurd (let no : OverOspf ≡ OverBgp = sym over ∙ e in cc);
            costs = λ e. costs;
          },
        )

    pub is_lifted : (labels : List (Option Route)) × IsLifting P Q groups lower labels
    is_lifted = lift_over P.protocol refl
