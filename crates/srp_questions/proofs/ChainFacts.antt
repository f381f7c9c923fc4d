-- What holds of chains of forwarding.
use Rattle.std.proofs.Common.{◌≡◌, ℕ, ◌<◌, List, [], ◌∷◌, Option, Some, None, refl, ap, subst, arith, inl, inr}
use Rattle.base_kit.proofs.Elements.{In}
use Rattle.srp_core.specs.declared.route.Route.{Route}
use Rattle.srp_core.specs.Routes.{size_of, Key}
use Rattle.srp_core.specs.Problem.{Problem, count, IsProblem}
use Rattle.srp_core.specs.Stability.{label, ForwardsTo}
use Rattle.srp_core.proofs.Offers.{grows}
use Rattle.srp_questions.specs.Chains.{IsChain, end_of}

-- a router without a label forwards to nobody
pub none_forwards : (P : Problem) (L : List (Option Route)) (u v : ℕ) → label L u ≡ None → ForwardsTo P L u v → ⊥
none_forwards P L u v none f = let a = f.labelled in cc

-- a smaller label
pub record HasSmaller (L : List (Option Route)) (v : ℕ) (r : Route) : Type 0 where
  pub route : Route
  pub labelled : label L v ≡ Some route
  pub smaller : size_of route < size_of r

module _ (P : Problem) (good : IsProblem P) (L : List (Option Route)) where
  pub from_inside : (u v : ℕ) → ForwardsTo P L u v → u < count P
  from_inside u v f = subst (λ k. k < count P) f.importer (good.edges.inside f.edge f.edge_in).importer_in

  pub next_inside : (u v : ℕ) → ForwardsTo P L u v → v < count P
  next_inside u v f = subst (λ k. k < count P) f.exporter (good.edges.inside f.edge f.edge_in).exporter_in

  -- a router forwards to routers with smaller labels
  pub next_smaller : (u v : ℕ) (r : Route) → label L u ≡ Some r → ForwardsTo P L u v → HasSmaller L v r
  next_smaller u v r labelled f =
      let one : f.route ≡ r = (let a = f.labelled in cc) in
      let g = grows P good f.edge f.over.from f.candidate f.edge_in f.over.stepped in
      let s : size_of f.candidate ≡ size_of f.route = ap (λ (k : Key). k.size) f.same in
      let t : size_of f.route ≡ size_of r = ap size_of one in
      record {
        route = f.over.from;
        labelled = subst (λ w. label L w ≡ Some f.over.from) f.exporter f.over.labelled;
        smaller = omega (arith, g, s, t);
      }

  -- all routers of a chain are routers of the problem
  pub chain_inside : (u : ℕ) (behind : List ℕ) → u < count P → IsChain P L u behind → (v : ℕ) → In (u ∷ behind) v → v < count P
  chain_inside u [] inside chain v (inl e) = omega arith
  chain_inside u [] inside chain v (inr never) = absurd never
  chain_inside u (w ∷ rest) inside chain v (inl e) = omega arith
  chain_inside u (w ∷ rest) inside chain v (inr later) = chain_inside w rest (next_inside u w chain.0) chain.1 v later

-- the end of a chain is on it
pub end_in : (u : ℕ) (behind : List ℕ) → In (u ∷ behind) (end_of u behind)
end_in u [] = inl refl
end_in u (w ∷ rest) = inr (end_in w rest)

-- a chain up to one of its routers
pub record HasChainTo (P : Problem) (L : List (Option Route)) (u w : ℕ) : Type 0 where
  pub behind : List ℕ
  pub chain : IsChain P L u behind
  pub ends : end_of u behind ≡ w

pub chain_to : (P : Problem) (L : List (Option Route)) (u : ℕ) (behind : List ℕ) → IsChain P L u behind → (w : ℕ) → In (u ∷ behind) w → HasChainTo P L u w
chain_to P L u [] chain w (inl e) = record { behind = []; chain = tt; ends = e }
chain_to P L u [] chain w (inr never) = absurd never
chain_to P L u (v ∷ rest) chain w (inl e) = record { behind = []; chain = tt; ends = e }
chain_to P L u (v ∷ rest) chain w (inr later) =
    let t = chain_to P L v rest chain.1 w later in
    record { behind = v ∷ t.behind; chain = (chain.0, t.chain); ends = t.ends }
