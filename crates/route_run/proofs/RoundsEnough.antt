-- So many rounds bring a network without lone routers to rest.
use Rattle.std.proofs.Common.{◌≡◌, ◌⊎◌, ℕ, suc, ◌+◌, ◌*◌, ◌-◌, ◌<◌, ◌≤◌, List, Option, Some, refl, sym, ◌∙◌, subst, arith, inl, inr, mul-one}
use Rattle.std.specs.Prelude.{All}
use Rattle.std.proofs.lemmas.Bool.{cases_Bool}
use Rattle.std.proofs.lemmas.Nat.{mul-le}
use Rattle.base_kit.proofs.Elements.{In}
use Rattle.base_kit.specs.declared.protocol.Protocol.{Protocol}
use Rattle.base_kit.specs.declared.protocol.Protocol.TheVariants.{Bgp as OverBgp, Ospf as OverOspf}
use Rattle.srp_core.specs.declared.route.Route.{Route}
use Rattle.srp_core.specs.Problem.{Problem, count, is_lone, IsProblem}
use Rattle.srp_core.specs.Stability.{label, IsStable}
use Rattle.srp_core.proofs.Offers.{label_in, candidate_offer, offer_route, lone_bgp}
use Rattle.srp_core.proofs.Filling.{nothing}
use Rattle.route_run.specs.Activations.{labels_after, no_labels}
use Rattle.route_run.specs.Rounds.{HasRounds, HasNoLone, PrependsAtMost, enough_rounds}
use Rattle.route_run.proofs.AtRest.{no_labels_fit, after_labels}
use Rattle.route_run.proofs.Below.{settled_below_0, rounds_settle, settled_stable_below}
use Rattle.route_run.proofs.Runs.{all_in}
use Rattle.route_run.proofs.ShortPaths.{IsPlain, plain_candidate, plain_after, candidate_short}
use Rattle.route_run.proofs.Walks.{ospf_rounds}

cases_protocol : (p : Protocol) → (p ≡ OverBgp) ⊎ (p ≡ OverOspf)
cases_protocol OverBgp = inl refl
cases_protocol OverOspf = inr refl

module _ (P : Problem) (good : IsProblem P) (none_lone : HasNoLone P) (p : ℕ) (most : PrependsAtMost P p) (run : List ℕ)
    (inside : (u : ℕ) → In run u → u < count P) (has : HasRounds P (enough_rounds P p) run) where
  bgp_enough : P.protocol ≡ OverBgp → IsStable P (labels_after P (no_labels P) run)
  bgp_enough bgp =
      let fits = after_labels P good run (no_labels P) (no_labels_fit P) in
      let settled = rounds_settle P good none_lone (enough_rounds P p) 0 run (no_labels P) (no_labels_fit P) (settled_below_0 P (no_labels P)) inside has in
      let plain : (v : ℕ) (r : Route) → label (labels_after P (no_labels P) run) v ≡ Some r → IsPlain P p v r =
      plain_after P good bgp p most run (no_labels P) (no_labels_fit P) (λ v r e. absurd (nothing P v r e)) in
      let few : 0 + enough_rounds P p ≡ suc ((count P - 1) * (p + 1)) = omega arith in
      settled_stable_below P good none_lone (labels_after P (no_labels P) run) (0 + enough_rounds P p) fits settled
      (λ u r e. (let l = label_in (labels_after P (no_labels P) run) u r e in let total = fits.total in
      let s = candidate_short P good bgp p most (labels_after P (no_labels P) run) u r (omega arith) (fits.routes u r e) (plain u r e) in omega arith))
      (λ u c h cand. (let route = offer_route P good u c (candidate_offer P good (labels_after P (no_labels P) run) u c fits cand) in
      let s = candidate_short P good bgp p most (labels_after P (no_labels P) run) u c h route
      (plain_candidate P good bgp p most (labels_after P (no_labels P) run) u c fits plain cand) in omega arith))

  ospf_enough : P.protocol ≡ OverOspf → IsStable P (labels_after P (no_labels P) run)
  ospf_enough ospf =
      let one : (count P - 1) * 1 ≤ (count P - 1) * (p + 1) = mul-le (count P - 1) 1 (count P - 1) (p + 1) (omega arith) (omega arith) in
      let itself = mul-one (count P - 1) in
      ospf_rounds P good none_lone ospf (enough_rounds P p) run (no_labels P) (no_labels_fit P) (λ u r e. nothing P u r e) inside (omega arith) has

  pub rounds_enough : IsStable P (labels_after P (no_labels P) run)
  rounds_enough = elim (cases_protocol P.protocol) [ inl bgp ↦ bgp_enough bgp | inr ospf ↦ ospf_enough ospf ]

-- no router is lone in OSPF
ospf_none_lone : (P : Problem) → IsProblem P → P.protocol ≡ OverOspf → HasNoLone P
ospf_none_lone P good ospf u h = elim (cases_Bool (is_lone P u)) [
  | inl lone ↦ (let clash : OverBgp ≡ OverOspf = sym (lone_bgp P good u h lone) ∙ ospf in absurd cc)
  | inr not ↦ not
]

-- the same of labels that are those after the run
pub rounds_enough_by : (P : Problem) → IsProblem P → (run : List ℕ) → All (λ u. u < count P) run → (labels : List (Option Route)) →
    labels ≡ labels_after P (no_labels P) run → (most : ℕ) → HasNoLone P → PrependsAtMost P most → HasRounds P (enough_rounds P most) run → IsStable P labels
rounds_enough_by P good run inside labels is most none_lone few has =
    subst (IsStable P) (sym is) (rounds_enough P good none_lone most few run (λ u i. all_in (λ v. v < count P) run u inside i) has)

-- in OSPF so many rounds are enough as there are routers
pub ospf_enough_by : (P : Problem) → IsProblem P → (run : List ℕ) → All (λ u. u < count P) run → (labels : List (Option Route)) →
    labels ≡ labels_after P (no_labels P) run → P.protocol ≡ OverOspf → HasRounds P (count P) run → IsStable P labels
ospf_enough_by P good run inside labels is ospf has =
    subst (IsStable P) (sym is)
    (ospf_rounds P good (ospf_none_lone P good ospf) ospf (count P) run (no_labels P) (no_labels_fit P) (λ u r e. nothing P u r e)
    (λ u i. all_in (λ v. v < count P) run u inside i) (omega arith) has)
