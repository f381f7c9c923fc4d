-- An activation changes nothing exactly if the router is settled.
use Rattle.std.proofs.Common.{◌≡◌, ◌≢◌, ◌⊎◌, ℕ, ◌<◌, List, [], ◌∷◌, length, set, Option, Some, None, refl, sym, ap, ◌∙◌, subst, arith, inl, inr, length-set, get_or-set_same, get_or-set_other}
use Rattle.std.proofs.lemmas.Bool.{cases_eq}
use Rattle.std.proofs.lemmas.List.{set-get_or, length-replicate}
use Rattle.base_kit.proofs.Elements.{In, contains_in, in_contains}
use Rattle.srp_core.specs.declared.route.Route.{Route}
use Rattle.srp_core.specs.declared.route.Candidate.{Candidate}
use Rattle.srp_core.specs.Routes.{IsRouteOf, compare_keys}
use Rattle.srp_core.specs.Problem.{Problem, count, key_of, is_lone_number, IsProblem}
use Rattle.srp_core.specs.Stability.{label, AreLabels, IsCandidate, IsStable}
use Rattle.srp_core.specs.Candidates.{candidates, IsSettled}
use Rattle.srp_core.proofs.Settled.{settled_stable, stable_settled}
use Rattle.srp_core.proofs.CandidateLists.{candidates_sound}
use Rattle.srp_core.proofs.Offers.{cases_label, label_in, candidate_offer, offer_route}
use Rattle.srp_core.proofs.Filling.{nothing}
use Rattle.route_run.specs.Activations.{chosen_label, activated, labels_after, no_labels, IsAtRest}
use Rattle.route_run.proofs.Routes.{beats_none, not_less}
use Rattle.route_run.proofs.BestChoices.{IsBestCandidate, chosen_none, chosen_some, chosen_nothing, best_chosen}

pub empty_list : (list : List Candidate) → ((k : Candidate) → ¬ In list k) → list ≡ []
empty_list [] h = refl
empty_list (k ∷ list) h = absurd (h k (inl refl))

-- what is chosen is a candidate of best key
pub chosen_best : (P : Problem) (L : List (Option Route)) (u : ℕ) (r : Route) → chosen_label P L u ≡ Some r →
    IsBestCandidate (is_lone_number P) (candidates P L u) r
chosen_best P L u r e = chosen_some (is_lone_number P) (candidates P L u) (label L u) r e

pub settled_keeps : (P : Problem) (L : List (Option Route)) (u : ℕ) → IsSettled P L u → chosen_label P L u ≡ label L u
settled_keeps P L u s = elim (cases_label (label L u)) [
  | inl empty ↦ chosen_none (is_lone_number P) (candidates P L u) (label L u) (ap length (s.none empty)) ∙ sym empty
  | inr full ↦
      let h = s.held full.0 full.1 in
      let all = candidates P L u in
      let best : IsBestCandidate (is_lone_number P) (candidates P L u) full.0 = record {
        candidate = h.0;
        inside = in_contains all h.0 h.1;
        same = h.2;
        unbeaten = λ d i. beats_none (compare_keys (key_of P d.route) (key_of P full.0)) (s.best full.0 d full.1 (contains_in all d i));
      } in
      ap (Rattle.route_run.specs.Activations.chosen_of (is_lone_number P) (candidates P L u)) full.1
      ∙ best_chosen (is_lone_number P) (candidates P L u) full.0 best ∙ sym full.1
]

pub keeps_settled : (P : Problem) (L : List (Option Route)) (u : ℕ) → chosen_label P L u ≡ label L u → IsSettled P L u
keeps_settled P L u e = record {
  none = λ empty. empty_list (candidates P L u) (λ k i. chosen_nothing (is_lone_number P) (candidates P L u) (label L u) (e ∙ empty) k i);
  held = λ r lab. (let b = chosen_best P L u r (e ∙ lab) in (b.candidate, contains_in (candidates P L u) b.candidate b.inside, b.same));
  best = λ r k lab i. not_less (compare_keys (key_of P k.route) (key_of P r)) ((chosen_best P L u r (e ∙ lab)).unbeaten k (in_contains (candidates P L u) k i));
}

pub keeps_stable : (P : Problem) (L : List (Option Route)) → AreLabels P L → ((u : ℕ) → u < count P → chosen_label P L u ≡ label L u) → IsStable P L
keeps_stable P L fits keeps = settled_stable P L fits (λ u h. keeps_settled P L u (keeps u h))

pub stable_keeps : (P : Problem) (L : List (Option Route)) → IsStable P L → (u : ℕ) → u < count P → chosen_label P L u ≡ label L u
stable_keeps P L st u h = settled_keeps P L u (stable_settled P L st u h)

-- ---- the labels after an activation

pub activated_here : (P : Problem) (L : List (Option Route)) (u : ℕ) → u < length L → label (activated P L u) u ≡ chosen_label P L u
activated_here P L u h = get_or-set_same L u (chosen_label P L u) None h

pub activated_other : (P : Problem) (L : List (Option Route)) (u v : ℕ) → v ≢ u → label (activated P L u) v ≡ label L v
activated_other P L u v differ = get_or-set_other L u v (chosen_label P L u) None differ

pub kept_same : (P : Problem) (L : List (Option Route)) (u : ℕ) → chosen_label P L u ≡ label L u → activated P L u ≡ L
kept_same P L u e = ap (set L u) e ∙ set-get_or L u None

-- a label afterwards is the chosen one, or an old one
pub at_activated : (P : Problem) (L : List (Option Route)) (u v : ℕ) (r : Route) → label (activated P L u) v ≡ Some r →
    ((v ≡ u) × (chosen_label P L u ≡ Some r)) ⊎ (label L v ≡ Some r)
at_activated P L u v r e = elim (cases_eq v u) [
  | inl same ↦
      let inside = label_in (activated P L u) v r e in
      let total = length-set L u (chosen_label P L u) in
      inl (same, sym (activated_here P L u (omega (arith, inside, total, same))) ∙ ap (label (activated P L u)) (sym same) ∙ e)
  | inr differ ↦ inr (sym (activated_other P L u v differ) ∙ e)
]

module _ (P : Problem) (good : IsProblem P) where
  pub chosen_candidate : (L : List (Option Route)) (u : ℕ) (r : Route) → chosen_label P L u ≡ Some r → IsCandidate P L u r
  chosen_candidate L u r e = let b = chosen_best P L u r e in
      subst (IsCandidate P L u) b.same (candidates_sound P L u b.candidate (contains_in (candidates P L u) b.candidate b.inside))

  pub chosen_route : (L : List (Option Route)) (u : ℕ) (r : Route) → AreLabels P L → chosen_label P L u ≡ Some r → IsRouteOf P.protocol r
  chosen_route L u r fits e = offer_route P good u r (candidate_offer P good L u r fits (chosen_candidate L u r e))

  pub activated_labels : (L : List (Option Route)) (u : ℕ) → AreLabels P L → AreLabels P (activated P L u)
  activated_labels L u fits = record {
    total = length-set L u (chosen_label P L u) ∙ fits.total;
    routes = λ v r e. elim (at_activated P L u v r e) [ inl new ↦ chosen_route L u r fits new.1 | inr old ↦ fits.routes v r old ];
  }

  pub after_labels : (run : List ℕ) (L : List (Option Route)) → AreLabels P L → AreLabels P (labels_after P L run)
  after_labels [] L fits = fits
  after_labels (u ∷ run) L fits = after_labels run (activated P L u) (activated_labels L u fits)

pub no_labels_fit : (P : Problem) → AreLabels P (no_labels P)
no_labels_fit P = record { total = length-replicate (count P) None; routes = λ u r e. absurd (nothing P u r e) }

-- ---- at rest

pub rest_stable : (P : Problem) (L : List (Option Route)) → AreLabels P L → IsAtRest P L → IsStable P L
rest_stable P L fits rest = keeps_stable P L fits (λ u h. sym (activated_here P L u (omega (arith, h, fits.total)))
    ∙ ap (λ (l : List (Option Route)). label l u) (rest.unchanged u h))

pub stable_rest : (P : Problem) (L : List (Option Route)) → IsStable P L → IsAtRest P L
stable_rest P L st = record { unchanged = λ u h. kept_same P L u (stable_keeps P L st u h) }
