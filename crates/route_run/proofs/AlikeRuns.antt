-- Problems that are alike run alike.
use Rattle.std.proofs.Common.{◌≡◌, ℕ, List, [], ◌∷◌, length, replicate, Option, None, refl, sym, ap, ◌∙◌, arith, inl, inr}
use Rattle.std.proofs.lemmas.Bool.{cases_lt}
use Rattle.srp_core.specs.declared.route.Route.{Route}
use Rattle.srp_core.specs.declared.route.Candidate.{Candidate}
use Rattle.srp_core.specs.Alike.{ProblemsAlike}
use Rattle.srp_core.specs.Candidates.{candidates}
use Rattle.srp_core.specs.Problem.{Problem, is_lone_number, has_marked_number, IsProblem}
use Rattle.srp_core.specs.Stability.{label, AreLabels, IsStable}
use Rattle.srp_core.proofs.Alike.{same_candidates}
use Rattle.route_run.specs.Activations.{chosen_of, chosen_label, activated, labels_after, no_labels, IsFirstMoving}
use Rattle.route_run.proofs.AtRest.{no_labels_fit, activated_labels, stable_keeps}

module _ (P Q : Problem) (same : ProblemsAlike P Q) where
  lone_same : is_lone_number P ≡ is_lone_number Q
  lone_same = λ i n. has_marked_number (same.lone i) (same.numbers i) n

  pub chosen_same : (L : List (Option Route)) (u : ℕ) → AreLabels P L → chosen_label P L u ≡ chosen_label Q L u
  chosen_same L u fits = ap (λ t. chosen_of t (candidates P L u) (label L u)) lone_same
      ∙ ap (λ (all : List Candidate). chosen_of (is_lone_number Q) all (label L u)) (same_candidates P Q same L fits u)

  none_same : no_labels P ≡ no_labels Q
  none_same = ap (λ (numbers : List ℕ). replicate (length numbers) None) same.numbers

  after_same : IsProblem P → (run : List ℕ) (L : List (Option Route)) → AreLabels P L → labels_after P L run ≡ labels_after Q L run
  after_same good [] L fits = refl
  after_same good (u ∷ run) L fits =
      after_same good run (activated P L u) (activated_labels P good L u fits)
      ∙ ap (λ (c : Option Route). labels_after Q (Rattle.std.specs.Prelude.slice_set L u c) run) (chosen_same L u fits)

  pub run_same : IsProblem P → (run : List ℕ) → labels_after P (no_labels P) run ≡ labels_after Q (no_labels Q) run
  run_same good run = after_same good run (no_labels P) (no_labels_fit P) ∙ ap (λ (L : List (Option Route)). labels_after Q L run) none_same

  module _ (L : List (Option Route)) (fits : AreLabels P L) where
    pub moving_same : (u v : ℕ) → IsFirstMoving P L u → IsFirstMoving Q L v → u ≡ v
    moving_same u v a b = elim (cases_lt u v) [
      | inl less ↦ absurd (a.moves (chosen_same L u fits ∙ b.before u less))
      | inr le ↦ elim (cases_lt v u) [ inl less ↦ absurd (b.moves (sym (chosen_same L v fits) ∙ a.before v less)) | inr ge ↦ omega arith ]
    ]

    pub rest_same : (u : ℕ) → IsStable P L → IsFirstMoving Q L u → ⊥
    rest_same u st b = b.moves (sym (chosen_same L u fits) ∙ stable_keeps P L st u (let e = ap length same.numbers in let h = b.inside in omega arith))
