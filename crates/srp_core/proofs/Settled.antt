-- Stability by the lists of candidates, as code tests it.
use Rattle.std.proofs.Common.{◌≡◌, ◌≢◌, ℕ, ◌<◌, List, [], ◌∷◌, Option, refl, subst, arith}
use Rattle.std.specs.Prelude.{Contains}
use Rattle.std.specs.declared.cmp.Ordering.TheVariants.{Less}
use Rattle.srp_core.specs.declared.route.Route.{Route}
use Rattle.srp_core.specs.declared.route.Candidate.{Candidate}
use Rattle.srp_core.specs.Routes.{compare_keys}
use Rattle.srp_core.specs.Problem.{Problem, count, key_of}
use Rattle.srp_core.specs.Stability.{AreLabels, IsCandidate, IsStable}
use Rattle.srp_core.specs.Candidates.{candidates, IsSettled}
use Rattle.srp_core.proofs.CandidateLists.{candidates_sound, candidates_complete}

nothing_in : (k : Candidate) → Contains [] k → ⊥
nothing_in k h = let l = h.1 in omega arith

empty_list : (list : List Candidate) → ((k : Candidate) → ¬ Contains list k) → list ≡ []
empty_list [] h = refl
empty_list (k ∷ list) h = absurd (h k (0, omega arith, refl))

pub settled_stable : (P : Problem) (L : List (Option Route)) → AreLabels P L → ((u : ℕ) → u < count P → IsSettled P L u) → IsStable P L
settled_stable P L fits settled = record {
  fitting = fits;
  none = λ u c h e cand. (let k = candidates_complete P L u c cand in nothing_in k.0 (subst (λ l. Contains l k.0) ((settled u h).none e) k.1));
  held = λ u r h e. (let k = (settled u h).held r e in subst (IsCandidate P L u) k.2 (candidates_sound P L u k.0 k.1));
  best = λ u r c h e cand. (let k = candidates_complete P L u c cand in
      subst (λ d. compare_keys (key_of P d) (key_of P r) ≢ Less) k.2 ((settled u h).best r k.0 e k.1));
}

pub stable_settled : (P : Problem) (L : List (Option Route)) → IsStable P L → (u : ℕ) → u < count P → IsSettled P L u
stable_settled P L st u h = record {
  none = λ e. empty_list (candidates P L u) (λ k i. st.none u k.route h e (candidates_sound P L u k i));
  held = λ r e. candidates_complete P L u r (st.held u r h e);
  best = λ r k e i. st.best u r k.route h e (candidates_sound P L u k i);
}
