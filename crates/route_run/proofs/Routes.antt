-- Routes by their keys.
use Rattle.std.proofs.Common.{◌≡◌, ◌≢◌, ℕ, Bool, true, false, refl, sym, ap, ◌∙◌, inl, inr}
use Rattle.std.specs.Cmp.{IsStrictWeakOrder}
use Rattle.std.specs.Ordering.{is_lt}
use Rattle.std.specs.declared.cmp.Ordering.{Ordering}
use Rattle.std.specs.declared.cmp.Ordering.TheVariants.{Less, Equal, Greater}
use Rattle.std.proofs.lemmas.Bool.{cases_Bool, true≢false}
use Rattle.std.proofs.lemmas.List.MinMax.{ranks_by}
use Rattle.srp_core.specs.declared.route.Route.{Route}
use Rattle.srp_core.specs.declared.route.Candidate.{Candidate}
use Rattle.srp_core.specs.Routes.{key_by}
use Rattle.srp_core.proofs.KeyOrder.{key_total}
use Rattle.route_run.specs.Activations.{beats}
use Rattle.route_run.specs.Choices.{is_better}

-- ---- keys

pub candidates_rank : (test : ℕ → Bool) → IsStrictWeakOrder (is_better test)
candidates_rank test = ranks_by key_total (λ (c : Candidate). key_by test c.route)

pub routes_rank : (test : ℕ → Bool) → IsStrictWeakOrder (beats test)
routes_rank test = ranks_by key_total (λ (r : Route). key_by test r)

pub less_beats : (o : Ordering) → o ≡ Less → is_lt o ≡ true
less_beats o e = ap is_lt e

pub beats_less : (o : Ordering) → is_lt o ≡ true → o ≡ Less
beats_less Less e = refl
beats_less Equal e = absurd cc
beats_less Greater e = absurd cc

pub not_less : (o : Ordering) → is_lt o ≡ false → o ≢ Less
not_less o e less = true≢false (sym (less_beats o less) ∙ e)

pub beats_none : (o : Ordering) → o ≢ Less → is_lt o ≡ false
beats_none o h = elim (cases_Bool (is_lt o)) [ inl t ↦ absurd (h (beats_less o t)) | inr f ↦ f ]

-- what is beaten by one that is no better than another is beaten by that
pub beats_too : (test : ℕ → Bool) (a b c : Route) → beats test b a ≡ false → beats test b c ≡ true → beats test a c ≡ true
beats_too test a b c below over = elim (cases_Bool (beats test a c)) [
  | inl t ↦ t
  | inr f ↦ absurd (true≢false (sym over ∙ (routes_rank test).chain b a c below f))
]
