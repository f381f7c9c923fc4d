-- An order has each router at most once, so its text is short.
use Rattle.std.proofs.Common.{◌≡◌, ◌≢◌, ◌≤◌, ◌<◌, ◌+◌, ◌*◌, inl, inr, ℕ, zero, suc, Bool, true, false, cond, List, [], ◌∷◌, ◌++◌, Option, length, refl, sym, subst, arith, codes, nat_eq, length-append}
use Rattle.std.specs.Prelude.{slice_index_or}
use Rattle.std.specs.List.{AllByRecursion}
use Rattle.base_kit.proofs.Elements.{In}
use Rattle.cfg_ast.specs.text.Words.{is_router_name}
use Rattle.cfg_round_trip.proofs.ShortWords.{router_name_short}
use Rattle.srp_core.specs.declared.route.Route.{Route}
use Rattle.srp_core.specs.Problem.{Problem, count}
use Rattle.srp_core.specs.Stability.{label}
use Rattle.route_run.specs.Orders.{IsOrderOf, StandsBefore}
use Rattle.route_run.proofs.Reaching.{not_first, Sorted, sorted_pairs}
use Rattle.answer_runs.specs.Reaches.{name_lines}
use Rattle.answer_runs.specs.Schedules.{schedule_limit}

-- ---- different numbers below a bound are few

abbrev AreApartNumbers : List ℕ → Type 0
AreApartNumbers [] = Unit {0}
AreApartNumbers (u ∷ us) = ((v : ℕ) → In us v → u ≢ v) × AreApartNumbers us

abbrev AreBelow : ℕ → List ℕ → Type 0
AreBelow n us = AllByRecursion (λ u. u < n) us

abbrev without : ℕ → List ℕ → List ℕ
without n [] = []
without n (u ∷ us) = cond (nat_eq u n) us (u ∷ without n us)

kept_in : (n : ℕ) (us : List ℕ) (v : ℕ) → In (without n us) v → In us v
kept_in n [] v at = at
kept_in n (u ∷ us) v at = by (λ there. kept_in n us v there) (nat_eq u n) at
  where
    by : (In (without n us) v → In us v) → (b : Bool) → In (cond b us (u ∷ without n us)) v → In (u ∷ us) v
    by kept true at = inr at
    by kept false (inl here) = inl here
    by kept false (inr there) = inr (kept there)

kept_apart : (n : ℕ) (us : List ℕ) → AreApartNumbers us → AreApartNumbers (without n us)
kept_apart n [] apart = tt
kept_apart n (u ∷ us) apart = by (kept_apart n us apart.1) (nat_eq u n)
  where
    by : AreApartNumbers (without n us) → (b : Bool) → AreApartNumbers (cond b us (u ∷ without n us))
    by kept true = apart.1
    by kept false = ((λ v at. apart.0 v (kept_in n us v at)), kept)

kept_long : (n : ℕ) (us : List ℕ) → length us ≤ 1 + length (without n us)
kept_long n [] = omega arith
kept_long n (u ∷ us) = by (kept_long n us) (nat_eq u n)
  where
    by : length us ≤ 1 + length (without n us) → (b : Bool) → length (u ∷ us) ≤ 1 + length (cond b us (u ∷ without n us))
    by kept true = omega arith
    by kept false = omega (arith, kept)

-- below one more, and not the bound itself, is below the bound
kept_below : (n : ℕ) (us : List ℕ) → AreApartNumbers us → AreBelow (suc n) us → AreBelow n (without n us)
kept_below n [] apart below = tt
kept_below n (u ∷ us) apart below = by (kept_below n us apart.1 below.1) (nat_eq u n) refl
  where
    others : (us : List ℕ) → AreBelow (suc n) us → ((v : ℕ) → In us v → n ≢ v) → AreBelow n us
    others [] below apart = tt
    others (v ∷ us) below apart = (
      let other = apart v (inl refl) in let less = below.0 in omega (arith, other, less),
      others us below.1 (λ w at. apart w (inr at)),
    )

    by : AreBelow n (without n us) → (b : Bool) → nat_eq u n ≡ b → AreBelow n (cond b us (u ∷ without n us))
    by kept true e = (let same : u ≡ n = grind arith in others us below.1 (λ v at. subst (λ k. k ≢ v) same (apart.0 v at)))
    by kept false e = (let other : u < n = (let less = below.0 in grind arith) in (other, kept))

pub few_apart : (n : ℕ) (us : List ℕ) → AreApartNumbers us → AreBelow n us → length us ≤ n
few_apart zero [] apart below = omega arith
few_apart zero (u ∷ us) apart below = absurd (omega (arith, below.0))
few_apart (suc n) us apart below = omega (arith, kept_long n us, few_apart n (without n us) (kept_apart n us apart) (kept_below n us apart below))

sorted_apart : (labels : List (Option Route)) (run : List ℕ) → Sorted labels run → AreApartNumbers run
sorted_apart labels [] sorted = tt
sorted_apart labels (u ∷ run) sorted = (
  (λ v at same. not_first (label labels u) u (subst (λ w. StandsBefore labels u w) (sym same) (sorted.0 v at))),
  sorted_apart labels run sorted.1,
)

-- ---- the text

name_short : (names : List (List ℕ)) (u : ℕ) → AllByRecursion (λ (name : List ℕ). is_router_name name ≡ true) names → length (slice_index_or names u []) ≤ 63
name_short [] u all = omega arith
name_short (name ∷ names) zero all = router_name_short name all.0
name_short (name ∷ names) (suc u) all = name_short names u all.1

lines_short : (P : Problem) (run : List ℕ) → AllByRecursion (λ (name : List ℕ). is_router_name name ≡ true) P.names
    → length (name_lines P run) ≤ 64 * length run
lines_short P [] all = omega arith
lines_short P (u ∷ run) all =
    let here = name_short P.names u all in
    let joined = length-append (slice_index_or P.names u []) (codes "\n") in
    let both = length-append (slice_index_or P.names u [] ++ codes "\n") (name_lines P run) in
    omega (arith, here, joined, both, lines_short P run all)

pub order_short : (P : Problem) (labels : List (Option Route)) (run : List ℕ) → IsOrderOf P labels run → AllByRecursion (λ u. u < count P) run → count P ≤ 4096
    → AllByRecursion (λ (name : List ℕ). is_router_name name ≡ true) P.names → length (name_lines P run) ≤ schedule_limit
order_short P labels run order inside few all =
    omega (arith, lines_short P run all, few_apart (count P) run (sorted_apart labels run (sorted_pairs labels run order.sorted)) inside, few)
