-- Routes over an act that are worse than another one.
use Rattle.std.proofs.Common.{◌≡◌, ℕ, ◌+◌, ◌<◌, ◌≤◌, Bool, true, false, cond, List, length, Option, Some, None, zero, suc, sym, ap, ◌∙◌, subst, inl, inr, arith}
use Rattle.std.specs.Prelude.{nat_lt, option_map}
use Rattle.std.specs.Ordering.{nat_cmp, ordering_then}
use Rattle.std.specs.declared.cmp.Ordering.TheVariants.{Greater}
use Rattle.std.proofs.lemmas.Bool.{cases_lt}
use Rattle.route_maps.specs.declared.plain.Plain.{Plain}
use Rattle.route_maps.specs.declared.plain.Imported.{Imported}
use Rattle.srp_core.specs.declared.route.Route.{Route}
use Rattle.srp_core.specs.declared.route.Route.TheVariants.{Bgp, Ospf}
use Rattle.srp_core.specs.declared.route.Act.{Act}
use Rattle.srp_core.specs.declared.route.Act.TheVariants.{Import, Cost}
use Rattle.srp_core.specs.Acts.{import_by, arrived, prepended, step_by}
use Rattle.srp_core.specs.Routes.{Key, preference_of, size_of}
use Rattle.srp_core.specs.Weak.{compare_weak}
use Rattle.route_keys.specs.Keys.{key_with}
use Rattle.solution_search.specs.Lookups.{IsHighest}
use Rattle.solution_search.specs.Weighing.{AreLonger, AreWorse}
use Rattle.solution_search.proofs.WeakOrder.{nat_equal, nat_greater}

prepended_length : (times number : ℕ) (path : List ℕ) → length path ≤ length (prepended times number path)
prepended_length zero number path = omega arith
prepended_length (suc times) number path = let rest = prepended_length times number path in omega (arith, rest)

import_longer : (out : Plain) (sends : Bool) (into : Plain) (lp : ℕ) (path comms : List ℕ) (size : ℕ) → size ≤ length path →
    (number : ℕ) (route : Route) → step_by (Import out sends into) number (Bgp lp path comms) ≡ Some route → size < size_of route
unfolding step_by
import_longer out sends into lp path comms size h number route e = by (import_by (Import out sends into) comms) e
  where
    by : (o : Option Imported) → option_map (arrived number path) o ≡ Some route → size < size_of route
    by None f = absurd (cc)
    by (Some imported) f =
        let same : arrived number path imported ≡ route = cc in
        let more = prepended_length imported.adds number path in
        subst (λ (r : Route). size < size_of r) same (omega (arith, more, h))

pub import_are_longer : (out : Plain) (sends : Bool) (into : Plain) (lp : ℕ) (path comms : List ℕ) (size : ℕ) → size ≤ length path →
    AreLonger (Import out sends into) (Bgp lp path comms) size
import_are_longer out sends into lp path comms size h = record { longer = import_longer out sends into lp path comms size h }

cost_longer : (cost other size : ℕ) → size < cost + other → (number : ℕ) (route : Route) → step_by (Cost cost) number (Ospf other) ≡ Some route →
    size < size_of route
unfolding step_by
cost_longer cost other size h number route e = by (nat_lt 4294967295 (cost + other)) e
  where
    by : (b : Bool) → cond b None (Some (Ospf (cost + other))) ≡ Some route → size < size_of route
    by true f = absurd (cc)
    by false f = let same : Ospf (cost + other) ≡ route = cc in subst (λ (r : Route). size < size_of r) same h

pub cost_are_longer : (cost other size : ℕ) → size < cost + other → AreLonger (Cost cost) (Ospf other) size
cost_are_longer cost other size h = record { longer = cost_longer cost other size h }

-- a key of a lower preference is worse
less_preferred : (a b : Key) → a.preference < b.preference → compare_weak a b ≡ Greater
unfolding compare_weak
less_preferred a b h = ap (λ o. ordering_then o (nat_cmp a.size b.size)) (nat_greater b.preference a.preference h)

longer_weak : (a b : Key) → a.preference ≡ b.preference → b.size < a.size → compare_weak a b ≡ Greater
unfolding compare_weak
longer_weak a b p s = ap (λ o. ordering_then o (nat_cmp a.size b.size)) (nat_equal b.preference a.preference (sym p)) ∙ nat_greater a.size b.size s

pub lower_are_worse : (act : Act) (highest : ℕ) (from other : Route) → IsHighest act highest → highest < preference_of other → AreWorse act from other
lower_are_worse act highest from other top h = record {
  worse = λ number route a b e. (let most = top.most number from route e in less_preferred (key_with route a) (key_with other b) (omega (arith, most, h)));
}

pub longer_are_worse : (act : Act) (highest : ℕ) (from other : Route) → IsHighest act highest → highest ≡ preference_of other →
    AreLonger act from (size_of other) →
    AreWorse act from other
longer_are_worse act highest from other top same longer = record {
  worse = λ number route a b e. (
      let most = top.most number from route e in
      let size = longer.longer number route e in
      elim (cases_lt (preference_of route) (preference_of other)) [
        | inl lower ↦ less_preferred (key_with route a) (key_with other b) lower
        | inr no_lower ↦ longer_weak (key_with route a) (key_with other b) (omega (arith, most, same, no_lower)) size
      ]
      );
}
