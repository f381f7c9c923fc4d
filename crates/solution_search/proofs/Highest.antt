-- The highest preference that an act can give.
use Rattle.std.proofs.Common.{◌≡◌, ℕ, ◌+◌, ◌<◌, ◌≤◌, Bool, true, false, cond, All, List, [], ◌∷◌, Option, Some, None, refl, sym, ap, ◌∙◌, subst, inl, inr, arith}
use Rattle.std.specs.Prelude.{nat_eq, nat_lt, option_map}
use Rattle.std.specs.Ordering.{nat_cmp, ord_max, is_lt}
use Rattle.std.specs.declared.cmp.Ordering.TheVariants.{Less, Equal, Greater}
use Rattle.std.proofs.lemmas.Bool.{cases_Bool, cases_lt, lt-ltb, le-ltb}
use Rattle.std.specs.Option.{unwrap_or}
use Rattle.std.proofs.lemmas.List.Elements.{All-head, All-tail}
use Rattle.route_maps.specs.declared.plain.PlainEntry.{PlainEntry}
use Rattle.route_maps.specs.declared.plain.Plain.{Plain}
use Rattle.route_maps.specs.declared.plain.Imported.{Imported}
use Rattle.route_maps.specs.declared.plain.Verdict.{Verdict}
use Rattle.route_maps.specs.declared.plain.Verdict.TheVariants.{Deny, Permit}
use Rattle.route_maps.specs.Maps.{entry_holds, comms_after, entry_verdict, verdict, accepted, received, import_of}
use Rattle.srp_core.specs.declared.route.Route.{Route}
use Rattle.srp_core.specs.declared.route.Route.TheVariants.{Bgp, Ospf}
use Rattle.srp_core.specs.declared.route.Act.TheVariants.{Import, Cost}
use Rattle.srp_core.specs.Acts.{import_by, arrived, step_by}
use Rattle.srp_core.specs.Routes.{preference_of}
use Rattle.solution_search.specs.Lookups.{GivesAtMost, IsHighest}

max_high : (a b : ℕ) → b < a → ord_max nat_cmp a b ≡ a
max_high a b h = ap (λ t. cond (is_lt (cond t Less (cond (nat_eq b a) Equal Greater))) a b) (lt-ltb b a h)

max_low : (a b : ℕ) → a ≤ b → ord_max nat_cmp a b ≡ b
max_low a b h = ap (λ t. cond (is_lt (cond t Less (cond (nat_eq b a) Equal Greater))) a b) (le-ltb b a h) ∙ elim (cases_Bool (nat_eq b a)) [
  | inl e ↦ ap (λ t. cond (is_lt (cond t Equal Greater)) a b) e
  | inr e ↦ ap (λ t. cond (is_lt (cond t Equal Greater)) a b) e
]

-- the larger of two numbers is at least each
pub highest_max : (a b : ℕ) → (a ≤ ord_max nat_cmp a b) × (b ≤ ord_max nat_cmp a b)
highest_max a b = elim (cases_lt b a) [
  | inl h ↦ let e = max_high a b h in (subst (λ n. a ≤ n) (sym e) (omega arith), subst (λ n. b ≤ n) (sym e) (omega arith))
  | inr h ↦ let e = max_low a b h in (subst (λ n. a ≤ n) (sym e) h, subst (λ n. b ≤ n) (sym e) (omega arith))
]

pub more : (h h' : ℕ) → h ≤ h' → (entry : PlainEntry) → GivesAtMost h entry → GivesAtMost h' entry
more h h' le entry g = record { most = λ p. (let m = g.most p in omega (arith, le, m)) }

entry_most : (h : ℕ) (entry : PlainEntry) (comms cs : List ℕ) (lp : Option ℕ) (adds : ℕ) → GivesAtMost h entry → entry_verdict entry comms ≡ Permit lp cs adds →
    unwrap_or lp 100 ≤ h
entry_most h entry comms cs lp adds g e = by entry.permit refl e
  where
    by : (b : Bool) → entry.permit ≡ b → cond b (Permit entry.lp (comms_after entry comms) entry.adds) Deny ≡ Permit lp cs adds → unwrap_or lp 100 ≤ h
    by false p f = absurd (cc)
    by true p f = let same : entry.lp ≡ lp = cc in subst (λ (o : Option ℕ). unwrap_or o 100 ≤ h) same (g.most p)

verdict_most : (h : ℕ) (entries : List PlainEntry) (comms cs : List ℕ) (lp : Option ℕ) (adds : ℕ) → All (GivesAtMost h) entries →
    verdict entries comms ≡ Permit lp cs adds → unwrap_or lp 100 ≤ h
verdict_most h [] comms cs lp adds all e = absurd (cc)
verdict_most h (entry ∷ entries) comms cs lp adds all e =
    first h entry entries comms cs lp adds all (entry_holds comms entry)
    (λ f. verdict_most h entries comms cs lp adds (All-tail (GivesAtMost h) entry entries all) f) e
  where
    first : (h : ℕ) (entry : PlainEntry) (entries : List PlainEntry) (comms cs : List ℕ) (lp : Option ℕ) (adds : ℕ) → All (GivesAtMost h) (entry ∷ entries) →
        (b : Bool) → (verdict entries comms ≡ Permit lp cs adds → unwrap_or lp 100 ≤ h) →
        cond b (entry_verdict entry comms) (verdict entries comms) ≡ Permit lp cs adds → unwrap_or lp 100 ≤ h
    first h entry entries comms cs lp adds all true rest f = entry_most h entry comms cs lp adds (All-head (GivesAtMost h) entry entries all) f
    first h entry entries comms cs lp adds all false rest f = rest f

import_most : (h : ℕ) (out : Plain) (sends : Bool) (into : Plain) (comms : List ℕ) (imported : Imported) → All (GivesAtMost h) into.entries →
    import_of out sends into comms ≡ Some imported → imported.lp ≤ h
import_most h out sends into comms imported all e = by (verdict out.entries comms) e
  where
    at : (adds : ℕ) (set : List ℕ) (v : Verdict) → verdict into.entries set ≡ v → accepted adds v ≡ Some imported → imported.lp ≤ h
    at adds set Deny f g = absurd (cc)
    at adds set (Permit lp cs more) f g =
        let same : record { lp = unwrap_or lp 100; comms = cs; adds = adds } ≡ imported = cc in
        subst (λ (i : Imported). i.lp ≤ h) same (verdict_most h into.entries set cs lp more all f)

    by : (v : Verdict) → received sends into.entries v ≡ Some imported → imported.lp ≤ h
    by Deny f = absurd (cc)
    by (Permit lp cs adds) f = at adds (cond sends cs []) (verdict into.entries (cond sends cs [])) refl f

import_step : (h : ℕ) (out : Plain) (sends : Bool) (into : Plain) → All (GivesAtMost h) into.entries → (number : ℕ) (from route : Route) →
    step_by (Import out sends into) number from ≡ Some route → preference_of route ≤ h
unfolding step_by import_by
import_step h out sends into all number (Ospf cost) route e = absurd (cc)
import_step h out sends into all number (Bgp lp path comms) route e = by (import_of out sends into comms) refl e
  where
    by : (o : Option Imported) → import_of out sends into comms ≡ o → option_map (arrived number path) o ≡ Some route → preference_of route ≤ h
    by None f g = absurd (cc)
    by (Some imported) f g =
        let same : arrived number path imported ≡ route = cc in
        subst (λ (r : Route). preference_of r ≤ h) same (import_most h out sends into comms imported all f)

pub import_highest : (h : ℕ) (out : Plain) (sends : Bool) (into : Plain) → All (GivesAtMost h) into.entries → IsHighest (Import out sends into) h
import_highest h out sends into all = record { most = import_step h out sends into all }

cost_step : (cost number : ℕ) (from route : Route) → step_by (Cost cost) number from ≡ Some route → preference_of route ≤ 0
unfolding step_by
cost_step cost number (Bgp lp path comms) route e = absurd (cc)
cost_step cost number (Ospf other) route e = by (nat_lt 4294967295 (cost + other)) e
  where
    by : (b : Bool) → cond b None (Some (Ospf (cost + other))) ≡ Some route → preference_of route ≤ 0
    by true f = absurd (cc)
    by false f = let same : Ospf (cost + other) ≡ route = cc in subst (λ (r : Route). preference_of r ≤ 0) same (omega arith)

pub cost_highest : (cost : ℕ) → IsHighest (Cost cost) 0
cost_highest cost = record { most = cost_step cost }
