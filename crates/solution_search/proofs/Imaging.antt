-- What an act makes of routes of which the communities and the least size are known.
use Rattle.std.proofs.Common.{◌≡◌, ℕ, Bool, zero, suc, ◌+◌, ◌≤◌, List, length, Some, sym, ap, ◌∙◌, subst, arith}
use Rattle.srp_core.specs.declared.route.Route.{Route}
use Rattle.srp_core.specs.declared.route.Route.TheVariants.{Bgp, Ospf}
use Rattle.srp_core.specs.declared.route.Act.TheVariants.{Import}
use Rattle.srp_core.specs.Acts.{import_by, prepended, step_by}
use Rattle.srp_core.specs.Routes.{preference_of, size_of, comms_of}
use Rattle.srp_core.proofs.Steps.{arrives}
use Rattle.route_maps.specs.declared.plain.Imported.{Imported}
use Rattle.route_maps.specs.declared.plain.Plain.{Plain}
use Rattle.solution_search.specs.declared.ahead.foreseen.Foreseen.{Foreseen}
use Rattle.solution_search.specs.Outlooks.{IsOneForeseen, IsImageOf, IsImage}

long : (times number : ℕ) (path : List ℕ) → length (prepended times number path) ≡ times + length path
long zero number path = omega arith
long (suc times) number path = let e = long times number path in omega (arith, e)

pub import_image : (out : Plain) (sends : Bool) (into : Plain) (from : Foreseen) (imported : Imported) (size : ℕ) →
    import_by (Import out sends into) from.comms ≡ Some imported → size ≤ from.size + suc imported.adds →
    IsImage (Import out sends into) from (Some (record { preference = imported.lp; comms = imported.comms; size = size }))
unfolding step_by
import_image out sends into from imported size is le = record { each = by }
  where
    by : (number : ℕ) (source route : Route) → IsOneForeseen from source → step_by (Import out sends into) number source ≡ Some route →
        IsImageOf (record { preference = imported.lp; comms = imported.comms; size = size }) route
    by number (Bgp lp path comms) route one e =
        let s = arrives out sends into number lp path comms route e in
        let there : import_by (Import out sends into) comms ≡ Some imported =
        subst (λ (c : List ℕ). import_by (Import out sends into) c ≡ Some imported) one.comms is in
        let same : s.imported ≡ imported = (let a = s.accepted in cc) in
        let p : preference_of route ≡ imported.lp = ap preference_of s.is ∙ ap (λ (i : Imported). i.lp) same in
        let c : comms_of route ≡ imported.comms = ap comms_of s.is ∙ ap (λ (i : Imported). i.comms) same in
        let z : size_of route ≡ length (prepended (suc s.imported.adds) number path) = ap size_of s.is in
        let l = long (suc s.imported.adds) number path in
        let adds : s.imported.adds ≡ imported.adds = ap (λ (i : Imported). i.adds) same in
        let old = one.size in
        record { preference = sym p; comms = sym c; size = omega (arith, z, l, adds, old, le) }
    by number (Ospf cost) route one e = absurd (cc)
