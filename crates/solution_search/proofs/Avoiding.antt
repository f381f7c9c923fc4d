-- The path of a route that a step makes.
use Rattle.std.proofs.Common.{◌≡◌, ◌≢◌, ℕ, zero, suc, Bool, true, false, List, Option, Some, refl, subst}
use Rattle.std.specs.Prelude.{◌||◌, nat_eq}
use Rattle.std.proofs.lemmas.Bool.{eq-eqb}
use Rattle.base_kit.specs.declared.protocol.Protocol.TheVariants.{Bgp as OverBgp}
use Rattle.base_kit.specs.declared.act_graph.Edge.{Edge}
use Rattle.srp_core.specs.declared.route.Route.{Route}
use Rattle.srp_core.specs.declared.route.Route.TheVariants.{Bgp, Ospf}
use Rattle.srp_core.specs.declared.route.Act.{Act}
use Rattle.srp_core.specs.declared.route.Act.TheVariants.{Import, Cost}
use Rattle.srp_core.specs.Acts.{prepended, step_by}
use Rattle.srp_core.specs.Routes.{path_of, is_on, IsRouteOf}
use Rattle.srp_core.specs.Problem.{Problem, number, act_of, step_over}
use Rattle.srp_core.proofs.Steps.{arrives}

or_false : (a b : Bool) → (a || b) ≡ false → (a ≡ false) × (b ≡ false)
or_false true b e = absurd (cc)
or_false false b e = (refl, e)

off_prepended : (a times number : ℕ) (path : List ℕ) → is_on a (prepended times number path) ≡ false → is_on a path ≡ false
off_prepended a zero number path e = e
off_prepended a (suc times) number path e = off_prepended a times number path (or_false (nat_eq number a) (is_on a (prepended times number path)) e).1

-- a number that is not on the path behind the step is not the exporter's, and not on the path before it
pub off_before : (act : Act) (number a : ℕ) (r c : Route) → IsRouteOf OverBgp r → step_by act number r ≡ Some c → is_on a (path_of c) ≡ false →
    (is_on a (path_of r) ≡ false) × (number ≢ a)
unfolding step_by
off_before (Import out sends into) number a (Bgp lp path comms) c fits e off =
    let s = arrives out sends into number lp path comms c e in
    let there : is_on a (prepended (suc s.imported.adds) number path) ≡ false = subst (λ (x : Route). is_on a (path_of x) ≡ false) s.is off in
    let parts = or_false (nat_eq number a) (is_on a (prepended s.imported.adds number path)) there in (
      off_prepended a (suc s.imported.adds) number path there,
      λ same. (let t = eq-eqb number a same in let f = parts.0 in absurd (cc)),
    )
off_before act number a (Ospf cost) c fits e off = absurd fits
off_before (Cost cost) number a (Bgp lp path comms) c fits e off = absurd (cc)

-- the router that is left out is not on the path of the route
pub record Avoids (P : Problem) (without : Option ℕ) (route : Route) : Type 0 where
  pub over_bgp : (x : ℕ) → without ≡ Some x → P.protocol ≡ OverBgp
  pub off : (x : ℕ) → without ≡ Some x → is_on (number P x) (path_of route) ≡ false

-- then it is not the exporter, and not on the path before the step
pub avoids_before : (P : Problem) (without : Option ℕ) (e : Edge) (from route : Route) → IsRouteOf P.protocol from → step_over P e from ≡ Some route →
    Avoids P without route → Avoids P without from × (without ≢ Some e.exporter)
avoids_before P without e from route fits s avoids = (
  record {
    over_bgp = avoids.over_bgp;
    off = λ x is. (before x is).0;
  },
  λ is. (before e.exporter is).1 refl,
)
  where
    before : (x : ℕ) → without ≡ Some x → (is_on (number P x) (path_of from) ≡ false) × (number P e.exporter ≢ number P x)
    before x is = off_before (act_of P e) (number P e.exporter) (number P x) from route (subst (λ p. IsRouteOf p from) (avoids.over_bgp x is) fits) s
        (avoids.off x is)
