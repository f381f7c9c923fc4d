-- Routes that are the same are equal. Public: crates above cite these lemmas.
use Rattle.std.proofs.Common.{◌≡◌, ℕ, true, ◌&&◌, List, refl, sym, ap, ◌∙◌, nat_eq, true≢false}
use Rattle.std.specs.Prelude.{bytes_eq}
use Rattle.std.proofs.lemmas.Bool.{and_parts, eqb-true, eq-eqb}
use Rattle.std.proofs.lemmas.Slice.Eq.{bytes_eq-Decides}
use Rattle.srp_core.specs.declared.route.Route.{Route}
use Rattle.srp_core.specs.declared.route.Route.TheVariants.{Bgp, Ospf}
use Rattle.route_keys.specs.Same.{same_route}

pub same_true : (a b : Route) → same_route a b ≡ true → a ≡ b
same_true (Bgp lp path comms) (Bgp lp' path' comms') e =
    let first = and_parts (nat_eq lp lp') (bytes_eq path path' && bytes_eq comms comms') e in
    let rest = and_parts (bytes_eq path path') (bytes_eq comms comms') first.1 in
    ap (λ (n : ℕ). Bgp n path comms) (eqb-true lp lp' first.0) ∙ ap (λ (p : List ℕ). Bgp lp' p comms) ((bytes_eq-Decides path path').0 rest.0)
    ∙ ap (λ (c : List ℕ). Bgp lp' path' c) ((bytes_eq-Decides comms comms').0 rest.1)
same_true (Bgp lp path comms) (Ospf cost) e = absurd (true≢false (sym e))
same_true (Ospf cost) (Bgp lp path comms) e = absurd (true≢false (sym e))
same_true (Ospf cost) (Ospf cost') e = ap (λ (n : ℕ). Ospf n) (eqb-true cost cost' e)

pub same_self : (a : Route) → same_route a a ≡ true
same_self (Bgp lp path comms) = rw (eq-eqb lp lp refl, (bytes_eq-Decides path path).1 refl, (bytes_eq-Decides comms comms).1 refl) refl
same_self (Ospf cost) = eq-eqb cost cost refl
