-- How what an import makes of a route stands to a label.
use Rattle.std.proofs.Common.{◌≡◌, ℕ, zero, suc, ◌+◌, ◌&&◌, cond, List, length, nat_eq, sym, ap, ◌∙◌, arith, Some}
use Rattle.std.specs.Prelude.{bytes_eq}
use Rattle.route_maps.specs.declared.plain.Imported.{Imported}
use Rattle.srp_core.specs.declared.route.Route.{Route}
use Rattle.srp_core.specs.declared.route.Route.TheVariants.{Bgp}
use Rattle.srp_core.specs.Acts.{prepended}
use Rattle.srp_core.specs.Routes.{preference_of, size_of, comms_of}
use Rattle.route_offers.specs.declared.offers.Offer.TheVariants.{Import}
use Rattle.route_offers.specs.Offers.{offered}
use Rattle.spare_links.specs.declared.standing.Standing.{Standing}
use Rattle.spare_links.specs.declared.standing.Standing.TheVariants.{Apart, Same, Tied}
use Rattle.spare_links.specs.Standing.{standing_to}

longer : (k number : ℕ) (path : List ℕ) → length (prepended k number path) ≡ length path + k
longer zero number path = omega arith
longer (suc k) number path = omega (arith, longer k number path)

-- of these parts of a key to a label
abbrev pub standing_by : ℕ → ℕ → List ℕ → Route → Standing
standing_by lp size comms route =
    cond (nat_eq lp (preference_of route) && nat_eq size (size_of route)) (cond (bytes_eq comms (comms_of route)) Same Tied) Apart

pub import_stands : (imported : Imported) (from route : Route) (number size lp : ℕ) (path comms : List ℕ) → from ≡ Bgp lp path comms →
    size ≡ length path + suc imported.adds →
    standing_by imported.lp size imported.comms route ≡ standing_to (offered (Import imported) (Some from) number) (Some route)
import_stands imported from route number size lp path comms is long =
    ap (λ (n : ℕ). standing_by imported.lp n imported.comms route) (long ∙ sym (longer (suc imported.adds) number path))
    ∙ sym (ap (λ (r : Route). standing_to (offered (Import imported) (Some r) number) (Some route)) is)
