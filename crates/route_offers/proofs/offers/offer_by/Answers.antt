use Rattle.std.proofs.Common.{◌≡◌, ◌||◌, ◌∙◌, sym, ap, true, false, Some, List, ℕ, Option, nat_eq, option_map, is_some}
use Rattle.std.specs.Option.{option_and_then}
use Rattle.route_maps.specs.Maps.{import_of}
use Rattle.route_maps.specs.declared.plain.Imported.{Imported}
use Rattle.srp_core.specs.Acts.{step_by, import_by, arrived}
use Rattle.srp_core.specs.Candidates.{passed}
use Rattle.srp_core.specs.Routes.{is_on}
use Rattle.route_offers.proofs.Lengthened.{dropped, kept}
use Rattle.route_offers.proofs.offers.offer_by.Goals as goal

pub returns-then-loops-clause-exact : goal.returns-then-loops-clause-exact
unfolding step_by import_by
returns-then-loops-clause-exact c =
    let a = c.in-Import-Bgp in
    let looped : (nat_eq c.args.exporter c.args.own || is_on c.args.own a.path) ≡ true =
    ap (λ (path : List ℕ). nat_eq c.args.exporter c.args.own || is_on c.args.own path) (sym c.as_slice.ensures) ∙ sym c.loops.ensures ∙ c.if-loops.true in
    rw (a.is-0, a.is-1) (sym (dropped c.args.exporter c.args.own a.path (import_of a.out a.sends a.into a.comms) looped))

pub returns-in-Some-clause-exact : goal.returns-in-Some-clause-exact
unfolding step_by import_by
returns-in-Some-clause-exact c =
    let a = c.in-Import-Bgp in
    let apart : (nat_eq c.args.exporter c.args.own || is_on c.args.own a.path) ≡ false =
    ap (λ (path : List ℕ). nat_eq c.args.exporter c.args.own || is_on c.args.own path) (sym c.as_slice.ensures) ∙ sym c.loops.ensures ∙ c.if-loops.false in
    let imports : import_of a.out a.sends a.into a.comms ≡ Some c.in-Some.imported = sym c.in_ok-imported-in-Import-Bgp.ensures ∙ c.in-Some.is in
    rw (a.is-0, a.is-1) (sym (ap (λ (i : Option Imported). option_and_then (passed c.args.own) (option_map (arrived c.args.exporter a.path) i)) imports
    ∙ kept c.args.exporter c.args.own a.path c.in-Some.imported apart))

pub returns-then-loops-clause-gives : goal.returns-then-loops-clause-gives
unfolding step_by import_by
returns-then-loops-clause-gives c =
    let a = c.in-Import-Bgp in
    let looped : (nat_eq c.args.exporter c.args.own || is_on c.args.own a.path) ≡ true =
    ap (λ (path : List ℕ). nat_eq c.args.exporter c.args.own || is_on c.args.own path) (sym c.as_slice.ensures) ∙ sym c.loops.ensures ∙ c.if-loops.true in
    rw (a.is-0, a.is-1) (sym (ap is_some (dropped c.args.exporter c.args.own a.path (import_of a.out a.sends a.into a.comms) looped)))

pub returns-in-Some-clause-gives : goal.returns-in-Some-clause-gives
unfolding step_by import_by
returns-in-Some-clause-gives c =
    let a = c.in-Import-Bgp in
    let apart : (nat_eq c.args.exporter c.args.own || is_on c.args.own a.path) ≡ false =
    ap (λ (path : List ℕ). nat_eq c.args.exporter c.args.own || is_on c.args.own path) (sym c.as_slice.ensures) ∙ sym c.loops.ensures ∙ c.if-loops.false in
    let imports : import_of a.out a.sends a.into a.comms ≡ Some c.in-Some.imported = sym c.in_ok-imported-in-Import-Bgp.ensures ∙ c.in-Some.is in
    rw (a.is-0, a.is-1) (sym (ap is_some (ap (λ (i : Option Imported). option_and_then (passed c.args.own) (option_map (arrived c.args.exporter a.path) i))
    imports ∙ kept c.args.exporter c.args.own a.path c.in-Some.imported apart)))
