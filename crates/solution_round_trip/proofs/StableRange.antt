-- If what a problem says is in range, then its stable labels are in range too.
use Rattle.std.proofs.Common.{◌≡◌, ℕ, zero, suc, ◌+◌, ◌<◌, ◌≤◌, Bool, true, false, cond, List, [], ◌∷◌, refl, sym, subst, arith, Option, Some, None}
use Rattle.std.specs.Prelude.{nat_lt, Contains}
use Rattle.std.specs.List.{AllByRecursion}
use Rattle.std.specs.Option.{option_map}
use Rattle.std.proofs.lemmas.Bool.Decides.{nat_tests}
use Rattle.base_kit.specs.declared.act_graph.Edge.{Edge}
use Rattle.base_kit.specs.declared.protocol.Protocol.{Protocol}
use Rattle.base_kit.specs.declared.protocol.Protocol.TheVariants.{Bgp as OverBgp, Ospf as OverOspf}
use Rattle.base_kit.specs.Sets.{IsAscending}
use Rattle.cfg_ast.specs.printing.WellFormed.{IsNumber}
use Rattle.route_maps.specs.declared.plain.Imported.{Imported}
use Rattle.srp_core.specs.declared.route.Act.{Act}
use Rattle.srp_core.specs.declared.route.Act.TheVariants.{Import, Cost}
use Rattle.srp_core.specs.declared.route.Route.{Route}
use Rattle.srp_core.specs.declared.route.Route.TheVariants.{Bgp, Ospf}
use Rattle.srp_core.specs.Acts.{import_by, prepended, arrived, step_by}
use Rattle.srp_core.specs.Problem.{Problem, IsProblem, number, initial, act_of}
use Rattle.srp_core.specs.Routes.{size_of, IsRouteOf}
use Rattle.srp_core.specs.Stability.{label, IsCandidate, IsStable}
use Rattle.srp_core.proofs.Offers.{IsSupported, stable_supported, grows}
use Rattle.solution_round_trip.specs.Laws.{IsBgpInRange, IsInRange, IsLabelInRange}
use Rattle.solution_round_trip.proofs.PathsBack.{IsAs}
use Rattle.solution_round_trip.proofs.SessionRange.{AreComms}

-- what is imported of communities in range is in range
abbrev pub ImportsInRange : Act → Type 0
ImportsInRange act = (comms : List ℕ) → IsAscending comms → AreComms comms → (i : Imported) → import_by act comms ≡ Some i → IsNumber i.lp × AreComms i.comms

-- initial routes, the numbers of exporters and what edges import are in range
pub record HasRange (P : Problem) : Type 0 where
  pub starts : (u : ℕ) (r : Route) → initial P u ≡ Some r → IsInRange r
  pub exporters : (edge : Edge) → Contains P.edges edge → IsNumber (number P edge.exporter)
  pub imports : (edge : Edge) → Contains P.edges edge → ImportsInRange (act_of P edge)

same_some : {X : Type 0} (x y : X) → Some x ≡ Some y → x ≡ y
same_some x y e = cc

prepended_range : (times n : ℕ) (path : List ℕ) → IsAs n → AllByRecursion IsAs path → AllByRecursion IsAs (prepended times n path)
prepended_range zero n path range each = each
prepended_range (suc times) n path range each = (range, prepended_range times n path range each)

-- a route that arrives
arrived_range : (n : ℕ) (lp : ℕ) (path comms : List ℕ) (o : Option Imported) (r : Route) → IsAs n → IsRouteOf OverBgp r →
    ((i : Imported) → o ≡ Some i → IsNumber i.lp × AreComms i.comms) → IsBgpInRange lp path comms
    → option_map (arrived n path) o ≡ Some r → IsInRange r
arrived_range n lp path comms None r range fits imports from e = cc
arrived_range n lp path comms (Some i) r range fits imports from e =
    let is : arrived n path i ≡ r = same_some (arrived n path i) r e in
    let in_range = imports i refl in
    subst IsInRange is (record {
      preference = in_range.0;
      numbers = prepended_range (suc i.adds) n path range from.numbers;
      communities = in_range.1;
      is_set = subst (IsRouteOf OverBgp) (sym is) fits;
    })

summed_range : (sum : ℕ) (b : Bool) (r : Route) → nat_lt 4294967295 sum ≡ b → cond b None (Some (Ospf sum)) ≡ Some r → IsInRange r
summed_range sum true r test e = cc
summed_range sum false r test e =
    let few : sum ≤ 4294967295 = grind (arith, nat_tests) in
    subst IsInRange (same_some (Ospf sum) r e) few

step_range : (protocol : Protocol) (act : Act) (n : ℕ) (from r : Route) → (protocol ≡ OverBgp → IsAs n) → IsRouteOf protocol from → IsRouteOf protocol r →
    ImportsInRange act → IsInRange from → step_by act n from ≡ Some r → IsInRange r
unfolding step_by
step_range OverBgp (Import out sends into) n (Bgp lp path comms) r range was fits imports from e =
    arrived_range n lp path comms (import_by (Import out sends into) comms) r (range refl) fits (λ i given. imports comms was from.communities i given) from e
step_range OverOspf (Import out sends into) n (Bgp lp path comms) r range was fits imports from e = absurd was
step_range protocol (Import out sends into) n (Ospf cost) r range was fits imports from e = cc
step_range protocol (Cost cost) n (Bgp lp path comms) r range was fits imports from e = cc
step_range protocol (Cost cost) n (Ospf other) r range was fits imports from e = summed_range (cost + other) (nat_lt 4294967295 (cost + other)) r refl e

module _ (P : Problem) (rules : IsProblem P) (range : HasRange P) (L : List (Option Route)) (stable : IsSupported P L) where
  exporter_range : (edge : Edge) → Contains P.edges edge → P.protocol ≡ OverBgp → IsAs (number P edge.exporter)
  exporter_range edge edge_in bgp =
      (let some = (rules.numbers bgp).exporters edge edge_in in
      positive (number P edge.exporter) some (range.exporters edge edge_in))
    where
      positive : (n : ℕ) → (n ≡ 0 → ⊥) → IsNumber n → IsAs n
      positive zero some le = absurd (some refl)
      positive (suc n) some le = (omega arith, le)

  -- each label is made of one of less size
  by_candidate : (bound u : ℕ) (r : Route) → size_of r < suc bound → label L u ≡ Some r → IsCandidate P L u r →
      ((v : ℕ) (s : Route) → size_of s < bound → label L v ≡ Some s → IsInRange s) → IsInRange r
  by_candidate bound u r small labelled (IsCandidate.of_init e) less = range.starts u r e
  by_candidate bound u r small labelled (IsCandidate.of_edge edge edge_in importer over) less =
      let more = grows P rules edge over.from r edge_in over.stepped in
      step_range P.protocol (act_of P edge) (number P edge.exporter) over.from r (exporter_range edge edge_in)
      (stable.fitting.routes edge.exporter over.from over.labelled) (stable.fitting.routes u r labelled) (range.imports edge edge_in)
      (less edge.exporter over.from (omega (arith, small, more)) over.labelled) over.stepped

  by_size : (bound u : ℕ) (r : Route) → size_of r < bound → label L u ≡ Some r → IsInRange r
  by_size zero u r small labelled = absurd (omega (arith, small))
  by_size (suc bound) u r small labelled = by_candidate bound u r small labelled (stable.held u r labelled) (by_size bound)

  one_range : (u : ℕ) (o : Option Route) → label L u ≡ o → IsLabelInRange P.protocol o
  one_range u None labelled = tt
  one_range u (Some r) labelled = (stable.fitting.routes u r labelled, by_size (suc (size_of r)) u r (omega arith) labelled)

each_label : (protocol : Protocol) (labels : List (Option Route)) → ((u : ℕ) → IsLabelInRange protocol (label labels u)) →
    AllByRecursion (IsLabelInRange protocol) labels
each_label protocol [] each = tt
each_label protocol (o ∷ labels) each = (each 0, each_label protocol labels (λ u. each (suc u)))

pub stable_range : (P : Problem) → IsProblem P → HasRange P → (L : List (Option Route)) → IsStable P L → AllByRecursion (IsLabelInRange P.protocol) L
stable_range P rules range L stable = each_label P.protocol L (λ u. one_range P rules range L (stable_supported P rules L stable) u (label L u) refl)
