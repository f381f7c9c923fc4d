-- The labels of a stable solution are short: their communities are of one set, and each hop of a path is one word.
use Rattle.std.proofs.Common.{◌≡◌, ◌≤◌, ◌<◌, ℕ, zero, suc, ◌+◌, ◌*◌, Bool, true, false, cond, List, [], ◌∷◌, length, refl, sym, ap, ◌∙◌, subst, arith, Option, Some, None}
use Rattle.std.specs.Prelude.{nat_lt, Contains}
use Rattle.std.specs.List.{AllByRecursion}
use Rattle.std.specs.Option.{option_map}
use Rattle.base_kit.specs.declared.act_graph.Edge.{Edge}
use Rattle.base_kit.specs.declared.protocol.Protocol.{Protocol}
use Rattle.base_kit.specs.declared.protocol.Protocol.TheVariants.{Bgp as OverBgp, Ospf as OverOspf}
use Rattle.base_kit.specs.Sets.{IsAscending}
use Rattle.cfg_ast.specs.printing.WellFormed.{IsNumber}
use Rattle.cfg_round_trip.proofs.ShortWords.{weight}
use Rattle.route_maps.specs.declared.plain.Imported.{Imported}
use Rattle.route_maps.specs.Within.{AreWithin}
use Rattle.solution_text.specs.Printed.{path_words}
use Rattle.srp_core.specs.declared.route.Act.{Act}
use Rattle.srp_core.specs.declared.route.Act.TheVariants.{Import, Cost}
use Rattle.srp_core.specs.declared.route.Route.{Route}
use Rattle.srp_core.specs.declared.route.Route.TheVariants.{Bgp, Ospf}
use Rattle.srp_core.specs.Acts.{import_by, arrived, step_by}
use Rattle.srp_core.specs.Problem.{Problem, IsProblem, number, act_of}
use Rattle.srp_core.specs.Routes.{size_of, path_of, comms_of, is_on, IsRouteOf}
use Rattle.srp_core.specs.Stability.{label, IsCandidate, IsStable}
use Rattle.srp_core.proofs.Offers.{IsSupported, stable_supported, grows}
use Rattle.solution_length.proofs.FewCommunities.{few_within}
use Rattle.solution_length.proofs.Imports.{IsFew}
use Rattle.solution_length.proofs.Lines.{IsShortLabel}
use Rattle.solution_length.proofs.PathWords.{path_more, path_none}
use Rattle.solution_length.proofs.Places.{below, one_between}

-- what is imported of communities of the set
abbrev pub ImportsFew : List ℕ → Act → Type 0
ImportsFew set act = (comms : List ℕ) → IsAscending comms → AreWithin set comms → (i : Imported) → import_by act comms ≡ Some i → IsFew set i.comms i.adds

-- the set has few communities, edges import of it, and the numbers of exporters are numbers
pub record HasFew (P : Problem) (set : List ℕ) : Type 0 where
  pub few : length set ≤ 1024
  pub is_set : IsAscending set
  pub exporters : (edge : Edge) → Contains P.edges edge → IsNumber (number P edge.exporter)
  pub imports : (edge : Edge) → Contains P.edges edge → ImportsFew set (act_of P edge)

same_some : {X : Type 0} (x y : X) → Some x ≡ Some y → x ≡ y
same_some x y e = cc

-- the words of a path
abbrev words_of : Route → ℕ
words_of r = weight (path_words (path_of r))

-- a route with communities of the set, whose path has at most one word more
record IsOneMore (set : List ℕ) (from r : Route) : Type 0 where
  comms : AreWithin set (comms_of r)
  path : words_of r ≤ 14 + words_of from

arrived_more : (set : List ℕ) (n lp : ℕ) (path comms : List ℕ) (o : Option Imported) (r : Route) → IsNumber n → is_on n path ≡ false
    → ((i : Imported) → o ≡ Some i → IsFew set i.comms i.adds)
    → option_map (arrived n path) o ≡ Some r → IsOneMore set (Bgp lp path comms) r
arrived_more set n lp path comms None r number off few e = cc
arrived_more set n lp path comms (Some i) r number off few e =
    let is = few i refl in
    subst (IsOneMore set (Bgp lp path comms)) (same_some (arrived n path i) r e)
    (record { comms = is.comms; path = path_more n i.adds path number is.adds off })

summed_more : (set : List ℕ) (from r : Route) (sum : ℕ) (b : Bool) → cond b None (Some (Ospf sum)) ≡ Some r → IsOneMore set from r
summed_more set from r sum true e = cc
summed_more set from r sum false e = subst (IsOneMore set from) (same_some (Ospf sum) r e) (record { comms = tt; path = omega (arith, path_none) })

comms_ascend : (protocol : Protocol) (r : Route) → IsRouteOf protocol r → IsAscending (comms_of r)
comms_ascend OverBgp (Bgp lp path comms) is = is
comms_ascend OverBgp (Ospf cost) is = tt
comms_ascend OverOspf (Bgp lp path comms) is = absurd is
comms_ascend OverOspf (Ospf cost) is = tt

step_more : (set : List ℕ) (act : Act) (n : ℕ) (from r : Route) → IsNumber n → is_on n (path_of from) ≡ false → IsAscending (comms_of from)
    → AreWithin set (comms_of from) → ImportsFew set act → step_by act n from ≡ Some r → IsOneMore set from r
unfolding step_by
step_more set (Import out sends into) n (Bgp lp path comms) r number off up within few e =
    arrived_more set n lp path comms (import_by (Import out sends into) comms) r number off (λ i given. few comms up within i given) e
step_more set (Import out sends into) n (Ospf cost) r number off up within few e = cc
step_more set (Cost cost) n (Bgp lp path comms) r number off up within few e = cc
step_more set (Cost cost) n (Ospf other) r number off up within few e = summed_more set (Ospf other) r (cost + other) (nat_lt 4294967295 (cost + other)) e

-- a label with communities of the set, whose path has a word for each smaller label at most
record IsLight (set : List ℕ) (L : List (Option Route)) (r : Route) : Type 0 where
  comms : AreWithin set (comms_of r)
  path : words_of r ≤ 14 * below L (size_of r)

module _ (P : Problem) (rules : IsProblem P) (set : List ℕ) (has : HasFew P set) (L : List (Option Route)) (stable : IsSupported P L) where
  -- the number of a router is not on the path of its own label
  off_own : (u : ℕ) (r : Route) → label L u ≡ Some r → is_on (number P u) (path_of r) ≡ false
  off_own u r labelled = by (stable.held u r labelled)
    where
      by : IsCandidate P L u r → is_on (number P u) (path_of r) ≡ false
      by (IsCandidate.of_init e) = ap (is_on (number P u)) (rules.starts.paths u r e)
      by (IsCandidate.of_edge edge edge_in importer over) = subst (λ (v : ℕ). is_on (number P v) (path_of r) ≡ false) importer over.passes

  by_candidate : (bound u : ℕ) (r : Route) → size_of r < suc bound → IsCandidate P L u r
      → ((v : ℕ) (s : Route) → size_of s < bound → label L v ≡ Some s → IsLight set L s) → IsLight set L r
  by_candidate bound u r small (IsCandidate.of_init e) less = record {
    comms = subst (AreWithin set) (sym (rules.starts.bare u r e)) tt;
    path = (let none = ap (λ (path : List ℕ). weight (path_words path)) (rules.starts.paths u r e) ∙ path_none in omega (arith, none));
  }
  by_candidate bound u r small (IsCandidate.of_edge edge edge_in importer over) less =
      let more = grows P rules edge over.from r edge_in over.stepped in
      let before = less edge.exporter over.from (omega (arith, small, more)) over.labelled in
      let up = comms_ascend P.protocol over.from (stable.fitting.routes edge.exporter over.from over.labelled) in
      let one = step_more set (act_of P edge) (number P edge.exporter) over.from r (has.exporters edge edge_in)
      (off_own edge.exporter over.from over.labelled) up before.comms (has.imports edge edge_in) over.stepped in
      let words = one.path in
      let words_before = before.path in
      let between = one_between L edge.exporter over.from (size_of r) over.labelled more in
      record { comms = one.comms; path = omega (arith, words, words_before, between) }

  by_size : (bound u : ℕ) (r : Route) → size_of r < bound → label L u ≡ Some r → IsLight set L r
  by_size zero u r small labelled = absurd (omega (arith, small))
  by_size (suc bound) u r small labelled = by_candidate bound u r small (stable.held u r labelled) (by_size bound)

  one_short : (u : ℕ) (o : Option Route) → label L u ≡ o → IsShortLabel L o
  one_short u None labelled = tt
  one_short u (Some r) labelled =
      let light = by_size (suc (size_of r)) u r (omega arith) labelled in
      let up = comms_ascend P.protocol r (stable.fitting.routes u r labelled) in
      let most = has.few in
      record { path = light.path; comms = omega (arith, few_within set (comms_of r) has.is_set up light.comms, most) }

each_label : (A : Option Route → Type 0) (labels : List (Option Route)) → ((u : ℕ) → A (label labels u)) → AllByRecursion A labels
each_label A [] each = tt
each_label A (o ∷ labels) each = (each 0, each_label A labels (λ u. each (suc u)))

pub stable_short : (P : Problem) → IsProblem P → (set : List ℕ) → HasFew P set → (L : List (Option Route)) → IsStable P L → AllByRecursion (IsShortLabel L) L
stable_short P rules set has L stable = each_label (IsShortLabel L) L (λ u. one_short P rules set has L (stable_supported P rules L stable) u (label L u) refl)
