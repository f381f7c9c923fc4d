-- The text of every stable solution of a network that is read, and of its groups, is short.
use Rattle.std.proofs.Common.{◌≡◌, ◌≤◌, ℕ, true, List, [], ◌∷◌, length, map, refl, sym, ap, ◌∙◌, subst, arith, zero-add, Option, Some, None}
use Rattle.std.specs.Prelude.{slice_get}
use Rattle.std.specs.List.{AllByRecursion, range_with_len}
use Rattle.std.specs.Option.{option_map}
use Rattle.std.proofs.lemmas.List.{length-map}
use Rattle.std.proofs.lemmas.List.FromFn.{length-map-range_with_len}
use Rattle.base_kit.proofs.Elements.{In, contains_in, get_in, in_map, in_range}
use Rattle.base_kit.proofs.SetFacts.{ascending_with_numbers}
use Rattle.base_kit.specs.Prefixes.{Prefix}
use Rattle.base_kit.specs.Sets.{IsAscending}
use Rattle.cfg_ast.specs.declared.network.Network.{Network}
use Rattle.cfg_ast.specs.declared.network.Router.{Router}
use Rattle.cfg_ast.specs.meaning.Policy.{Received, import_of_session}
use Rattle.cfg_ast.specs.meaning.PolicyFaults.{mentions, community_of, communities_of}
use Rattle.cfg_ast.specs.printing.WellFormed.{IsNumber, IsWellFormedRouter}
use Rattle.cfg_ast.specs.text.Reading.{IsGiven}
use Rattle.cfg_ast.specs.text.Words.{is_router_name}
use Rattle.cfg_check.specs.Faultless.{IsFaultless}
use Rattle.cfg_check.proofs.Faultless.{few_routers}
use Rattle.cfg_check.proofs.FewCommunities.{few_communities}
use Rattle.given_laws.proofs.WellFormed.{given_is_well_formed, given_routers_are_well_formed}
use Rattle.route_maps.specs.declared.plain.Imported.{Imported}
use Rattle.route_maps.specs.Sessions.{imported_as}
use Rattle.solution_round_trip.specs.Laws.{IsLabelInRange, StableIsInRange, StableOfGroupsIsInRange}
use Rattle.solution_text.specs.Printed.{labels_text}
use Rattle.srp_core.proofs.Alike.{imports_alike}
use Rattle.srp_core.specs.declared.route.Act.{Act}
use Rattle.srp_core.specs.declared.route.Act.TheVariants.{Import, Cost}
use Rattle.srp_core.specs.declared.route.Route.{Route}
use Rattle.srp_core.specs.Acts.{import_by}
use Rattle.srp_core.specs.Problem.{Problem, IsProblem, count, act_of}
use Rattle.srp_core.specs.ProblemOf.{as_number_of, Direction, MeansLink, IsProblemOf}
use Rattle.srp_core.specs.Quotient.{group_of, IsUsed, IsQuotient}
use Rattle.srp_core.specs.Stability.{IsStable}
use Rattle.solution_length.proofs.Covered.{covered}
use Rattle.solution_length.proofs.Imports.{IsFew, IsFewReceived, HasFewMaps, maps_few, session_few}
use Rattle.solution_length.proofs.Lines.{text_light}
use Rattle.solution_length.proofs.Numbers.{each_number, number_at, first_is_number}
use Rattle.solution_length.proofs.Places.{few_behind}
use Rattle.solution_length.proofs.ShortLabels.{ImportsFew, HasFew, stable_short}
use Rattle.solution_length.specs.Laws.{most_bytes, StableTextIsShort, TextOfGroupsIsShort}

same_some : {X : Type 0} (x y : X) → Some x ≡ Some y → x ≡ y
same_some x y e = cc

received_few : (set : List ℕ) (o : Option Received) (i : Imported) → ((received : Received) → o ≡ Some received → IsFewReceived set received)
    → option_map imported_as o ≡ Some i → IsFew set i.comms i.adds
received_few set None i few e = cc
received_few set (Some received) i few e = subst (λ (j : Imported). IsFew set j.comms j.adds) (same_some (imported_as received) i e) (few received refl)

communities_ascend : (n : Network) → IsAscending (communities_of n)
unfolding communities_of
communities_ascend n = ascending_with_numbers (map community_of (mentions n)) [] tt

module _ (n : Network) (given : ∥ IsGiven n ∥₁) (faultless : IsFaultless n) (p : Prefix) (P : Problem) (of : IsProblemOf n p P) where
  abbrev set : List ℕ
  set = communities_of n

  maps_at : (place : ℕ) (router : Router) → slice_get n.routers place ≡ Some router → HasFewMaps set router
  maps_at place router at =
      let has = contains_in n.routers router (get_in n.routers place router at) in
      maps_few n router has (given_routers_are_well_formed n given router has)

  means_few : (d : Direction) (act : Act) → MeansLink n p d act → ImportsFew set act
  unfolding import_by
  means_few d (Import out sends into) means comms up within i e =
      let ends = means.ends in
      received_few set (import_of_session p ends.exporter ends.exporter_line ends.importer ends.importer_line comms) i
      (λ received. session_few set p ends.exporter ends.importer ends.exporter_line ends.importer_line comms received
      (maps_at d.exporter ends.exporter ends.exporter_at) (maps_at d.importer ends.importer ends.importer_at) within)
      (sym (means.same comms up) ∙ e)
  means_few d (Cost cost) means comms up within i e = cc

  numbers : AllByRecursion IsNumber P.numbers
  numbers = subst (AllByRecursion IsNumber) (sym of.numbers) (each_number n.routers (given_is_well_formed n given).routers)

  has_few : HasFew P set
  has_few = record {
    few = few_communities n faultless;
    is_set = communities_ascend n;
    exporters = λ edge edge_in. number_at P.numbers edge.exporter numbers;
    imports = λ edge edge_in. (let stands = of.edges_stand edge edge_in in means_few stands.0 (act_of P edge) stands.1.means);
  }

  groups_have_few : (small : Problem) (groups : List ℕ) → IsProblem small → IsQuotient P groups small → HasFew small set
  groups_have_few small groups rules is = record {
    few = few_communities n faultless;
    is_set = communities_ascend n;
    exporters = λ lower lower_in. subst IsNumber
        (sym (is.numbers lower.exporter (rules.edges.inside lower lower_in).exporter_in (IsUsed.exports lower lower_in refl)))
        (first_is_number P.numbers groups lower.exporter numbers);
    imports = λ lower lower_in. (
        let above = is.down lower lower_in in
        λ comms up within i e. has_few.imports above.0 above.1 comms up within i
        (imports_alike (act_of P above.0) (act_of small lower) above.2.alike comms up ∙ e)
        );
  }

  few_places : count P ≤ 4096
  few_places = omega (arith, few_routers n faultless, ap length of.numbers, length-map n.routers as_number_of)

router_names : (routers : List Router) → AllByRecursion IsWellFormedRouter routers
    → AllByRecursion (λ (name : List ℕ). is_router_name name ≡ true) (map (λ (router : Router). router.name) routers)
router_names [] are = tt
router_names (router ∷ routers) are = (are.0.name, router_names routers are.1)

text_short : (P : Problem) → IsProblem P → (set : List ℕ) → HasFew P set → count P ≤ 4096
    → AllByRecursion (λ (name : List ℕ). is_router_name name ≡ true) P.names → (L : List (Option Route)) → IsStable P L
    → AllByRecursion (IsLabelInRange P.protocol) L → length (labels_text P.names L) ≤ most_bytes
text_short P rules set has few named L stable range =
    let total = stable.fitting.total in
    let most : length L ≤ 4096 = omega (arith, total, few) in
    omega (arith, text_light P.protocol L P.names named range (stable_short P rules set has L stable), few_behind L most, most)

-- the groups are no more than the routers
few_groups : (P small : Problem) (groups : List ℕ) → IsQuotient P groups small → count small ≤ count P
few_groups P small groups is =
    let all = range_with_len 0 (count P) in
    let more = covered (count small) (map (group_of groups) all) (λ g less. (
    let member = is.onto g less in
    subst (In (map (group_of groups) all)) member.2
    (in_map (group_of groups) all member.0 (subst (In all) (zero-add member.0) (in_range 0 (count P) member.0 member.1)))
    )) in
    omega (arith, more, length-map-range_with_len (group_of groups) 0 (count P))

pub stable_text_is_short : StableIsInRange → StableTextIsShort
stable_text_is_short range n given faultless p P labels of stable =
    text_short P of.rules (communities_of n) (has_few n given faultless p P of) (few_places n given faultless p P of)
    (subst (AllByRecursion (λ (name : List ℕ). is_router_name name ≡ true)) (sym of.names) (router_names n.routers (given_is_well_formed n given).routers))
    labels stable (range n given p P labels of stable)

pub text_of_groups_is_short : StableOfGroupsIsInRange → TextOfGroupsIsShort
text_of_groups_is_short range n given faultless p P small groups labels of rules is named stable =
    let fewer = few_groups P small groups is in
    let few = few_places n given faultless p P of in
    text_short small rules (communities_of n) (groups_have_few n given faultless p P of small groups rules is) (omega (arith, fewer, few)) named
    labels stable (range n given p P small groups labels of rules is stable)
