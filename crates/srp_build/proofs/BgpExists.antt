-- A class of a BGP network has a problem: its acts are the different imports of its sessions, in the order of the first edges that
-- have them.
use Rattle.std.proofs.Common.{◌≡◌, ◌≢◌, ◌⊎◌, inl, inr, ℕ, zero, suc, ◌+◌, ◌<◌, ◌^◌, Bool, true, false, not, ◌||◌, nat_eq, List, [], ◌∷◌, map, flat_map, length, Option, Some, None, is_some, refl, sym, ap, ◌∙◌, subst, arith, zero-add}
use Rattle.std.specs.Prelude.{Contains, IfSome, slice_get, slice_index_or}
use Rattle.std.specs.List.{list_any, range_with_len, AllByRecursion}
use Rattle.std.specs.Option.{option_map_or}
use Rattle.std.proofs.lemmas.Bool.Decides.{nat_tests}
use Rattle.std.proofs.lemmas.List.{length-map}
use Rattle.std.proofs.lemmas.List.Elements.{All-from_recursion}
use Rattle.std.proofs.lemmas.List.FromFn.{length-range_with_len}
use Rattle.base_kit.specs.declared.act_graph.Edge.{Edge}
use Rattle.base_kit.specs.declared.protocol.Protocol.TheVariants.{Bgp as OverBgp}
use Rattle.base_kit.specs.Prefixes.{Prefix}
use Rattle.base_kit.proofs.Elements.{contains_in, flat_map_in, get_in, in_contains, in_flat_map, in_get, map_in, In}
use Rattle.base_kit.proofs.SetFacts.{same_number}
use Rattle.by_key.proofs.KeyedItems.{all_from}
use Rattle.cfg_ast.specs.declared.bgp.BgpProcess.{BgpProcess}
use Rattle.cfg_ast.specs.declared.classes.DestClass.{DestClass}
use Rattle.cfg_ast.specs.declared.network.Network.{Network}
use Rattle.cfg_ast.specs.declared.network.Router.{Router}
use Rattle.cfg_ast.specs.declared.policy.Change.{Change}
use Rattle.cfg_ast.specs.declared.policy.Change.TheVariants.{Append, Clear, Replace}
use Rattle.cfg_ast.specs.meaning.Classes.{classes_of}
use Rattle.cfg_ast.specs.meaning.Policy.{name_of}
use Rattle.cfg_ast.specs.meaning.PolicyFaults.{communities_of}
use Rattle.cfg_ast.specs.meaning.Topology.{links_of, neighbors_of}
use Rattle.cfg_ast.specs.printing.WellFormed.{IsWellFormedChange}
use Rattle.cfg_check.specs.Faultless.{IsFaultless}
use Rattle.policy_dd.specs.Imports.{AcceptsNone, AcceptsSome, AreOneImport}
use Rattle.route_maps.specs.declared.plain.Imported.{Imported}
use Rattle.route_maps.specs.declared.plain.Plain.{Plain}
use Rattle.route_maps.specs.declared.plain.PlainEntry.{PlainEntry}
use Rattle.route_maps.specs.Maps.{import_of}
use Rattle.route_maps.specs.Printable.{IsPrintable, IsPrintableEntry}
use Rattle.route_maps.specs.Sessions.{session_import}
use Rattle.route_maps.specs.Within.{IsMapWithin}
use Rattle.specialize.specs.OnePrefix.{plain_of}
use Rattle.specialize.specs.Sessions.{in_map, out_map, AddsNothing}
use Rattle.specialize.proofs.AddNothing.{in_maps_add_nothing}
use Rattle.specialize.proofs.Printable.{printable_maps, printable_plain}
use Rattle.specialize.proofs.Sessions.{imports_as_session}
use Rattle.specialize.proofs.Within.{maps_stay_within}
use Rattle.srp_core.specs.declared.route.Route.{Route}
use Rattle.srp_core.specs.declared.route.Act.{Act}
use Rattle.srp_core.specs.declared.route.Act.TheVariants.{Cost}
use Rattle.srp_core.specs.Acts.{import_by, ActsAlike, ChangesToSet, ImportsAlike, IsActOf, KeepsSets, MapsToSets}
use Rattle.srp_core.specs.Problem.{act_of, count, initial, is_lone, number, Accepts, IsEdgeOf, IsLone, IsProblem, Problem}
use Rattle.srp_core.specs.ProblemOf.{as_number_of, start_route, CarriesRoutes, Direction, IsDirection, IsProblemOf, MeansLink, SessionEnds, StandsFor}
use Rattle.srp_core.specs.Routes.{comms_of, path_of, IsRouteOf}
use Rattle.srp_build.specs.declared.hops.Hop.{Hop}
use Rattle.srp_build.specs.ActOrder.{AreByFirstUse}
use Rattle.srp_build.specs.Bgp.{IsBgp}
use Rattle.srp_build.specs.BgpEdges.{has_initial}
use Rattle.srp_build.specs.Directions.{directions_of}
use Rattle.srp_build.specs.FirstActs.{HasFirstActs, IsActOfLines}
use Rattle.srp_build.specs.HopEdges.{edge_with, AreEdgesOf}
use Rattle.srp_build.specs.Lines.{act_of_hop, map_at, sends_at}
use Rattle.srp_build.specs.Starts.{starts_from}
use Rattle.srp_build.proofs.BgpLinks.{hop_ends, line_process, number_is, read_map, some_number, well_formed, HasProcess}
use Rattle.srp_build.proofs.BgpStarts.{start_is_bgp}
use Rattle.srp_build.proofs.FirstUse.{within_get}
use Rattle.srp_build.proofs.HopEdges.{few_edges, hop_edge}
use Rattle.srp_build.proofs.LinkPlaces.{direction_of, hop_for, is_direction, one_hop, sorted_direction, sorted_hop}
use Rattle.srp_build.proofs.MapsOfClass.{maps_of_class}
use Rattle.srp_build.proofs.OspfChecked.{none_is}
use Rattle.srp_build.proofs.OwnNumbers.{one_router, HasAt}
use Rattle.srp_build.proofs.ImportMaps.{in_at_ends, out_at_ends, sends_at_ends}
use Rattle.srp_build.proofs.SortedEdges.{ends_differ, exporter_in, from, importer_in, one_of_link, ordered}
use Rattle.srp_build.proofs.SortedHops.{IsHopOf}
use Rattle.srp_build.proofs.StartsOfClass.{starts_of_class}
use Rattle.srp_build.specs.Exists.{AreSessionMaps, HasProblem, HasSamples}
use Rattle.srp_build.proofs.NumberedActs.{all_numbered, AreNumbered, HasAct}
use Rattle.srp_build.proofs.Samples.{dec_accepts, dec_one, preferences, preferred, prefers, Prefers}

-- ---- lists

there : {X : Type 0} (xs : List X) (k : ℕ) → k < length xs → (x : X) × (slice_get xs k ≡ Some x)
there [] k h = absurd (omega arith)
there (x ∷ xs) zero h = (x, refl)
there (x ∷ xs) (suc k) h = there xs k (omega arith)

range_get : (a n u : ℕ) → u < n → slice_get (range_with_len a n) u ≡ Some (a + u)
range_get a zero u h = absurd (omega arith)
range_get a (suc n) zero h = ap (λ (k : ℕ). Some k) (let e : a ≡ a + 0 = omega arith in e)
range_get a (suc n) (suc u) h = range_get (a + 1) n u (omega arith) ∙ ap (λ (k : ℕ). Some k) (let e : a + 1 + u ≡ a + suc u = omega arith in e)

-- a list has two different numbers
differ_in : List ℕ → Bool
differ_in [] = false
differ_in (x ∷ xs) = list_any (λ y. not (nat_eq x y)) xs

record Two (xs : List ℕ) : Type 0 where
  first : ℕ
  second : ℕ
  first_in : In xs first
  second_in : In xs second
  differ : first ≢ second

differs : (x y : ℕ) → not (nat_eq x y) ≡ true → x ≢ y
differs x y e same = by (nat_eq x y) (same_number x y same) e
  where
    by : (b : Bool) → b ≡ true → not b ≡ true → ⊥
    by true e f = cc
    by false e f = cc

equal : (x y : ℕ) → not (nat_eq x y) ≡ false → x ≡ y
equal x y e = (let t : nat_eq x y ≡ true = by (nat_eq x y) e in grind (arith, nat_tests))
  where
    by : (b : Bool) → not b ≡ false → b ≡ true
    by true e = refl
    by false e = absurd cc

any_item : (x : ℕ) (xs : List ℕ) → list_any (λ y. not (nat_eq x y)) xs ≡ true → (y : ℕ) × In xs y × (x ≢ y)
any_item x [] e = absurd cc
any_item x (y ∷ ys) e = by (any_item x ys) (not (nat_eq x y)) refl e
  where
    by : (list_any (λ z. not (nat_eq x z)) ys ≡ true → (z : ℕ) × In ys z × (x ≢ z)) → (b : Bool) → not (nat_eq x y) ≡ b
        → b || list_any (λ z. not (nat_eq x z)) ys ≡ true → (z : ℕ) × In (y ∷ ys) z × (x ≢ z)
    by later true is e = (y, inl refl, differs x y is)
    by later false is e = (let r = later e in (r.0, inr r.1, r.2))

no_item : (x : ℕ) (xs : List ℕ) → list_any (λ y. not (nat_eq x y)) xs ≡ false → (y : ℕ) → In xs y → x ≡ y
no_item x [] e y at = absurd at
no_item x (z ∷ zs) e y at = by (no_item x zs) (not (nat_eq x z)) refl e at
  where
    by : (list_any (λ w. not (nat_eq x w)) zs ≡ false → (w : ℕ) → In zs w → x ≡ w) → (b : Bool) → not (nat_eq x z) ≡ b
        → b || list_any (λ w. not (nat_eq x w)) zs ≡ false → In (z ∷ zs) y → x ≡ y
    by later true is e at = absurd cc
    by later false is e (inl same) = equal x z is ∙ same
    by later false is e (inr at) = later e y at

two : (xs : List ℕ) → differ_in xs ≡ true → Two xs
unfolding differ_in
two [] e = absurd cc
two (x ∷ xs) e = (let r = any_item x xs e in record { first = x; second = r.0; first_in = inl refl; second_in = inr r.1; differ = r.2 })

one_number : (xs : List ℕ) → differ_in xs ≡ false → (x y : ℕ) → In xs x → In xs y → x ≡ y
unfolding differ_in
one_number [] e x y at at' = absurd at
one_number (z ∷ zs) e x y at at' = sym (first x at) ∙ first y at'
  where
    first : (w : ℕ) → In (z ∷ zs) w → z ≡ w
    first w (inl same) = same
    first w (inr at) = no_item z zs e w at

-- ---- maps give sets

changes : (change : Option Change) → IfSome change IsWellFormedChange → ChangesToSet change
changes None is = tt
changes (Some Clear) is = tt
changes (Some (Replace by)) is = is.ascending
changes (Some (Append more)) is = tt

entries_keep : (entries : List PlainEntry) → AllByRecursion IsPrintableEntry entries → AllByRecursion (λ (e : PlainEntry). ChangesToSet e.change) entries
entries_keep [] all = tt
entries_keep (e ∷ es) all = (changes e.change all.0.change, entries_keep es all.1)

maps_keep : (plain : Plain) → IsPrintable plain → MapsToSets plain.entries
maps_keep plain is = All-from_recursion (λ (e : PlainEntry). ChangesToSet e.change) plain.entries (entries_keep plain.entries is.entries)

bit : (b : Bool) → (b ≡ true) ⊎ (b ≡ false)
bit true = inl refl
bit false = inr refl

-- ---- the problem

module _ (n : Network) (bgp : IsBgp n) (faultless : IsFaultless n) (few : length (directions_of n) < 2 ^ 32) (samples : HasSamples (communities_of n))
    (p : Prefix) (init : List (Option Route)) where
  abbrev out_at : Hop → Plain
  out_at hop = map_at p n.routers false hop.exporter hop.exporter_item

  abbrev into_at : Hop → Plain
  into_at hop = map_at p n.routers true hop.importer hop.importer_item

  -- what a direction imports
  abbrev importing : Hop → List ℕ → Option Imported
  importing hop = import_of (out_at hop) (sends_at n.routers hop.exporter hop.exporter_item) (into_at hop)

  abbrev Alike : Hop → Hop → Type 0
  Alike a b = AreOneImport (importing a) (importing b)

  -- the maps of both ends can be printed, and name only communities that the network names
  abbrev HasMaps : Hop → Type 0
  HasMaps hop = AreSessionMaps (communities_of n) (out_at hop) (into_at hop)

  record IsOpen (hop : Hop) : Type 0 where
    open_to : has_initial init hop.importer ≡ false
    some : AcceptsSome (importing hop)

  abbrev IsClosed : Hop → Type 0
  IsClosed hop = (has_initial init hop.importer ≡ true) ⊎ AcceptsNone (importing hop)

  router_in : (place : ℕ) (router : Router) → slice_get n.routers place ≡ Some router → Contains n.routers router
  router_in place router at = contains_in n.routers router (get_in n.routers place router at)

  maps_of : (hop : Hop) → In (directions_of n) hop → HasMaps hop
  maps_of hop at =
      let ends = hop_ends n bgp hop (sorted_hop n hop at) in
      let exporter = router_in hop.exporter ends.exporter ends.exporter_at in
      let importer = router_in hop.importer ends.importer ends.importer_at in
      let out_is = out_at_ends n p hop ends in
      let into_is = in_at_ends n p hop ends in
      record {
        out_is = subst IsPrintable (sym out_is) (printable_plain ends.exporter (name_of ends.exporter_line.map_out) (name_of ends.exporter_line.list_out) p
            false
            (printable_maps n ends.exporter bgp.form faultless.undefined_list faultless.delete_list exporter));
        into_is = subst IsPrintable (sym into_is) (printable_plain ends.importer (name_of ends.importer_line.map_in) (name_of ends.importer_line.list_in) p true
            (printable_maps n ends.importer bgp.form faultless.undefined_list faultless.delete_list importer));
        out_within = subst (IsMapWithin (communities_of n)) (sym out_is)
            (maps_stay_within n ends.exporter exporter (name_of ends.exporter_line.map_out) (name_of ends.exporter_line.list_out) p false);
        into_within = subst (IsMapWithin (communities_of n)) (sym into_is)
            (maps_stay_within n ends.importer importer (name_of ends.importer_line.map_in) (name_of ends.importer_line.list_in) p true);
      }

  abbrev sends_over : Hop → Bool
  sends_over hop = sends_at n.routers hop.exporter hop.exporter_item

  own : (a : Hop) → Alike a a
  own a = record { same = λ set up. refl }

  turn : (a b : Hop) → Alike a b → Alike b a
  turn a b alike = record { same = λ set up. sym (alike.same set up) }

  decide : (a b : Hop) → HasMaps a → HasMaps b → Alike a b ⊎ (Alike a b → ⊥)
  decide a b first second = dec_one (communities_of n) samples (out_at a) (into_at a) (out_at b) (into_at b) (sends_over a) (sends_over b) first second

  choose : (a : Hop) → HasMaps a → IsOpen a ⊎ IsClosed a
  choose a has = elim (bit (has_initial init a.importer)) [
    | inl started ↦ inr (inl started)
    | inr open_to ↦ elim (dec_accepts (communities_of n) samples (out_at a) (into_at a) (sends_over a) has) [
      | inl some ↦ inl (record { open_to = open_to; some = some })
      | inr none ↦ inr (inr none)
    ]
  ]

  numbered : AreNumbered Alike own turn HasMaps decide IsOpen IsClosed choose (directions_of n)
  numbered = all_numbered Alike own turn HasMaps decide IsOpen IsClosed choose (directions_of n) maps_of

  pub acts : List Hop
  acts = numbered.acts

  pub edges : List Edge
  edges = numbered.edges

  abbrev HasEdge : Hop → Edge → Type 0
  HasEdge = HasAct Alike own turn HasMaps decide IsOpen IsClosed choose acts

  each : AreEdgesOf HasEdge IsClosed (directions_of n) edges
  unfolding acts edges
  each = numbered.each

  same_ends : (hop : Hop) (edge : Edge) → HasEdge hop edge → edge ≡ edge_with edge.act hop
  same_ends hop edge has = has.same

  abbrev written : Hop → Act
  written hop = act_of_hop p n.routers hop

  act_maps : (number : ℕ) (act : Hop) → slice_get acts number ≡ Some act → HasMaps act
  unfolding acts
  act_maps number act at = maps_of act (numbered.within number act at)

  -- ---- lone routers

  abbrev preferences_at : Option Hop → List ℕ
  preferences_at None = []
  preferences_at (Some act) = preferences (communities_of n) samples (importing act)

  abbrev preferences_if : Bool → Option Hop → List ℕ
  preferences_if true act = preferences_at act
  preferences_if false act = []

  abbrev preferences_over : ℕ → Edge → List ℕ
  preferences_over u edge = preferences_if (nat_eq edge.importer u) (slice_get acts edge.act)

  -- the preferences with which a router accepts
  preferences_of : ℕ → List ℕ
  preferences_of u = flat_map (preferences_over u) edges

  pub lone : List Bool
  lone = map (λ u. differ_in (preferences_of u)) (range_with_len 0 (length n.routers))

  abbrev pub problem : Problem
  problem = record {
    protocol = OverBgp;
    names = map (λ (router : Router). router.name) n.routers;
    numbers = map as_number_of n.routers;
    init = init;
    lone = lone;
    acts = map written acts;
    edges = edges;
  }

  total : count problem ≡ length n.routers
  total = length-map n.routers as_number_of

  read_act : (k : ℕ) (act : Hop) → slice_get acts k ≡ Some act → slice_index_or (map written acts) k (Cost 0) ≡ written act
  read_act k act at = read_map written acts k act (Cost 0) at

  -- an act imports what its direction does
  written_import : (act : Hop) (comms : List ℕ) → import_by (written act) comms ≡ importing act comms
  unfolding import_by
  written_import act comms = refl

  edge_import : (edge : Edge) (act : Hop) → slice_get acts edge.act ≡ Some act → (comms : List ℕ) → import_by (act_of problem edge) comms ≡ importing act comms
  edge_import edge act at comms = ap (λ (a : Act). import_by a comms) (read_act edge.act act at) ∙ written_import act comms

  record IsActAt (edge : Edge) : Type 0 where
    act : Hop
    at : slice_get acts edge.act ≡ Some act
    open_to : has_initial init edge.importer ≡ false

  edge_act : (edge : Edge) → Contains edges edge → IsActAt edge
  edge_act edge inside =
      let f = from n HasEdge IsClosed same_ends edges each edge inside in
      record {
        act = f.has.act;
        at = f.has.at;
        open_to = ap (λ (e : Edge). has_initial init e.importer) f.same ∙ f.has.carries.open_to;
      }

  over_edge : (u : ℕ) (edge : Edge) (act : Hop) → edge.importer ≡ u → slice_get acts edge.act ≡ Some act → (lp : ℕ) → Prefers (importing act) lp
      → In (preferences_over u edge) lp
  over_edge u edge act importer at lp is =
      subst (λ (b : Bool). In (preferences_if b (slice_get acts edge.act)) lp) (sym (same_number edge.importer u importer))
      (subst (λ (o : Option Hop). In (preferences_at o) lp) (sym at)
      (prefers (communities_of n) samples (out_at act) (into_at act) (sends_over act) (act_maps edge.act act at) lp is))

  record Over (u : ℕ) (edge : Edge) (lp : ℕ) : Type 0 where
    importer : edge.importer ≡ u
    act : Hop
    at : slice_get acts edge.act ≡ Some act
    prefers : Prefers (importing act) lp

  over_by : (u : ℕ) (edge : Edge) (lp : ℕ) (b : Bool) → nat_eq edge.importer u ≡ b → (o : Option Hop) → slice_get acts edge.act ≡ o → In (preferences_if b o) lp
      → Over u edge lp
  over_by u edge lp false e o is at = absurd at
  over_by u edge lp true e None is at = absurd at
  over_by u edge lp true e (Some act) is at =
      record {
        importer = (let same : edge.importer ≡ u = grind (arith, nat_tests) in same);
        act = act;
        at = is;
        prefers =
            preferred (communities_of n) samples (importing act) lp at;
      }

  edge_over : (u : ℕ) (edge : Edge) (lp : ℕ) → In (preferences_over u edge) lp → Over u edge lp
  edge_over u edge lp at = over_by u edge lp (nat_eq edge.importer u) refl (slice_get acts edge.act) refl at

  accepts : (u lp : ℕ) → In (preferences_of u) lp → Accepts problem u lp
  unfolding preferences_of
  accepts u lp at =
      let r = flat_map_in (preferences_over u) edges lp at in
      let o = edge_over u r.0 lp r.2 in
      record {
        edge = r.0;
        edge_in = contains_in edges r.0 r.1;
        importer = o.importer;
        comms = o.prefers.set;
        is_set = o.prefers.ascending;
        imported = o.prefers.import;
        accepted = edge_import r.0 o.act o.at o.prefers.set ∙ o.prefers.is;
        preferred = o.prefers.preferred;
      }

  accepted : (u lp : ℕ) → Accepts problem u lp → In (preferences_of u) lp
  unfolding preferences_of
  accepted u lp a =
      let act = edge_act a.edge a.edge_in in
      in_flat_map (preferences_over u) edges a.edge lp (in_contains edges a.edge a.edge_in)
      (over_edge u a.edge act.act a.importer act.at lp
      (record {
        set = a.comms;
        ascending = a.is_set;
        import = a.imported;
        is = sym (edge_import a.edge act.act act.at a.comms) ∙ a.accepted;
        preferred =
            a.preferred;
      }))

  lone_is : (u : ℕ) → u < length n.routers → is_lone problem u ≡ differ_in (preferences_of u)
  unfolding lone
  lone_is u inside =
      read_map (λ v. differ_in (preferences_of v)) (range_with_len 0 (length n.routers)) u u false
      (range_get 0 (length n.routers) u inside ∙ ap (λ (k : ℕ). Some k) (zero-add u))

  closed_to : (place : ℕ) → has_initial init place ≡ false → slice_index_or init place None ≡ None
  closed_to place open_to = none_is (slice_index_or init place None) open_to

  only_lone : (u : ℕ) → u < length n.routers → is_lone problem u ≡ true → IsLone problem u
  only_lone u inside e =
      let t = two (preferences_of u) (sym (lone_is u inside) ∙ e) in
      let first = accepts u t.first t.first_in in
      record {
        unoriginated = closed_to u (ap (has_initial init) (sym first.importer) ∙ (edge_act first.edge first.edge_in).open_to);
        first = t.first;
        second = t.second;
        first_accepted = first;
        second_accepted = accepts u t.second t.second_in;
        differ = t.differ;
      }

  all_lone : (u : ℕ) → u < length n.routers → IsLone problem u → is_lone problem u ≡ true
  all_lone u inside is = elim (bit (differ_in (preferences_of u))) [
    | inl marked ↦ lone_is u inside ∙ marked
    | inr alone ↦ absurd (is.differ (one_number (preferences_of u) alone is.first is.second (accepted u is.first is.first_accepted)
        (accepted u is.second is.second_accepted)))
  ]

  -- ---- edges and acts

  edge_is : (edge : Edge) → Contains edges edge → IsEdgeOf problem edge
  edge_is edge inside =
      let f = from n HasEdge IsClosed same_ends edges each edge inside in
      let all = total in
      let lengths : length (map written acts) ≡ length acts = length-map acts written in
      let below = within_get acts edge.act f.has.act f.has.at in
      let a = importer_in n HasEdge IsClosed same_ends edges each edge inside in
      let b = exporter_in n HasEdge IsClosed same_ends edges each edge inside in
      record {
        importer_in = omega arith;
        exporter_in = omega arith;
        differ = ends_differ n HasEdge IsClosed same_ends edges each edge inside;
        act_in = omega arith;
      }

  adds_nothing : (hop : Hop) (k : ℕ) → slice_get acts k ≡ Some hop → IsActOf OverBgp (written hop)
  unfolding acts
  adds_nothing hop k at =
      let ends = hop_ends n bgp hop (sorted_hop n hop (numbered.within k hop at)) in
      subst AddsNothing (sym (in_at_ends n p hop ends))
      (in_maps_add_nothing n ends.importer ends.importer_line bgp.nothing_added (router_in hop.importer ends.importer ends.importer_at)
      (contains_in (neighbors_of ends.importer) ends.importer_line
      (get_in (neighbors_of ends.importer) hop.importer_item ends.importer_line ends.importer_line_at)) p)

  act_fits : (act : Act) → In (map written acts) act → IsActOf OverBgp act
  act_fits act at =
      let m = map_in written acts act at in
      let place = in_get acts m.0 m.1 in
      subst (λ (a : Act). IsActOf OverBgp a) m.2 (adds_nothing m.0 place.0 place.1)

  act_keeps : (act : Act) → In (map written acts) act → KeepsSets act
  unfolding KeepsSets
  act_keeps act at =
      let m = map_in written acts act at in
      let place = in_get acts m.0 m.1 in
      let has = act_maps place.0 m.0 place.1 in
      subst KeepsSets m.2 (maps_keep (out_at m.0) has.out_is, maps_keep (into_at m.0) has.into_is)

  imports_alike : (x y : Hop) → ActsAlike (written x) (written y) → ImportsAlike (written x) (written y)
  imports_alike x y alike = alike

  acts_differ : (i j : ℕ) → i < length (map written acts) → j < length (map written acts)
      → ActsAlike (slice_index_or (map written acts) i (Cost 0)) (slice_index_or (map written acts) j (Cost 0)) → i ≡ j
  unfolding acts
  acts_differ i j i_in j_in alike =
      let lengths : length (map written acts) ≡ length acts = length-map acts written in
      let a = there acts i (omega arith) in
      let b = there acts j (omega arith) in
      let both : ActsAlike (written a.0) (written b.0) =
      subst (λ (x : Act). ActsAlike x (written b.0)) (read_act i a.0 a.1)
      (subst (λ (y : Act). ActsAlike (slice_index_or (map written acts) i (Cost 0)) y) (read_act j b.0 b.1) alike) in
      numbered.apart i j a.0 b.0 a.1 b.1 (record {
        same = λ set up. sym (written_import a.0 set) ∙ (imports_alike a.0 b.0 both).same set up ∙ written_import b.0 set;
      })

  acts_in_order : AreByFirstUse edges (length (map written acts))
  unfolding acts edges
  acts_in_order = subst (λ (k : ℕ). AreByFirstUse edges k) (sym (length-map acts written)) numbered.order

  -- ---- numbers

  number_at : (u : ℕ) (router : Router) → slice_get n.routers u ≡ Some router → number problem u ≡ as_number_of router
  number_at u router at = read_map as_number_of n.routers u router 0 at

  has_number : (u : ℕ) (router : Router) → slice_get n.routers u ≡ Some router → HasProcess router → number problem u ≢ 0
  has_number u router at has e = some_number n bgp router (get_in n.routers u router at) has (sym (number_at u router at) ∙ e)

  importer_numbered : (edge : Edge) → Contains edges edge → number problem edge.importer ≢ 0
  importer_numbered edge inside =
      let f = from n HasEdge IsClosed same_ends edges each edge inside in
      let ends = hop_ends n bgp f.hop f.of in
      subst (λ (k : ℕ). number problem k ≢ 0) (sym (ap (λ (e : Edge). e.importer) f.same))
      (has_number f.hop.importer ends.importer ends.importer_at (line_process ends.importer f.hop.importer_item ends.importer_line ends.importer_line_at))

  exporter_numbered : (edge : Edge) → Contains edges edge → number problem edge.exporter ≢ 0
  exporter_numbered edge inside =
      let f = from n HasEdge IsClosed same_ends edges each edge inside in
      let ends = hop_ends n bgp f.hop f.of in
      subst (λ (k : ℕ). number problem k ≢ 0) (sym (ap (λ (e : Edge). e.exporter) f.same))
      (has_number f.hop.exporter ends.exporter ends.exporter_at (line_process ends.exporter f.hop.exporter_item ends.exporter_line ends.exporter_line_at))

  process_of : (u : ℕ) (router : Router) (o : Option BgpProcess) → slice_get n.routers u ≡ Some router → router.bgp ≡ o
      → option_map_or (λ (process : BgpProcess). process.number) o 0 ≢ 0 → (process : BgpProcess) × HasAt n.routers u process
  process_of u router None at is some = absurd (some refl)
  process_of u router (Some process) at is some = (process, record { router = router; at = at; is = is })

  distinct : (u v : ℕ) → u < count problem → v < count problem → number problem u ≡ number problem v → number problem u ≢ 0 → u ≡ v
  distinct u v u_in v_in same some =
      let all = total in
      let a = there n.routers u (omega arith) in
      let b = there n.routers v (omega arith) in
      let is_a = number_at u a.0 a.1 in
      let is_b = number_at v b.0 b.1 in
      let x = process_of u a.0 a.0.bgp a.1 refl (λ e. some (is_a ∙ e)) in
      let y = process_of v b.0 b.0.bgp b.1 refl (λ e. some (same ∙ is_b ∙ e)) in
      let at_x : x.1.router ≡ a.0 = (let both = sym x.1.at ∙ a.1 in cc) in
      let at_y : y.1.router ≡ b.0 = (let both = sym y.1.at ∙ b.1 in cc) in
      let num_x : as_number_of a.0 ≡ x.0.number = number_is a.0.bgp x.0 (ap (λ (r : Router). r.bgp) (sym at_x) ∙ x.1.is) in
      let num_y : as_number_of b.0 ≡ y.0.number = number_is b.0.bgp y.0 (ap (λ (r : Router). r.bgp) (sym at_y) ∙ y.1.is) in
      one_router n bgp.own_numbers u v x.0 y.0 x.1 y.1 (sym num_x ∙ sym is_a ∙ same ∙ is_b ∙ num_y)

  -- ---- for a prefix of the class

  record StartsAt (q : Prefix) (routers : List Router) (place : ℕ) (route : Route) : Type 0 where
    router : Router
    at : slice_get routers place ≡ Some router
    is : start_route q router ≡ Some route

  starts_at : (q : Prefix) (routers : List Router) (place : ℕ) (route : Route) → slice_index_or (map (start_route q) routers) place None ≡ Some route
      → StartsAt q routers place route
  starts_at q [] place route h = absurd cc
  starts_at q (router ∷ routers) zero route h = record { router = router; at = refl; is = h }
  starts_at q (router ∷ routers) (suc place) route h = let r = starts_at q routers place route h in record { router = r.router; at = r.at; is = r.is }

  module _ (q : Prefix) (starts : init ≡ map (start_route q) n.routers)
      (alike : (router : Router) → Contains n.routers router → (name list : Option (List ℕ)) (inbound : Bool)
      → plain_of router name list p inbound ≡ plain_of router name list q inbound) where
    out_for : (hop : Hop) (ends : SessionEnds n (direction_of hop)) → out_map p ends.exporter ends.exporter_line ≡ out_map q ends.exporter ends.exporter_line
    out_for hop ends = alike ends.exporter (router_in hop.exporter ends.exporter ends.exporter_at) _ _ false

    in_for : (hop : Hop) (ends : SessionEnds n (direction_of hop)) → in_map p ends.importer ends.importer_line ≡ in_map q ends.importer ends.importer_line
    in_for hop ends = alike ends.importer (router_in hop.importer ends.importer ends.importer_at) _ _ true

    import_at_ends : (hop : Hop) (ends : SessionEnds n (direction_of hop)) (comms : List ℕ)
        → importing hop comms ≡ session_import q ends.exporter ends.exporter_line ends.importer ends.importer_line comms
    import_at_ends hop ends comms =
        (λ j. import_of ((out_at_ends n p hop ends ∙ out_for hop ends) j) (sends_at_ends n hop ends j) ((in_at_ends n p hop ends ∙ in_for hop ends) j) comms)
        ∙ imports_as_session q ends.exporter ends.exporter_line ends.importer ends.importer_line
        (well_formed n bgp ends.exporter (get_in n.routers hop.exporter ends.exporter ends.exporter_at))
        (well_formed n bgp ends.importer (get_in n.routers hop.importer ends.importer ends.importer_at)) comms

    start_there : (place : ℕ) (router : Router) → slice_get n.routers place ≡ Some router → slice_index_or init place None ≡ start_route q router
    start_there place router at = ap (λ (l : List (Option Route)). slice_index_or l place None) starts ∙ read_map (start_route q) n.routers place router None at

    carries : (hop : Hop) (edge : Edge) → HasEdge hop edge → SessionEnds n (direction_of hop) → CarriesRoutes n q (direction_of hop)
    carries hop edge has ends =
        let some = has.carries.some in
        record {
          ends = ends;
          unoriginated = sym (start_there hop.importer ends.importer ends.importer_at) ∙ closed_to hop.importer has.carries.open_to;
          comms = some.set;
          is_set = some.ascending;
          imported = some.import;
          accepted = sym (import_at_ends hop ends some.set) ∙ some.is;
        }

    abbrev MeansAs : Hop → Act → Type 0
    MeansAs hop act = MeansLink n q (direction_of hop) act

    means_session : (hop : Hop) (edge : Edge) (has : HasEdge hop edge) → SessionEnds n (direction_of hop) → MeansAs hop (written has.act)
    means_session hop edge has ends = record { ends = ends; same = λ comms up. sym (has.like.same comms up) ∙ import_at_ends hop ends comms }

    stands : (hop : Hop) (edge : Edge) → HasEdge hop edge → IsHopOf (links_of n) hop → StandsFor problem n q edge (direction_of hop)
    stands hop edge has of =
        let ends = hop_ends n bgp hop of in
        record {
          is_direction = is_direction n hop of;
          is_edge = carries hop edge has ends;
          link = ap (λ (e : Edge). e.link) has.same;
          importer = ap (λ (e : Edge). e.importer) has.same;
          exporter = ap (λ (e : Edge). e.exporter) has.same;
          means = subst (MeansAs hop) (sym (read_act edge.act has.act has.at)) (means_session hop edge has ends);
        }

    never_closed : (d : Direction) → CarriesRoutes n q d → IsClosed (hop_for d) → ⊥
    never_closed d carries (inl started) =
        let none = start_there d.importer carries.ends.importer carries.ends.importer_at ∙ carries.unoriginated in
        let closed : has_initial init d.importer ≡ false = ap (λ (o : Option Route). is_some o) none in
        absurd cc
    never_closed d carries (inr nothing) =
        let none = nothing.none carries.comms carries.is_set in
        let some = import_at_ends (hop_for d) carries.ends carries.comms ∙ carries.accepted in
        absurd cc

    edge_for : (d : Direction) → IsDirection n d → CarriesRoutes n q d → (edge : Edge) × Contains edges edge × StandsFor problem n q edge d
    edge_for d is carries =
        let at = sorted_direction n d is in
        elim (hop_edge HasEdge IsClosed (directions_of n) edges each (hop_for d) at) [
          | inl has ↦ (has.0, contains_in edges has.0 has.1, stands (hop_for d) has.0 has.2 (sorted_hop n (hop_for d) at))
          | inr left ↦ absurd (never_closed d carries left)
        ]

    start_at : (u : ℕ) (r : Route) → initial problem u ≡ Some r → StartsAt q n.routers u r
    start_at u r h = starts_at q n.routers u r (sym (ap (λ (l : List (Option Route)). slice_index_or l u None) starts) ∙ h)

    rules : IsProblem problem
    unfolding lone
    rules = record {
      tables = record {
        few_routers = let all = total in let less = bgp.few_routers in omega arith;
        few_edges = let a = few_edges HasEdge IsClosed (directions_of n) edges each in let less = few in omega arith;
        names = length-map n.routers (λ (router : Router). router.name) ∙ sym total;
        init = ap (λ (l : List (Option Route)). length l) starts ∙ length-map n.routers (start_route q) ∙ sym total;
        lone = length-map (range_with_len 0 (length n.routers)) (λ u. differ_in (preferences_of u)) ∙ length-range_with_len 0 (length n.routers) ∙ sym total;
      };
      edges = record {
        inside = edge_is;
        ordered = ordered n HasEdge IsClosed same_ends edges each;
        one_of_link = one_of_link n HasEdge IsClosed same_ends edges each;
      };
      acts = record {
        fit = all_from (IsActOf OverBgp) (map written acts) act_fits;
        keep = all_from KeepsSets (map written acts) act_keeps;
        differ =
            acts_differ;
      };
      starts = record {
        routes = λ u r h. (let s = start_at u r h in let is = (start_is_bgp n bgp s.router (get_in n.routers u s.router s.at) q r s.is).is in
            subst (λ (x : Route). IsRouteOf OverBgp x) (sym is) tt);
        paths = λ u r h. (let s = start_at u r h in ap path_of (start_is_bgp n bgp s.router (get_in n.routers u s.router s.at) q r s.is).is);
        bare = λ u r h. (let s = start_at u r h in ap comms_of (start_is_bgp n bgp s.router (get_in n.routers u s.router s.at) q r s.is).is);
        unoriginated = λ e edge inside. closed_to edge.importer (edge_act edge inside).open_to;
      };
      numbers = λ e. record {
        originators = λ u r h. (let s = start_at u r h in has_number u s.router s.at
            (start_is_bgp n bgp s.router (get_in n.routers u s.router s.at) q r s.is).has);
        importers = importer_numbered;
        exporters = exporter_numbered;
        distinct = distinct;
      };
      marks = record {
        only = λ u inside h. only_lone u (let all = total in omega arith) h;
        all = λ u inside h. all_lone u (let all = total in omega arith) h;
      };
    }

    pub problem_is : IsProblemOf n q problem
    problem_is = record {
      rules = rules;
      protocol = bgp.protocol;
      names = refl;
      numbers = refl;
      init = starts;
      edges_stand = λ edge inside. (let f = from n HasEdge IsClosed same_ends edges each edge inside in (direction_of f.hop, stands f.hop edge f.has f.of));
      edges_all = λ d is carries. edge_for d is carries;
    }

    pub first_acts : HasFirstActs n q problem
    unfolding acts edges
    first_acts = record {
      each = λ place edge at is_first. (
          let inside = contains_in edges edge (get_in edges place edge at) in
          let f = from n HasEdge IsClosed same_ends edges each edge inside in
          let act = numbered.first place edge at is_first in
          let own = sorted_hop n act.act (numbered.within edge.act act.act act.at) in
          let one : act.act ≡ f.hop = one_hop n act.act f.hop own f.of
          (sym (ap (λ (e : Edge). e.importer) act.same) ∙ ap (λ (e : Edge). e.importer) f.same)
          (sym (ap (λ (e : Edge). e.link) act.same) ∙ ap (λ (e : Edge). e.link) f.same) in
          let ends = hop_ends n bgp f.hop f.of in
          record {
            d = direction_of f.hop;
            stands = stands f.hop edge f.has f.of;
            act = subst (λ (a : Act). IsActOfLines n q (direction_of f.hop) a) (sym (read_act edge.act act.act act.at))
                (subst (λ (h : Hop). IsActOfLines n q (direction_of f.hop) (act_of_hop p n.routers h)) (sym one) (record {
                  ends = ends;
                  out_is = out_at_ends n p f.hop ends ∙ out_for f.hop ends;
                  sends_is = sends_at_ends n f.hop ends;
                  into_is = in_at_ends n p f.hop ends ∙ in_for f.hop ends;
                }));
          });
    }

pub some_problem : (n : Network) → IsBgp n → IsFaultless n → length (directions_of n) < 2 ^ 32 → HasSamples (communities_of n) → (class : DestClass)
    → Contains (classes_of n) class → (first : Prefix)
    → Contains class.prefixes first → HasProblem n class
some_problem n bgp faultless few samples class has first first_in =
    let init = starts_from 0 class.origins n.routers in
    record {
      problem = problem n bgp faultless few samples first init;
      built = record {
        of = λ q i. problem_is n bgp faultless few samples first init q (starts_of_class n class q has i)
            (λ router r name list inbound. maps_of_class n class first q has first_in i router r name list inbound);
        order = acts_in_order n bgp faultless few samples first init;
        acts = λ q i. first_acts n bgp faultless few samples first init q (starts_of_class n class q has i)
            (λ router r name list inbound. maps_of_class n class first q has first_in i router r name list inbound);
      };
    }
