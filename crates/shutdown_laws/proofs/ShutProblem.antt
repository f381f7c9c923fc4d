-- The problem without the links of a neighbour, as the problem of the network in which it has `shutdown`.
use Rattle.std.proofs.Common.{◌≡◌, ℕ, ◌<◌, Bool, true, false, not, ◌&&◌, ◌||◌, List, length, map, Option, Some, None, refl, sym, ◌∙◌, ap, subst, inl, inr}
use Rattle.std.specs.Prelude.{Contains, filter, nat_eq, slice_get, slice_index_or}
use Rattle.std.specs.Option.{option_map, option_map_or}
use Rattle.std.proofs.lemmas.Bool.{and_parts}
use Rattle.base_kit.specs.declared.act_graph.Edge.{Edge}
use Rattle.base_kit.specs.declared.protocol.Protocol.{Protocol}
use Rattle.base_kit.specs.declared.protocol.Protocol.TheVariants.{Bgp as OverBgp}
use Rattle.base_kit.specs.Prefixes.{Prefix}
use Rattle.base_kit.proofs.Elements.{in_contains, contains_in, filter_in, in_filter, map_in}
use Rattle.cfg_ast.specs.declared.network.Network.{Network}
use Rattle.cfg_ast.specs.declared.network.Router.{Router}
use Rattle.cfg_ast.specs.declared.topology.Link.{Link}
use Rattle.cfg_ast.specs.meaning.RouterFaults.{ProtocolLine, protocol_lines_of}
use Rattle.cfg_ast.specs.meaning.Topology.{links_of}
use Rattle.cfg_check.specs.Faultless.{IsFaultless}
use Rattle.srp_core.specs.declared.route.Act.{Act}
use Rattle.srp_core.specs.declared.route.Act.TheVariants.{Cost}
use Rattle.srp_core.specs.Problem.{Problem, act_of}
use Rattle.srp_core.specs.ProblemOf.{as_number_of, start_route, Direction, low_imports, high_imports, IsDirection, IsEdgeDirection, CarriesRoutes, MeansLink, StandsFor, IsProblemOf}
use Rattle.srp_core.specs.Without.{is_left, IsWithout}
use Rattle.shutdown_laws.specs.Shutdown.{shut_on, with_shutdown, is_end, down_at, number_left, with_link, renumbered}
use Rattle.shutdown_laws.proofs.ChangedLists.{map_changed, flat_map_changed, left_at, WasAt, was_at, left_ascends, same_lists}
use Rattle.shutdown_laws.proofs.ShutRouters.{same_as_number, same_start, same_lines}
use Rattle.shutdown_laws.proofs.ShutLinks.{shut_links}
use Rattle.shutdown_laws.proofs.ShutEnds.{carries_after, means_after, carries_before}
use Rattle.shutdown_laws.proofs.Renumbered.{renumbered_rules, stays}

neither : (a b : Bool) → not (a || b) ≡ true → (a ≡ false) × (b ≡ false)
neither true b e = absurd cc
neither false true e = absurd cc
neither false false e = (refl, refl)

module _ (n : Network) (prefix : Prefix) (P O : Problem) (r i : ℕ) (faultless : IsFaultless n) (bgp : P.protocol ≡ OverBgp) (of : IsProblemOf n prefix P)
    (without : IsWithout P (down_at n r i) O) where
  abbrev num : ℕ → ℕ
  num link = number_left n r i link

  abbrev goes_on : Link → Bool
  goes_on link = not (is_end r i link)

  links_after : links_of (with_shutdown n r i) ≡ filter goes_on (links_of n)
  links_after = shut_links r i n faultless (of.protocol ∙ ap (λ (p : Protocol). Some p) bgp)

  -- both ends of a direction are away from the line
  record IsAway (d : Direction) : Type 0 where
    exporter : (nat_eq d.exporter r && nat_eq d.exporter_item i) ≡ false
    importer : (nat_eq d.importer r && nat_eq d.importer_item i) ≡ false

  away_low : (d : Direction) → goes_on (low_imports d) ≡ true → IsAway d
  away_low d e = (let a = neither (nat_eq d.importer r && nat_eq d.importer_item i) (nat_eq d.exporter r && nat_eq d.exporter_item i) e in
      record { exporter = a.1; importer = a.0 })

  away_high : (d : Direction) → goes_on (high_imports d) ≡ true → IsAway d
  away_high d e = (let a = neither (nat_eq d.exporter r && nat_eq d.exporter_item i) (nat_eq d.importer r && nat_eq d.importer_item i) e in
      record { exporter = a.0; importer = a.1 })

  -- ---- edges that are left

  was_edge : (e : Edge) → Contains O.edges e → Contains P.edges e × (is_left (down_at n r i) e ≡ true)
  was_edge e h =
      let there = filter_in (is_left (down_at n r i)) P.edges e
      (in_contains (filter (is_left (down_at n r i)) P.edges) e (subst (λ (l : List Edge). Contains l e) without.edges h)) in
      (contains_in P.edges e there.0, there.1)

  open_link : (l : ℕ) (link : Link) → slice_get (links_of n) l ≡ Some link → not (option_map_or (is_end r i) (slice_get (links_of n) l) false) ≡ true →
      goes_on link ≡ true
  open_link l link at e = ap (λ (o : Option Link). not (option_map_or (is_end r i) o false)) (sym at) ∙ e

  left_open : (e : Edge) → Contains O.edges e → (l : ℕ) (link : Link) → e.link ≡ l → slice_get (links_of n) l ≡ Some link → goes_on link ≡ true
  left_open e h l link same at =
      open_link l link at (subst (λ k. not (option_map_or (is_end r i) (slice_get (links_of n) k) false) ≡ true) same
      (and_parts (not (option_map_or (is_end r i) (slice_get (links_of n) e.link) false)) (not false && not false) (was_edge e h).1).0)

  -- the link of a direction
  record IsAtLink (d : Direction) : Type 0 where
    link : Link
    at : slice_get (links_of n) d.link ≡ Some link

  at_link : (d : Direction) → IsDirection n d → IsAtLink d
  at_link d (inl low) = record { link = low_imports d; at = low }
  at_link d (inr high) = record { link = high_imports d; at = high }

  away : (e : Edge) → Contains O.edges e → (d : Direction) → e.link ≡ d.link → IsDirection n d → IsAway d
  away e h d same (inl low) = away_low d (left_open e h d.link (low_imports d) same low)
  away e h d same (inr high) = away_high d (left_open e h d.link (high_imports d) same high)

  direction_after : (e : Edge) → Contains O.edges e → (d : Direction) → e.link ≡ d.link → IsDirection n d →
      IsDirection (with_shutdown n r i) (record d { link = num d.link })
  direction_after e h d same (inl low) = inl (ap (λ (ls : List Link). slice_get ls (num d.link)) links_after
      ∙ left_at goes_on (links_of n) d.link (low_imports d) low (left_open e h d.link (low_imports d) same low))
  direction_after e h d same (inr high) = inr (ap (λ (ls : List Link). slice_get ls (num d.link)) links_after
      ∙ left_at goes_on (links_of n) d.link (high_imports d) high (left_open e h d.link (high_imports d) same high))

  carries : (q : Protocol) (m : Network) (d : Direction) → q ≡ OverBgp → IsEdgeDirection q m prefix d → CarriesRoutes m prefix d
  carries q m d same is = subst (λ p. IsEdgeDirection p m prefix d) same is

  carried : (q : Protocol) (m : Network) (d : Direction) → q ≡ OverBgp → CarriesRoutes m prefix d → IsEdgeDirection q m prefix d
  carried q m d same is = subst (λ p. IsEdgeDirection p m prefix d) (sym same) is

  stands_after : (e : Edge) (d : Direction) → Contains O.edges e → StandsFor P n prefix e d →
      StandsFor (renumbered num O) (with_shutdown n r i) prefix (with_link num e) (record d { link = num d.link })
  stands_after e d h s =
      let off = away e h d s.link s.is_direction in
      record {
        is_direction = direction_after e h d s.link s.is_direction;
        is_edge = carried O.protocol (with_shutdown n r i) (record d { link = num d.link }) (without.protocol ∙ bgp)
            (carries_after n r i prefix d (num d.link) off.exporter off.importer (carries P.protocol n d bgp s.is_edge));
        link = ap num s.link;
        importer = s.importer;
        exporter = s.exporter;
        means = subst (λ (acts : List Act). MeansLink (with_shutdown n r i) prefix (record d { link = num d.link }) (slice_index_or acts e.act (Cost 0)))
            (sym without.acts) (means_after n r i prefix d (num d.link) off.exporter off.importer (act_of P e) s.means);
      }

  record Stands (e' : Edge) : Type 0 where
    d : Direction
    stands : StandsFor (renumbered num O) (with_shutdown n r i) prefix e' d

  edge_stands : (e : Edge) → Contains O.edges e → Stands (with_link num e)
  edge_stands e h = (let s = of.edges_stand e (was_edge e h).0 in record { d = record s.0 { link = num s.0.link }; stands = stands_after e s.0 h s.1 })

  -- ---- each direction that carries routes

  record HasEdge (d' : Direction) : Type 0 where
    edge : Edge
    inside : Contains (map (with_link num) O.edges) edge
    stands : StandsFor (renumbered num O) (with_shutdown n r i) prefix edge d'

  ascends : (e f : Edge) → Contains O.edges e → Contains O.edges f → e.link < f.link → num e.link < num f.link
  ascends e f h h' less =
      let s = of.edges_stand e (was_edge e h).0 in
      let l = at_link s.0 s.1.is_direction in
      let at : slice_get (links_of n) e.link ≡ Some l.link = ap (slice_get (links_of n)) s.1.link ∙ l.at in
      left_ascends goes_on (links_of n) e.link f.link l.link at (left_open e h e.link l.link refl at) less

  found : (d' : Direction) (link : Link) → (w : WasAt goes_on (links_of n) d'.link link) → IsDirection n (record d' { link = w.place }) →
      IsAway (record d' { link = w.place }) → CarriesRoutes (with_shutdown n r i) prefix d' → HasEdge d'
  found d' link w is off c =
      let d : Direction = record d' { link = w.place } in
      let old = of.edges_all d is (carried P.protocol n d bgp (carries_before n r i prefix d d'.link off.exporter off.importer c)) in
      let closed : not (option_map_or (is_end r i) (slice_get (links_of n) old.0.link) false) ≡ true =
      ap (λ k. not (option_map_or (is_end r i) (slice_get (links_of n) k) false)) old.2.link
      ∙ ap (λ (o : Option Link). not (option_map_or (is_end r i) o false)) w.at ∙ w.passes in
      let left : is_left (down_at n r i) old.0 ≡ true = ap (λ b. b && (not false && not false)) closed in
      let inside : Contains O.edges old.0 = subst (λ (l : List Edge). Contains l old.0) (sym without.edges)
      (contains_in (filter (is_left (down_at n r i)) P.edges) old.0
      (in_filter (is_left (down_at n r i)) P.edges old.0 (in_contains P.edges old.0 old.1) left)) in
      record {
        edge = with_link num old.0;
        inside = stays num O without.rules ascends old.0 inside;
        stands = subst (λ k. StandsFor (renumbered num O) (with_shutdown n r i) prefix (with_link num old.0) (record d' { link = k })) w.number
            (stands_after old.0 d inside old.2);
      }

  has_edge : (d' : Direction) → IsDirection (with_shutdown n r i) d' → CarriesRoutes (with_shutdown n r i) prefix d' → HasEdge d'
  has_edge d' (inl low) c =
      let w = was_at goes_on (links_of n) d'.link (low_imports d') (ap (λ (ls : List Link). slice_get ls d'.link) (sym links_after) ∙ low) in
      found d' (low_imports d') w (inl w.at) (away_low (record d' { link = w.place }) w.passes) c
  has_edge d' (inr high) c =
      let w = was_at goes_on (links_of n) d'.link (high_imports d') (ap (λ (ls : List Link). slice_get ls d'.link) (sym links_after) ∙ high) in
      found d' (high_imports d') w (inr w.at) (away_high (record d' { link = w.place }) w.passes) c

  -- ---- the whole

  starts_same : O.init ≡ P.init
  starts_same = same_lists None O.init P.init (without.rules.tables.init ∙ ap length without.numbers ∙ sym of.rules.tables.init) without.init

  pub is_problem : IsProblemOf (with_shutdown n r i) prefix (renumbered num O)
  is_problem = record {
    rules = renumbered_rules num O without.rules ascends;
    protocol = ap (λ (ls : List ProtocolLine). option_map (λ (l : ProtocolLine). l.protocol) (slice_get ls 0))
        (flat_map_changed protocol_lines_of (shut_on i) (same_lines i) r n.routers) ∙ of.protocol ∙ ap (λ (p : Protocol). Some p) (sym without.protocol);
    names = without.names ∙ of.names ∙ sym (map_changed (λ (router : Router). router.name) (shut_on i) (λ router. refl) r n.routers);
    numbers = without.numbers ∙ of.numbers ∙ sym (map_changed as_number_of (shut_on i) (same_as_number i) r n.routers);
    init = starts_same ∙ of.init ∙ sym (map_changed (start_route prefix) (shut_on i) (same_start i prefix) r n.routers);
    edges_stand = λ e' h. (
        let m = map_in (with_link num) O.edges e' (in_contains (map (with_link num) O.edges) e' h) in
        let s = edge_stands m.0 (contains_in O.edges m.0 m.1) in
        (s.d, subst (λ (e : Edge). StandsFor (renumbered num O) (with_shutdown n r i) prefix e s.d) m.2 s.stands));
    edges_all = λ d' is carrying. (
        let f = has_edge d' is (carries O.protocol (with_shutdown n r i) d' (without.protocol ∙ bgp) carrying) in
        (f.edge, f.inside, f.stands));
  }
