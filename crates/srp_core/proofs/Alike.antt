-- Public: problems that are alike have the same candidates, stable labels and partitions.
use Rattle.std.proofs.Common.{◌≡◌, ◌≢◌, ℕ, ◌+◌, ◌<◌, Bool, false, cond, List, [], ◌∷◌, ◌++◌, length, refl, sym, ap, ◌∙◌, subst, inl, inr, Option, Some, None}
use Rattle.std.specs.Prelude.{Contains, nat_eq, slice_index, slice_index_or, option_map, option_and_then}
use Rattle.std.specs.declared.cmp.Ordering.TheVariants.{Less}
use Rattle.base_kit.specs.declared.protocol.Protocol.{Protocol}
use Rattle.base_kit.specs.declared.protocol.Protocol.TheVariants.{Bgp as OverBgp, Ospf as OverOspf}
use Rattle.base_kit.specs.declared.act_graph.Edge.{Edge}
use Rattle.base_kit.specs.Sets.{IsAscending}
use Rattle.base_kit.proofs.Elements.{In, contains_in, in_contains}
use Rattle.srp_core.specs.declared.route.Act.{Act}
use Rattle.srp_core.specs.declared.route.Act.TheVariants.{Import, Cost}
use Rattle.srp_core.specs.declared.route.Route.{Route}
use Rattle.srp_core.specs.declared.route.Route.TheVariants.{Bgp, Ospf}
use Rattle.srp_core.specs.Acts.{ActsAlike, arrived, import_by, step_by}
use Rattle.srp_core.specs.Alike.{EdgesAlike, AllEdgesAlike, ProblemsAlike}
use Rattle.srp_core.specs.Candidates.{passed, over, candidate_of, over_edges, candidates}
use Rattle.srp_core.specs.Labels.{HasSet}
use Rattle.srp_core.specs.Problem.{Problem, count, number, initial, is_lone, has_marked_number, act_of, step_over, key_of}
use Rattle.srp_core.specs.Quotient.{group_of, Twin, IsAdmissible, IsCoarsest}
use Rattle.srp_core.specs.Routes.{IsRouteOf, key_by, compare_keys}
use Rattle.srp_core.specs.Stability.{label, AreLabels, IsCandidateOver, IsCandidate, of_init, of_edge, IsStable, ForwardsTo}
use Rattle.srp_core.proofs.CandidateLists.{candidate_over, over_candidate}
use Rattle.srp_core.proofs.GroupMatching.{alike_sym, alike_trans}

route_set : (protocol : Protocol) (route : Route) → IsRouteOf protocol route → HasSet (Some route)
route_set OverBgp (Bgp lp path comms) is = is
route_set OverBgp (Ospf cost) is = tt
route_set OverOspf (Bgp lp path comms) is = absurd is
route_set OverOspf (Ospf cost) is = tt

-- what acts that act alike make of a route with a set
steps_alike : (x y : Act) → ActsAlike x y → (own : ℕ) (route : Route) → HasSet (Some route) → step_by x own route ≡ step_by y own route
unfolding step_by
steps_alike (Import out sends into) (Import out' sends' into') same own (Bgp lp path comms) set = ap (option_map (arrived own path)) (same.same comms set)
steps_alike (Import out sends into) (Import out' sends' into') same own (Ospf cost) set = refl
steps_alike (Import out sends into) (Cost cost) same own route set = absurd same
steps_alike (Cost cost) (Import out sends into) same own route set = absurd same
steps_alike (Cost cost) (Cost other) same own (Bgp lp path comms) set = refl
steps_alike (Cost cost) (Cost other) same own (Ospf route) set = ap (λ (c : ℕ). step_by (Cost c) own (Ospf route)) same

-- acts that act alike import alike
pub imports_alike : (x y : Act) → ActsAlike x y → (comms : List ℕ) → IsAscending comms → import_by x comms ≡ import_by y comms
unfolding import_by
imports_alike (Import out sends into) (Import out' sends' into') same comms set = same.same comms set
imports_alike (Import out sends into) (Cost cost) same comms set = absurd same
imports_alike (Cost cost) (Import out sends into) same comms set = absurd same
imports_alike (Cost cost) (Cost other) same comms set = refl

turned_edges : (P Q : Problem) (es fs : List Edge) → AllEdgesAlike P Q es fs → AllEdgesAlike Q P fs es
turned_edges P Q [] [] same = tt
turned_edges P Q [] (f ∷ fs) same = absurd same
turned_edges P Q (e ∷ es) [] same = absurd same
turned_edges P Q (e ∷ es) (f ∷ fs) same = (
  record { importer = sym same.0.importer; exporter = sym same.0.exporter; link = sym same.0.link; acts = alike_sym (act_of P e) (act_of Q f) same.0.acts },
  turned_edges P Q es fs same.1,
)

pub turned : (P Q : Problem) → ProblemsAlike P Q → ProblemsAlike Q P
turned P Q same = record {
  protocol = sym same.protocol;
  names = sym same.names;
  numbers = sym same.numbers;
  init = sym same.init;
  lone = sym same.lone;
  edges =
      turned_edges P Q P.edges Q.edges same.edges;
}

joined_edges : (P Q S : Problem) (es fs gs : List Edge) → AllEdgesAlike P Q es fs → AllEdgesAlike Q S fs gs → AllEdgesAlike P S es gs
joined_edges P Q S [] [] [] a b = tt
joined_edges P Q S [] [] (g ∷ gs) a b = absurd b
joined_edges P Q S [] (f ∷ fs) gs a b = absurd a
joined_edges P Q S (e ∷ es) [] gs a b = absurd a
joined_edges P Q S (e ∷ es) (f ∷ fs) [] a b = absurd b
joined_edges P Q S (e ∷ es) (f ∷ fs) (g ∷ gs) a b = (
  record {
    importer = a.0.importer ∙ b.0.importer;
    exporter = a.0.exporter ∙ b.0.exporter;
    link = a.0.link ∙ b.0.link;
    acts =
        alike_trans (act_of P e) (act_of Q f) (act_of S g) a.0.acts b.0.acts;
  },
  joined_edges P Q S es fs gs a.1 b.1,
)

pub joined : (P Q S : Problem) → ProblemsAlike P Q → ProblemsAlike Q S → ProblemsAlike P S
joined P Q S a b = record {
  protocol = a.protocol ∙ b.protocol;
  names = a.names ∙ b.names;
  numbers = a.numbers ∙ b.numbers;
  init = a.init ∙ b.init;
  lone =
      a.lone ∙ b.lone;
  edges = joined_edges P Q S P.edges Q.edges S.edges a.edges b.edges;
}

match_in : (P Q : Problem) (es fs : List Edge) → AllEdgesAlike P Q es fs → (e : Edge) → In es e → (f : Edge) × In fs f × EdgesAlike P Q e f
match_in P Q [] fs same e i = absurd i
match_in P Q (d ∷ es) [] same e i = absurd same
match_in P Q (d ∷ es) (f ∷ fs) same e (inl here) = (f, inl refl, subst (λ (x : Edge). EdgesAlike P Q x f) here same.0)
match_in P Q (d ∷ es) (f ∷ fs) same e (inr there) = (let m = match_in P Q es fs same.1 e there in (m.0, inr m.1, m.2))

-- an edge of the other problem that is alike
pub match : (P Q : Problem) → ProblemsAlike P Q → (e : Edge) → Contains P.edges e → (f : Edge) × Contains Q.edges f × EdgesAlike P Q e f
match P Q same e has = let m = match_in P Q P.edges Q.edges same.edges e (in_contains P.edges e has) in (m.0, contains_in Q.edges m.0 m.1, m.2)

module _ (P Q : Problem) (same : ProblemsAlike P Q) where
  pub one_count : count P ≡ count Q
  one_count = ap length same.numbers

  pub one_number : (u : ℕ) → number P u ≡ number Q u
  one_number u = ap (λ (l : List ℕ). slice_index l u) same.numbers

  pub one_start : (u : ℕ) → initial P u ≡ initial Q u
  one_start u = ap (λ (l : List (Option Route)). slice_index_or l u None) same.init

  pub one_mark : (u : ℕ) → is_lone P u ≡ is_lone Q u
  one_mark u = ap (λ (l : List Bool). slice_index_or l u false) same.lone

  pub one_key : (r : Route) → key_of P r ≡ key_of Q r
  one_key r = λ i. key_by (has_marked_number (same.lone i) (same.numbers i)) r

  pub inside : (u : ℕ) → u < count P → u < count Q
  inside u h = subst (λ (k : ℕ). u < k) one_count h

  pub same_labels : (L : List (Option Route)) → AreLabels P L → AreLabels Q L
  same_labels L fit = record { total = fit.total ∙ one_count; routes = λ u r e. subst (λ (p : Protocol). IsRouteOf p r) same.protocol (fit.routes u r e) }

  same_step : (e f : Edge) → EdgesAlike P Q e f → (r : Route) → HasSet (Some r) → step_over P e r ≡ step_over Q f r
  same_step e f is r set = steps_alike (act_of P e) (act_of Q f) is.acts (number P e.exporter) r set
      ∙ ap (λ (n : ℕ). step_by (act_of Q f) n r) (one_number e.exporter ∙ ap (number Q) is.exporter)

  own_number : (e f : Edge) → EdgesAlike P Q e f → number P e.importer ≡ number Q f.importer
  own_number e f is = one_number e.importer ∙ ap (number Q) is.importer

  over_from : (L : List (Option Route)) → AreLabels P L → (e f : Edge) → EdgesAlike P Q e f → (o : Option Route) → label L e.exporter ≡ o
      → option_and_then (λ (from : Route). option_and_then (passed (number P e.importer)) (step_over P e from))
      o ≡ option_and_then (λ (from : Route). option_and_then (passed (number Q f.importer)) (step_over Q f from)) o
  over_from L fit e f is None at = refl
  over_from L fit e f is (Some r) at =
      let s = same_step e f is r (route_set P.protocol r (fit.routes e.exporter r at)) in
      let n = own_number e f is in
      λ i. option_and_then (passed (n i)) (s i)

  same_over : (L : List (Option Route)) → AreLabels P L → (e f : Edge) → EdgesAlike P Q e f → over P L e ≡ over Q L f
  same_over L fit e f is =
      over_from L fit e f is (label L e.exporter) refl
      ∙ ap (λ (x : ℕ). option_and_then (λ (from : Route). option_and_then (passed (number Q f.importer)) (step_over Q f from)) (label L x)) is.exporter

  same_over_edges : (L : List (Option Route)) → AreLabels P L → (u place : ℕ) (es fs : List Edge) → AllEdgesAlike P Q es fs →
      over_edges P L u place es ≡ over_edges Q L u place fs
  unfolding over_edges
  same_over_edges L fit u place [] [] a = refl
  same_over_edges L fit u place [] (f ∷ fs) a = absurd a
  same_over_edges L fit u place (e ∷ es) [] a = absurd a
  same_over_edges L fit u place (e ∷ es) (f ∷ fs) a =
      let o = same_over L fit e f a.0 in
      let rest = same_over_edges L fit u (place + 1) es fs a.1 in
      let imp = a.0.importer in
      λ i. cond (nat_eq (imp i) u) (candidate_of (Some place) (o i)) [] ++ rest i

  pub same_candidates : (L : List (Option Route)) → AreLabels P L → (u : ℕ) → candidates P L u ≡ candidates Q L u
  unfolding candidates
  same_candidates L fit u =
      let rest = same_over_edges L fit u 0 P.edges Q.edges same.edges in
      let start = one_start u in
      λ i. candidate_of None (start i) ++ rest i

  pub carry_over : (L : List (Option Route)) → AreLabels P L → (e f : Edge) → EdgesAlike P Q e f → (c : Route) → IsCandidateOver P L e c →
      IsCandidateOver Q L f c
  carry_over L fit e f is c o = over_candidate Q L f c (sym (same_over L fit e f is) ∙ candidate_over P L e c o)

  pub carry_candidate : (L : List (Option Route)) → AreLabels P L → (u : ℕ) (c : Route) → IsCandidate P L u c → IsCandidate Q L u c
  carry_candidate L fit u c (of_init e) = of_init (sym (one_start u) ∙ e)
  carry_candidate L fit u c (of_edge e i imp o) = (let m = match P Q same e i in of_edge m.0 m.1 (sym m.2.importer ∙ imp) (carry_over L fit e m.0 m.2 c o))

  pub same_forwards : (L : List (Option Route)) → AreLabels P L → (u v : ℕ) → ForwardsTo P L u v → ForwardsTo Q L u v
  same_forwards L fit u v f =
      let m = match P Q same f.edge f.edge_in in
      record {
        route = f.route;
        labelled = f.labelled;
        edge = m.0;
        edge_in = m.1;
        importer = sym m.2.importer ∙ f.importer;
        exporter = sym m.2.exporter ∙ f.exporter;
        candidate = f.candidate;
        over = carry_over L fit f.edge m.0 m.2 f.candidate f.over;
        same = sym (one_key f.candidate) ∙ f.same ∙ one_key f.route;
      }

module _ (P Q : Problem) (same : ProblemsAlike P Q) where
  back : ProblemsAlike Q P
  back = turned P Q same

  pub same_stable : (L : List (Option Route)) → IsStable P L → IsStable Q L
  same_stable L st =
      let fit = same_labels P Q same L st.fitting in
      let back_candidate = carry_candidate Q P back L fit in
      record {
        fitting = fit;
        none = λ u c h e k. st.none u c (inside Q P back u h) e (back_candidate u c k);
        held = λ u r h e. carry_candidate P Q same L st.fitting u r (st.held u r (inside Q P back u h) e);
        best = λ u r c h e k. subst (λ o. o ≢ Less) (λ i. compare_keys (one_key P Q same c i) (one_key P Q same r i))
            (st.best u r c (inside Q P back u h) e (back_candidate u c k));
      }

  twin : (groups : List ℕ) → IsAdmissible P groups → (u v : ℕ) (edge : Edge) → u < count Q → v < count Q → group_of groups u ≡ group_of groups v →
      Contains Q.edges edge → edge.importer ≡ u → group_of groups edge.exporter ≢ group_of groups u → Twin Q groups v edge
  twin groups adm u v edge hu hv one has imp out =
      let m = match Q P back edge has in
      let t = adm.twins u v m.0 (inside Q P back u hu) (inside Q P back v hv) one m.1 (sym m.2.importer ∙ imp)
      (λ e. out (ap (group_of groups) m.2.exporter ∙ e)) in
      let w = match P Q same t.other t.other_in in
      record {
        other = w.0;
        other_in = w.1;
        importer = sym w.2.importer ∙ t.importer;
        exporter = sym (ap (group_of groups) w.2.exporter) ∙ t.exporter ∙ sym (ap (group_of groups) m.2.exporter);
        alike = alike_trans (act_of Q edge) (act_of P m.0) (act_of Q w.0) m.2.acts
            (alike_trans (act_of P m.0) (act_of P t.other) (act_of Q w.0) t.alike w.2.acts);
      }

  pub same_admissible : (groups : List ℕ) → IsAdmissible P groups → IsAdmissible Q groups
  same_admissible groups adm = record {
    total = adm.total ∙ one_count P Q same;
    origins = λ u v hu hv one. sym (one_start P Q same u) ∙ adm.origins u v (inside Q P back u hu) (inside Q P back v hv) one ∙ one_start P Q same v;
    alone = λ u v hu hv one l. adm.alone u v (inside Q P back u hu) (inside Q P back v hv) one (one_mark P Q same u ∙ l);
    twins = twin groups adm;
  }

pub same_coarsest : (P Q : Problem) → ProblemsAlike P Q → (groups : List ℕ) → IsCoarsest P groups → IsCoarsest Q groups
same_coarsest P Q same groups c = record {
  admissible = same_admissible P Q same groups c.admissible;
  refined = λ others adm u v hu hv one. c.refined others (same_admissible Q P (turned P Q same) others adm) u v (inside Q P (turned P Q same) u hu)
      (inside Q P (turned P Q same) v hv) one;
}
