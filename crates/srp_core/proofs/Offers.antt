-- One problem: offers, chains and the loop check.
use Rattle.std.proofs.Common.{◌≡◌, ◌≢◌, ◌⊎◌, ℕ, zero, suc, ◌<◌, true, false, List, [], length, Option, Some, None, refl, sym, ap, ◌∙◌, subst, inl, inr, arith}
use Rattle.std.specs.Prelude.{slice_index_or, Contains}
use Rattle.std.specs.declared.cmp.Ordering.TheVariants.{Less}
use Rattle.std.proofs.lemmas.Bool.{cases_Bool, cases_lt, cases_eq}
use Rattle.std.proofs.lemmas.List.{get_or_past}
use Rattle.base_kit.specs.declared.protocol.Protocol.{Protocol}
use Rattle.base_kit.specs.declared.protocol.Protocol.TheVariants.{Bgp as OverBgp, Ospf as OverOspf}
use Rattle.srp_core.specs.declared.route.Route.{Route}
use Rattle.base_kit.specs.declared.act_graph.Edge.{Edge}
use Rattle.srp_core.specs.Routes.{preference_of, size_of, path_of, comms_of, is_on, IsRouteOf, compare_keys}
use Rattle.srp_core.specs.Acts.{KeepsSets, IsActOf}
use Rattle.srp_core.specs.declared.route.Act.TheVariants.{Cost}
use Rattle.srp_core.specs.Problem.{Problem, count, number, initial, is_lone, act_of, step_over, key_of, Accepts, IsLone, IsEdgeOf, IsProblem}
use Rattle.srp_core.specs.Stability.{label, AreLabels, IsCandidate, of_init, of_edge, IsStable}
use Rattle.srp_core.proofs.Steps.{step_grows, step_path, step_route, step_accepts, ospf_zero, no_import_cost}
use Rattle.srp_core.proofs.KeyOrder.{shorter, not_better}

pub cases_label : (o : Option Route) → (o ≡ None) ⊎ ((r : Route) × (o ≡ Some r))
cases_label None = inl refl
cases_label (Some r) = inr (r, refl)

pub label_in : (labels : List (Option Route)) (u : ℕ) (r : Route) → label labels u ≡ Some r → u < length labels
label_in labels u r e = elim (cases_lt u (length labels)) [ inl h ↦ h | inr h ↦ let p : label labels u ≡ None = get_or_past labels u None h in absurd (cc) ]

cases_protocol : (p : Protocol) → (p ≡ OverBgp) ⊎ (p ≡ OverOspf)
cases_protocol OverBgp = inl refl
cases_protocol OverOspf = inr refl

-- the act of an edge is one of the protocol
pub edge_act : (P : Problem) → IsProblem P → (e : Edge) → Contains P.edges e → IsActOf P.protocol (act_of P e)
edge_act P good e i = good.acts.fit e.act (Cost 0) (good.edges.inside e i).act_in

-- the act of an edge gives sets
pub edge_keeps : (P : Problem) → IsProblem P → (e : Edge) → Contains P.edges e → KeepsSets (act_of P e)
edge_keeps P good e i = good.acts.keep e.act (Cost 0) (good.edges.inside e i).act_in

-- labels of which each is a candidate
pub record IsSupported (P : Problem) (L : List (Option Route)) : Type 0 where
  pub fitting : AreLabels P L
  pub held : (u : ℕ) (r : Route) → label L u ≡ Some r → IsCandidate P L u r

-- the initial route, or a route over an edge before the loop check
pub data Offer (P : Problem) (u : ℕ) (c : Route) : Type 0 where
  offer_init : initial P u ≡ Some c → Offer P u c
  offer_edge : (e : Edge) → Contains P.edges e → e.importer ≡ u → (r : Route) → IsRouteOf P.protocol r → step_over P e r ≡ Some c → Offer P u c

-- a label of a router, better than a route
pub record Better (P : Problem) (L : List (Option Route)) (u : ℕ) (c : Route) : Type 0 where
  pub route : Route
  pub labelled : label L u ≡ Some route
  pub better : compare_keys (key_of P route) (key_of P c) ≡ Less

-- a label of a router than which a route is not better
pub record AsGood (P : Problem) (L : List (Option Route)) (u : ℕ) (c : Route) : Type 0 where
  pub route : Route
  pub labelled : label L u ≡ Some route
  pub as_good : compare_keys (key_of P c) (key_of P route) ≢ Less

pub better_as_good : (P : Problem) (L : List (Option Route)) (u : ℕ) (c : Route) → Better P L u c → AsGood P L u c
better_as_good P L u c b = record { route = b.route; labelled = b.labelled; as_good = not_better _ _ b.better }

-- a router with that number and a label of less than that size
pub record Link (P : Problem) (L : List (Option Route)) (wanted limit : ℕ) : Type 0 where
  pub router : ℕ
  pub inside : router < count P
  pub numbered : number P router ≡ wanted
  pub some_number : number P router ≢ 0
  pub route : Route
  pub labelled : label L router ≡ Some route
  pub shorter : size_of route < limit

module _ (P : Problem) (good : IsProblem P) where
  pub stable_supported : (L : List (Option Route)) → IsStable P L → IsSupported P L
  stable_supported L s = record { fitting = s.fitting; held = λ u r e. s.held u r (subst (λ n. u < n) s.fitting.total (label_in L u r e)) e }

  pub candidate_offer : (L : List (Option Route)) (u : ℕ) (c : Route) → AreLabels P L → IsCandidate P L u c → Offer P u c
  candidate_offer L u c fits (of_init e) = offer_init e
  candidate_offer L u c fits (of_edge e i imp over) = offer_edge e i imp over.from (fits.routes e.exporter over.from over.labelled) over.stepped

  pub offer_route : (u : ℕ) (c : Route) → Offer P u c → IsRouteOf P.protocol c
  offer_route u c (offer_init e) = good.starts.routes u c e
  offer_route u c (offer_edge e i imp r fits s) = step_route P.protocol (act_of P e) (number P e.exporter) r c (edge_keeps P good e i) fits s

  pub lone_bgp : (u : ℕ) → u < count P → is_lone P u ≡ true → P.protocol ≡ OverBgp
  lone_bgp u h e =
      let a = (good.marks.only u h e).first_accepted in
      elim (cases_protocol P.protocol) [
        | inl p ↦ p
        | inr p ↦ absurd (no_import_cost (act_of P a.edge) a.comms a.imported (subst (λ q. IsActOf q (act_of P a.edge)) p (edge_act P good a.edge a.edge_in))
            a.accepted)
      ]

  accepts : (u : ℕ) (c : Route) (e : Edge) (r : Route) → P.protocol ≡ OverBgp → Contains P.edges e → e.importer ≡ u → IsRouteOf P.protocol r →
      step_over P e r ≡ Some c → Accepts P u (preference_of c)
  accepts u c e r p i imp fits s =
      let a = step_accepts (act_of P e) (number P e.exporter) r c (subst (λ q. IsRouteOf q r) p fits) s in
      record { edge = e; edge_in = i; importer = imp; comms = comms_of r; is_set = a.3; imported = a.0; accepted = a.1; preferred = a.2 }

  bgp_preference : (u : ℕ) (c d : Route) → P.protocol ≡ OverBgp → u < count P → is_lone P u ≡ false → Offer P u c → Offer P u d →
      preference_of c ≡ preference_of d
  bgp_preference u c d p h l (offer_init e) (offer_init f) = let same : c ≡ d = cc in ap preference_of same
  bgp_preference u c d p h l (offer_init e) (offer_edge f i imp r fits s) = let no : initial P f.importer ≡ None = good.starts.unoriginated p f i in absurd (cc)
  bgp_preference u c d p h l (offer_edge f i imp r fits s) (offer_init e) = let no : initial P f.importer ≡ None = good.starts.unoriginated p f i in absurd (cc)
  bgp_preference u c d p h l (offer_edge e i imp r fits s) (offer_edge e' i' imp' r' fits' s') =
      elim (cases_eq (preference_of c) (preference_of d)) [
        | inl same ↦ same
        | inr differ ↦
            let no : initial P e.importer ≡ None = good.starts.unoriginated p e i in
            let lone : IsLone P u = record {
              unoriginated = subst (λ v. initial P v ≡ None) imp no;
              first = preference_of c;
              second = preference_of d;
              first_accepted = accepts u c e r p i imp fits s;
              second_accepted = accepts u d e' r' p i' imp' fits' s';
              differ = differ;
            } in
            let t : is_lone P u ≡ true = good.marks.all u h lone in absurd (cc)
      ]

  pub one_preference : (u : ℕ) (c d : Route) → u < count P → is_lone P u ≡ false → Offer P u c → Offer P u d → preference_of c ≡ preference_of d
  one_preference u c d h l a b =
      elim (cases_protocol P.protocol) [
        | inl p ↦ bgp_preference u c d p h l a b
        | inr p ↦ ospf_zero c (subst (λ q. IsRouteOf q c) p (offer_route u c a)) ∙ sym (ospf_zero d (subst (λ q. IsRouteOf q d) p (offer_route u d b)))
      ]

  pub grows : (e : Edge) (r c : Route) → Contains P.edges e → step_over P e r ≡ Some c → size_of r < size_of c
  grows e r c i s = step_grows P.protocol (act_of P e) (number P e.exporter) r c (edge_act P good e i) s

  on_path : (e : Edge) (a : ℕ) (r c : Route) → Contains P.edges e → step_over P e r ≡ Some c → is_on a (path_of c) ≡ true → (P.protocol ≡ OverBgp)
      × ((a ≡ number P e.exporter) ⊎ (is_on a (path_of r) ≡ true))
  on_path e a r c i s h = step_path P.protocol (act_of P e) (number P e.exporter) a r c (edge_act P good e i) s h

  -- each number on a label's path is that of a router with a shorter label
  pub chain : (L : List (Option Route)) → IsSupported P L → (n u a : ℕ) (r : Route) → size_of r < n → label L u ≡ Some r → is_on a (path_of r) ≡ true →
      Link P L a (size_of r)
  chain L sup zero u a r less e h = absurd (omega arith)
  chain L sup (suc n) u a r less e h = chain_step L sup n u a r less h (sup.held u r e) (λ v s. chain L sup n v a s)
    where
      chain_step : (L : List (Option Route)) → IsSupported P L → (n u a : ℕ) (r : Route) → size_of r < suc n → is_on a (path_of r) ≡ true →
          IsCandidate P L u r → ((v : ℕ) (s : Route) → size_of s < n → label L v ≡ Some s → is_on a (path_of s) ≡ true → Link P L a (size_of s)) →
          Link P L a (size_of r)
      chain_step L sup n u a r less h (of_init i) before =
          let p : path_of r ≡ [] = good.starts.paths u r i in
          let no : false ≡ true = subst (λ l. is_on a l ≡ true) p h in absurd (cc)
      chain_step L sup n u a r less h (of_edge e i imp over) before =
          let g : size_of over.from < size_of r = grows e over.from r i over.stepped in
          let o = on_path e a over.from r i over.stepped h in
          elim o.1 [
            | inl here ↦ record {
              router = e.exporter;
              inside = (good.edges.inside e i).exporter_in;
              numbered = sym here;
              some_number =
                  (good.numbers o.0).exporters e i;
              route = over.from;
              labelled = over.labelled;
              shorter = g;
            }
            | inr there ↦
                let k = before e.exporter over.from (omega arith) over.labelled there in
                let ks = k.shorter in
                record {
                  router = k.router;
                  inside = k.inside;
                  numbered = k.numbered;
                  some_number = k.some_number;
                  route = k.route;
                  labelled = k.labelled;
                  shorter = omega arith;
                }
          ]

  -- where the loop check drops a route, the router has a label that is shorter than that of the exporter
  pub blocked : (L : List (Option Route)) → IsSupported P L → (e : Edge) (r c : Route) → Contains P.edges e → label L e.exporter ≡ Some r →
      step_over P e r ≡ Some c → is_on (number P e.importer) (path_of c) ≡ true → (s : Route) × (label L e.importer ≡ Some s) × (size_of s < size_of r)
  blocked L sup e r c i lab s h =
      let o = on_path e (number P e.importer) r c i s h in
      let g = good.edges.inside e i in
      elim o.1 [
        | inl same ↦ absurd (g.differ ((good.numbers o.0).distinct e.importer e.exporter g.importer_in g.exporter_in same ((good.numbers o.0).importers e i)))
        | inr there ↦
            let k = chain L sup (suc (size_of r)) e.exporter (number P e.importer) r (omega arith) lab there in
            let same : k.router ≡ e.importer = (good.numbers o.0).distinct k.router e.importer k.inside g.importer_in k.numbered k.some_number in
            (k.route, subst (λ v. label L v ≡ Some k.route) same k.labelled, k.shorter)
      ]

  -- the loop check never decides
  pub loop_check : (L : List (Option Route)) → IsStable P L → (e : Edge) (r c : Route) → Contains P.edges e → is_lone P e.importer ≡ false →
      label L e.exporter ≡ Some r → step_over P e r ≡ Some c → is_on (number P e.importer) (path_of c) ≡ true → Better P L e.importer c
  loop_check L st e r c i l lab s h =
      let sup = stable_supported L st in
      let b = blocked L sup e r c i lab s h in
      let u = (good.edges.inside e i).importer_in in
      let o : Offer P e.importer c = offer_edge e i refl r (st.fitting.routes e.exporter r lab) s in
      let o' : Offer P e.importer b.0 = candidate_offer L e.importer b.0 st.fitting (sup.held e.importer b.0 b.1) in
      let p = one_preference e.importer b.0 c u l o' o in
      let g = grows e r c i s in
      let less : size_of b.0 < size_of c = omega (arith, b.2, g) in
      record { route = b.0; labelled = b.1; better = shorter (key_of P b.0) (key_of P c) p less }

  -- a candidate is as good as no better than the label
  pub candidate_as_good : (L : List (Option Route)) → IsStable P L → (u : ℕ) (c : Route) → u < count P → IsCandidate P L u c → AsGood P L u c
  candidate_as_good L st u c h cand =
      elim (cases_label (label L u)) [
        | inl empty ↦ absurd (st.none u c h empty cand)
        | inr full ↦ record { route = full.0; labelled = full.1; as_good = st.best u full.0 c h full.1 cand }
      ]

  pub raw_optimal : (L : List (Option Route)) → IsStable P L → (e : Edge) (r c : Route) → Contains P.edges e → is_lone P e.importer ≡ false →
      label L e.exporter ≡ Some r → step_over P e r ≡ Some c → AsGood P L e.importer c
  raw_optimal L st e r c i l lab s =
      elim (cases_Bool (is_on (number P e.importer) (path_of c))) [
        | inl h ↦ better_as_good P L e.importer c (loop_check L st e r c i l lab s h)
        | inr h ↦ candidate_as_good L st e.importer c (good.edges.inside e i).importer_in
            (of_edge e i refl (record { from = r; labelled = lab; stepped = s; passes = h }))
      ]

pub edge_at : (P : Problem) → IsProblem P → (i : ℕ) (edge : Edge) → i < length P.edges → slice_index_or P.edges i edge ≡ edge → IsEdgeOf P edge
edge_at P good i edge h e = good.edges.inside edge (i, h, e)
