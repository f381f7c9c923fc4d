-- Two problems and a matching of their routers.
use Rattle.std.proofs.Common.{◌≡◌, ◌≢◌, ◌⊎◌, ℕ, ◌<◌, Bool, true, false, List, Option, Some, refl, sym, ap, ◌∙◌, subst, inl, inr, arith}
use Rattle.std.specs.Prelude.{Contains}
use Rattle.std.specs.declared.cmp.Ordering.TheVariants.{Less}
use Rattle.std.proofs.lemmas.Bool.{cases_Bool}
use Rattle.srp_core.specs.declared.route.Route.{Route}
use Rattle.base_kit.specs.declared.act_graph.Edge.{Edge}
use Rattle.srp_core.specs.Routes.{preference_of, size_of, path_of, is_on, IsRouteOf, chosen, Key, key_by, compare_keys}
use Rattle.srp_core.specs.Acts.{ActsAlike}
use Rattle.srp_core.specs.Problem.{Problem, count, number, initial, is_lone, act_of, step_over, is_lone_number, key_of, IsProblem}
use Rattle.srp_core.specs.Stability.{label, AreLabels, IsCandidateOver, IsCandidate, of_init, of_edge, IsStable}
use Rattle.srp_core.proofs.Steps.{step_alike, step_same}
use Rattle.srp_core.proofs.KeyOrder.{shorter, marked_from, marked_at, is_on-chosen}
use Rattle.srp_core.proofs.Offers.{Offer, offer_init, offer_edge, Better, AsGood, better_as_good, lone_bgp, one_preference, grows, candidate_as_good, raw_optimal}

-- an edge of `a` in A that acts like an edge of B, from a matched exporter
pub record Partner (B A : Problem) (R : ℕ → ℕ → Type 0) (a : ℕ) (edge : Edge) : Type 0 where
  pub other : Edge
  pub other_in : Contains A.edges other
  pub importer : other.importer ≡ a
  pub exporter : R edge.exporter other.exporter
  pub alike : ActsAlike (act_of B edge) (act_of A other)

pub record IsInner (B : Problem) (R : ℕ → ℕ → Type 0) (b a : ℕ) (edge : Edge) : Type 0 where
  pub not_lone : is_lone B b ≡ false
  pub inner : R edge.exporter a

pub record IsMatching (B A : Problem) (R : ℕ → ℕ → Type 0) : Type 0 where
  pub protocol : B.protocol ≡ A.protocol
  pub left_in : (b a : ℕ) → R b a → b < count B
  pub right_in : (b a : ℕ) → R b a → a < count A
  pub origins : (b a : ℕ) → R b a → initial B b ≡ initial A a
  pub lone : (b a : ℕ) → R b a → is_lone B b ≡ is_lone A a
  pub numbers : (b a : ℕ) → R b a → is_lone B b ≡ true → number B b ≡ number A a
  pub forth : (b a : ℕ) (e : Edge) → R b a → Contains B.edges e → e.importer ≡ b → Partner B A R a e ⊎ IsInner B R b a e
  pub back : (b a : ℕ) (e : Edge) → R b a → Contains A.edges e → e.importer ≡ a → Partner A B (λ x y. R y x) b e ⊎ IsInner A (λ x y. R y x) a b e
  pub left : (b : ℕ) → b < count B → (a : ℕ) × R b a
  pub right : (a : ℕ) → a < count A → (b : ℕ) × R b a

pub converse : (B A : Problem) (R : ℕ → ℕ → Type 0) → IsMatching B A R → IsMatching A B (λ x y. R y x)
converse B A R m = record {
  protocol = sym m.protocol;
  left_in = λ a b r. m.right_in b a r;
  right_in = λ a b r. m.left_in b a r;
  origins = λ a b r. sym (m.origins b a r);
  lone = λ a b r. sym (m.lone b a r);
  numbers = λ a b r l. sym (m.numbers b a r (m.lone b a r ∙ l));
  forth = λ a b e r i imp. m.back b a e r i imp;
  back = λ a b e r i imp. m.forth b a e r i imp;
  left = m.right;
  right = m.left;
}

lone_number_along : (B A : Problem) (R : ℕ → ℕ → Type 0) → IsMatching B A R → (x : ℕ) → is_lone_number B x ≡ true → is_lone_number A x ≡ true
lone_number_along B A R m x e =
    let k = marked_at B.lone B.numbers x e in
    let p = m.left k.router k.inside in
    marked_from A.lone A.numbers p.0 x (m.right_in k.router p.0 p.1) (sym (m.lone k.router p.0 p.1) ∙ k.mark)
    (sym (m.numbers k.router p.0 p.1 k.mark) ∙ k.number)

same_tests : (x y : Bool) → (x ≡ true → y ≡ true) → (y ≡ true → x ≡ true) → x ≡ y
same_tests true y f g = sym (f refl)
same_tests false true f g = g refl
same_tests false false f g = refl

pub lone_numbers_agree : (B A : Problem) (R : ℕ → ℕ → Type 0) → IsMatching B A R → (x : ℕ) → is_lone_number B x ≡ is_lone_number A x
lone_numbers_agree B A R m x = same_tests (is_lone_number B x) (is_lone_number A x) (lone_number_along B A R m x)
    (lone_number_along A B (λ x y. R y x) (converse B A R m) x)

pub keys_agree : (B A : Problem) (R : ℕ → ℕ → Type 0) → IsMatching B A R → (r : Route) → key_of B r ≡ key_of A r
keys_agree B A R m r = let same = lone_numbers_agree B A R m in λ i. key_by (λ x. same x i) r

-- the number of an exporter that is not lone is no lone number
pub no_lone_number : (P : Problem) → IsProblem P → (e : Edge) → Contains P.edges e → is_lone P e.exporter ≡ false →
    is_lone_number P (number P e.exporter) ≡ false
no_lone_number P good e i l =
    elim (cases_Bool (is_lone_number P (number P e.exporter))) [
      | inr h ↦ h
      | inl h ↦
          let k = marked_at P.lone P.numbers (number P e.exporter) h in
          let bgp = lone_bgp P good k.router k.inside k.mark in
          let some_number : number P k.router ≢ 0 = λ z. (good.numbers bgp).exporters e i (sym k.number ∙ z) in
          let same : k.router ≡ e.exporter = (good.numbers bgp).distinct k.router e.exporter k.inside (good.edges.inside e i).exporter_in k.number some_number
          in
          let t : is_lone P e.exporter ≡ true = subst (λ v. is_lone P v ≡ true) same k.mark in absurd (cc)
    ]

-- the numbers of matched exporters are equal, or both no lone numbers
pub exporter_numbers : (B A : Problem) (R : ℕ → ℕ → Type 0) → IsMatching B A R → IsProblem B → IsProblem A → (e e' : Edge) → Contains B.edges e →
    Contains A.edges e' → R e.exporter e'.exporter → ((is_lone_number A (number B e.exporter) ≡ false) × (is_lone_number A (number A e'.exporter) ≡ false))
    ⊎ (number B e.exporter ≡ number A e'.exporter)
exporter_numbers B A R m gb ga e e' i i' r =
    elim (cases_Bool (is_lone B e.exporter)) [
      | inl l ↦ inr (m.numbers e.exporter e'.exporter r l)
      | inr l ↦ inl (
        sym (lone_numbers_agree B A R m (number B e.exporter))
            ∙ no_lone_number B gb e i l,
        no_lone_number A ga e' i' (sym (m.lone e.exporter e'.exporter r) ∙ l),
      )
    ]

-- a label with that key
pub record Held (P : Problem) (L : List (Option Route)) (u : ℕ) (k : Key) : Type 0 where
  pub route : Route
  pub labelled : label L u ≡ Some route
  pub keyed : key_of P route ≡ k

module _ (B A : Problem) (R : ℕ → ℕ → Type 0) (m : IsMatching B A R) (gb : IsProblem B) (ga : IsProblem A) where
  -- matched steps give matched routes
  pub matched_step : (e e' : Edge) (r r' c : Route) → Contains B.edges e → Contains A.edges e' → R e.exporter e'.exporter →
      ActsAlike (act_of B e) (act_of A e') → IsRouteOf B.protocol r → IsRouteOf A.protocol r' → key_of B r ≡ key_of A r' → step_over B e r ≡ Some c →
      (c' : Route) × (step_over A e' r' ≡ Some c') × (key_of B c ≡ key_of A c')
  matched_step e e' r r' c i i' x alike fits fits' k s =
      let fit = subst (λ p. IsRouteOf p r) m.protocol fits in
      let k' = sym (keys_agree B A R m r) ∙ k in
      let t = step_same A.protocol (is_lone_number A) (act_of B e) (act_of A e') (number B e.exporter) (number A e'.exporter) r r' c fit fits' alike
      (exporter_numbers B A R m gb ga e e' i i' x) k' s in
      (t.0, t.1, keys_agree B A R m c ∙ t.2)

  -- the loop check of a lone router agrees
  pub lone_check : (b a : ℕ) (c c' : Route) → R b a → is_lone A a ≡ true → key_of B c ≡ key_of A c' →
      is_on (number A a) (path_of c') ≡ is_on (number B b) (path_of c)
  lone_check b a c c' x l k =
      let same : number B b ≡ number A a = m.numbers b a x (m.lone b a x ∙ l) in
      let passes : is_lone_number A (number A a) ≡ true = marked_from A.lone A.numbers a (number A a) (m.right_in b a x) l refl in
      let lones : chosen (is_lone_number A) (path_of c) ≡ chosen (is_lone_number A) (path_of c') = ap (λ (q : Key). q.lone) (sym (keys_agree B A R m c) ∙ k) in
      sym (is_on-chosen (is_lone_number A) (number A a) passes (path_of c')) ∙ ap (is_on (number A a)) (sym lones)
      ∙ is_on-chosen (is_lone_number A) (number A a) passes (path_of c) ∙ ap (λ n. is_on n (path_of c)) (sym same)

  module _ (L : List (Option Route)) (st : IsStable A L) (eq : (b a a' : ℕ) (r : Route) → R b a → R b a' → label L a ≡ Some r → Held A L a' (key_of A r))
      (E : List (Option Route)) (fits : AreLabels B E) (tied : (b a : ℕ) (r : Route) → R b a → label E b ≡ Some r → Held A L a (key_of B r)) where
    -- an offer over an edge that has a partner is no better than the label of the matched router
    pub outer_offer : (b a : ℕ) (e : Edge) (c : Route) → R b a → Contains B.edges e → e.importer ≡ b → Partner B A R a e → IsCandidateOver B E e c →
        AsGood A L a c
    outer_offer b a e c x i imp p over =
        let r' = tied e.exporter p.other.exporter over.from p.exporter over.labelled in
        let t = matched_step e p.other over.from r'.route c i p.other_in p.exporter p.alike (fits.routes e.exporter over.from over.labelled)
        (st.fitting.routes p.other.exporter r'.route r'.labelled) (sym r'.keyed) over.stepped in
        let found : AsGood A L p.other.importer t.0 = elim (cases_Bool (is_lone A a)) [
          | inr l ↦ raw_optimal A ga L st p.other r'.route t.0 p.other_in (subst (λ v. is_lone A v ≡ false) (sym p.importer) l) r'.labelled t.1
          | inl l ↦
              let passes : is_on (number A p.other.importer) (path_of t.0) ≡ false = ap (λ v. is_on (number A v) (path_of t.0)) p.importer
              ∙ lone_check b a c t.0 x l t.2 ∙ ap (λ v. is_on (number B v) (path_of c)) (sym imp) ∙ over.passes in
              candidate_as_good A ga L st p.other.importer t.0 (ga.edges.inside p.other p.other_in).importer_in
              (of_edge p.other p.other_in refl (record { from = r'.route; labelled = r'.labelled; stepped = t.1; passes = passes }))
        ] in
        let k : key_of A t.0 ≡ key_of A c = sym t.2 ∙ keys_agree B A R m c in
        record {
          route = found.route;
          labelled = subst (λ v. label L v ≡ Some found.route) p.importer found.labelled;
          as_good =
              subst (λ q. compare_keys q (key_of A found.route) ≢ Less) k found.as_good;
        }

    -- no label is taken over an inner edge
    pub held_outer : (b a : ℕ) (e : Edge) (s' s : Route) → R b a → label L a ≡ Some s → Contains A.edges e → label L e.exporter ≡ Some s' →
        step_over A e s' ≡ Some s → ¬ R b e.exporter
    held_outer b a e s' s x lab i lab' st' y =
        let g = grows A ga e s' s i st' in
        let h = eq b a e.exporter s x y lab in
        let same : h.route ≡ s' = cc in
        let size : size_of h.route ≡ size_of s = ap (λ (q : Key). q.size) h.keyed in
        let size' : size_of h.route ≡ size_of s' = ap size_of same in
        omega (arith, g, size, size')

    -- the matched router has an offer of the preference of the label
    held_offer : (b a : ℕ) (s : Route) → R b a → label L a ≡ Some s → IsCandidate A L a s → (d : Route) × Offer B b d × (preference_of d ≡ preference_of s)
    held_offer b a s x lab (of_init e) = (s, offer_init (m.origins b a x ∙ e), refl)
    held_offer b a s x lab (of_edge e i imp over) =
        elim (m.back b a e x i imp) [
          | inr inner ↦ absurd (held_outer b a e over.from s x lab i over.labelled over.stepped inner.inner)
          | inl p ↦
              let fit : IsRouteOf A.protocol over.from = st.fitting.routes e.exporter over.from over.labelled in
              let fit' : IsRouteOf B.protocol over.from = subst (λ q. IsRouteOf q over.from) (sym m.protocol) fit in
              let t = step_alike A.protocol (act_of A e) (act_of B p.other) (number A e.exporter) (number B p.other.exporter) over.from s fit p.alike
              over.stepped in
              (t.0, offer_edge p.other p.other_in p.importer over.from fit' t.1, t.2)
        ]

    -- an offer over an inner edge is worse
    pub inner_offer : (b a : ℕ) (e : Edge) (r c : Route) → R b a → Contains B.edges e → e.importer ≡ b → IsInner B R b a e → label E e.exporter ≡ Some r →
        step_over B e r ≡ Some c → Better A L a c
    inner_offer b a e r c x i imp inner lab s =
        let h = tied e.exporter a r inner.inner lab in
        let g = grows B gb e r c i s in
        let fit = fits.routes e.exporter r lab in
        let own : Offer B b c = offer_edge e i imp r fit s in
        let size : size_of h.route ≡ size_of r = ap (λ (q : Key). q.size) h.keyed in
        let other : (d : Route) × Offer B b d × (preference_of d ≡ preference_of h.route) =
        held_offer b a h.route x h.labelled (st.held a h.route (m.right_in b a x) h.labelled) in
        let p : preference_of h.route ≡ preference_of c = sym other.2 ∙ one_preference B gb b other.0 c (m.left_in b a x) inner.not_lone other.1 own in
        record { route = h.route; labelled = h.labelled; better = shorter (key_of A h.route) (key_of A c) p (omega (arith, size, g)) }

    pub no_better : (b a : ℕ) (c : Route) → R b a → IsCandidate B E b c → AsGood A L a c
    no_better b a c x (of_init e) = candidate_as_good A ga L st a c (m.right_in b a x) (of_init (sym (m.origins b a x) ∙ e))
    no_better b a c x (of_edge e i imp over) =
        elim (m.forth b a e x i imp) [
          | inl p ↦ outer_offer b a e c x i imp p over
          | inr inner ↦ better_as_good A L a c (inner_offer b a e over.from c x i imp inner over.labelled over.stepped)
        ]

-- each router is matched to itself
pub identity : (P : Problem) → IsProblem P → IsMatching P P (λ u v. u ≡ v × (u < count P))
identity P good = record {
  protocol = refl;
  left_in = λ u v x. x.1;
  right_in = λ u v x. subst (λ w. w < count P) x.0 x.1;
  origins = λ u v x. ap (initial P) x.0;
  lone = λ u v x. ap (is_lone P) x.0;
  numbers = λ u v x l. ap (number P) x.0;
  forth = λ u v e x i imp. inl (record {
    other = e;
    other_in = i;
    importer = imp ∙ x.0;
    exporter = (refl, (good.edges.inside e i).exporter_in);
    alike =
        Rattle.srp_core.proofs.Steps.alike_self (act_of P e);
  });
  back = λ u v e x i imp. inl (record {
    other = e;
    other_in = i;
    importer = imp ∙ sym x.0;
    exporter = (refl, (good.edges.inside e i).exporter_in);
    alike =
        Rattle.srp_core.proofs.Steps.alike_self (act_of P e);
  });
  left = λ u h. (u, (refl, h));
  right = λ u h. (u, (refl, h));
}
