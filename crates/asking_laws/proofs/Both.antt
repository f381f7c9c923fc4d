-- Stable labels of a problem, and labels of what is left of it.
use Rattle.std.proofs.Common.{◌≡◌, ◌≢◌, ℕ, zero, suc, ◌<◌, ◌≤◌, List, length, Option, Some, refl, sym, ap, ◌∙◌, subst, inl, inr, arith}
use Rattle.std.specs.Prelude.{Contains, slice_index, slice_index_or}
use Rattle.std.specs.declared.cmp.Ordering.TheVariants.{Less}
use Rattle.base_kit.specs.declared.act_graph.Edge.{Edge}
use Rattle.route_run.specs.Rounds.{HasNoLone}
use Rattle.srp_core.specs.declared.route.Route.{Route}
use Rattle.srp_core.specs.Problem.{Problem, count, initial, step_over, IsProblem}
use Rattle.srp_core.specs.Acts.{step_by}
use Rattle.srp_core.specs.declared.route.Act.TheVariants.{Cost}
use Rattle.srp_core.specs.Routes.{preference_of, size_of, IsRouteOf, Key, compare_keys}
use Rattle.srp_core.specs.Stability.{label, IsCandidateOver, AreLabels, IsCandidate, of_init, of_edge, IsStable, HaveSameKeys, both_none, both_some}
use Rattle.srp_core.proofs.KeyOrder.{neither_better}
use Rattle.srp_core.proofs.Offers.{IsSupported, cases_label, grows, stable_supported}
use Rattle.asking_laws.specs.Spare.{ForwardsOver}
use Rattle.asking_laws.proofs.PlainKeys.{plain, keyed_plain}
use Rattle.asking_laws.proofs.Chosen.{HasKey, IsNotWorse, steps_alike, label_inside, stable_from_init, stable_from_edge, passes_check}

-- the same routers with fewer edges
pub record IsPartOf (P Q : Problem) : Type 0 where
  pub protocol : Q.protocol ≡ P.protocol
  pub numbers : Q.numbers ≡ P.numbers
  pub acts : Q.acts ≡ P.acts
  pub init : (u : ℕ) → initial Q u ≡ initial P u
  pub edges : (e : Edge) → Contains Q.edges e → Contains P.edges e

-- the label of the router has a route of its key that is left
pub data HasLeft (P Q : Problem) (L : List (Option Route)) (u : ℕ) (r : Route) : Type 0 where
  left_init : (start : Route) → initial P u ≡ Some start → plain start ≡ plain r → HasLeft P Q L u r
  left_edge : (e : Edge) (c : Route) → Contains Q.edges e → e.importer ≡ u → IsCandidateOver P L e c → plain c ≡ plain r → HasLeft P Q L u r

pub whole : (P : Problem) → IsPartOf P P
whole P = record { protocol = refl; numbers = refl; acts = refl; init = λ u. refl; edges = λ e h. h }

pub sizes : (r s : Route) → plain r ≡ plain s → size_of r ≡ size_of s
sizes r s e = ap (λ (k : Key). k.size) e

pub preferences : (r s : Route) → plain r ≡ plain s → preference_of r ≡ preference_of s
preferences r s e = ap (λ (k : Key). k.preference) e

-- all labels of the one have their keys in the other
pub record HaveKeysOf (L M : List (Option Route)) : Type 0 where
  pub there : (u : ℕ) (r : Route) → label L u ≡ Some r → HasKey M u (plain r)

-- stable labels have their own routes
pub own_left : (P : Problem) (L : List (Option Route)) → IsStable P L → (u : ℕ) (r : Route) → u < count P → label L u ≡ Some r → HasLeft P P L u r
own_left P L st u r inside lab = by (st.held u r inside lab)
  where
    by : IsCandidate P L u r → HasLeft P P L u r
    by (of_init e) = left_init r e refl
    by (of_edge e i imp over) = left_edge e r i imp over refl

-- ---- one edge in both

-- the route of an edge that both have, from labels of the one to labels of the other with their keys
pub record IsCarried (B : Problem) (Y : List (Option Route)) (edge : Edge) (c : Route) : Type 0 where
  pub from : Route
  pub labelled : label Y edge.exporter ≡ Some from
  pub route : Route
  pub stepped : step_over B edge from ≡ Some route
  pub keyed : plain route ≡ plain c

pub carried : (A B : Problem) → B.protocol ≡ A.protocol → (edge : Edge) → ((r : Route) → step_over B edge r ≡ step_over A edge r) →
    (X Y : List (Option Route)) → AreLabels A X → AreLabels B Y → HaveKeysOf X Y → (r c : Route) → label X edge.exporter ≡ Some r →
    step_over A edge r ≡ Some c → IsCarried B Y edge c
carried A B protocol edge same X Y fits fits' keys r c lab stepped =
    let h = keys.there edge.exporter r lab in
    let t = steps_alike A edge r h.route c (fits.routes edge.exporter r lab)
    (subst (λ p. IsRouteOf p h.route) protocol (fits'.routes edge.exporter h.route h.labelled)) (sym h.keyed) stepped in
    record { from = h.route; labelled = h.labelled; route = t.0; stepped = same h.route ∙ t.1; keyed = sym t.2 }

-- who forwards over the edge in the one forwards over it in the other
pub forwards_carried : (A B : Problem) → HasNoLone A → IsProblem B → HasNoLone B → B.protocol ≡ A.protocol → (edge : Edge) → Contains B.edges edge →
    ((r : Route) → step_over B edge r ≡ step_over A edge r) → (X Y : List (Option Route)) → AreLabels A X → IsSupported B Y → HaveKeysOf X Y →
    ForwardsOver A X edge → ForwardsOver B Y edge
forwards_carried A B none good none' protocol edge i same X Y fits sup keys f =
    let own = keys.there edge.importer f.route f.labelled in
    let t = carried A B protocol edge same X Y fits sup.fitting keys f.over.from f.candidate f.over.labelled f.over.stepped in
    let equal : plain t.route ≡ plain own.route =
    t.keyed ∙ sym (keyed_plain A none f.candidate) ∙ f.same ∙ keyed_plain A none f.route ∙ sym own.keyed in
    let long = sizes t.route own.route equal in
    record {
      route = own.route;
      labelled = own.labelled;
      candidate = t.route;
      over = record {
        from = t.from;
        labelled = t.labelled;
        stepped = t.stepped;
        passes = passes_check B good none' Y sup edge t.from t.route own.route i t.labelled t.stepped own.labelled (omega arith);
      };
      same = keyed_plain B none' t.route ∙ equal ∙ sym (keyed_plain B none' own.route);
    }

module _ (P Q : Problem) (gp : IsProblem P) (gq : IsProblem Q) (np : HasNoLone P) (nq : HasNoLone Q) (part : IsPartOf P Q) where
  pub same_count : count Q ≡ count P
  same_count = ap length part.numbers

  pub same_step : (e : Edge) (r : Route) → step_over Q e r ≡ step_over P e r
  same_step e r = λ i. step_by (slice_index_or (part.acts i) e.act (Cost 0)) (slice_index (part.numbers i) e.exporter) r

  fits : (r : Route) → IsRouteOf Q.protocol r → IsRouteOf P.protocol r
  fits r h = subst (λ p. IsRouteOf p r) part.protocol h

  module _ (L : List (Option Route)) (sp : IsStable P L) (spare : (u : ℕ) (r : Route) → label L u ≡ Some r → HasLeft P Q L u r) where
    -- ---- against stable labels

    module _ (M : List (Option Route)) (sq : IsStable Q M) where
      record Below (n : ℕ) : Type 0 where
        above : (u : ℕ) (r : Route) → size_of r < n → label L u ≡ Some r → HasKey M u (plain r)
        below : (u : ℕ) (m : Route) → size_of m < n → label M u ≡ Some m → HasKey L u (plain m)

      half_above : (n : ℕ) → Below n → (u : ℕ) (r : Route) → size_of r < suc n → label L u ≡ Some r → HasLeft P Q L u r →
          (c : Route) × (plain c ≡ plain r) × IsNotWorse M u c
      half_above n b u r less lab (left_init i e k) =
          let inside = label_inside P gp np L sp u r lab in
          (i, k, stable_from_init Q gq nq M sq u i (subst (λ m. u < m) (sym same_count) inside) (part.init u ∙ e))
      half_above n b u r less lab (left_edge e c i imp over k) =
          let g = grows P gp e over.from c (part.edges e i) over.stepped in
          let long = sizes c r k in
          let h = b.above e.exporter over.from (omega arith) over.labelled in
          let t = steps_alike P e over.from h.route c (sp.fitting.routes e.exporter over.from over.labelled)
          (fits h.route (sq.fitting.routes e.exporter h.route h.labelled)) (sym h.keyed) over.stepped in
          (t.0, sym t.2 ∙ k, subst (λ v. IsNotWorse M v t.0) imp (stable_from_edge Q gq nq M sq e h.route t.0 i h.labelled (same_step e h.route ∙ t.1)))

      half_below : (n : ℕ) → Below n → (u : ℕ) (m : Route) → size_of m < suc n → u < count P → label M u ≡ Some m → IsCandidate Q M u m →
          (c : Route) × (plain c ≡ plain m) × IsNotWorse L u c
      half_below n b u m less inside lab (of_init e) = (m, refl, stable_from_init P gp np L sp u m inside (sym (part.init u) ∙ e))
      half_below n b u m less inside lab (of_edge e i imp over) =
          let g = grows Q gq e over.from m i over.stepped in
          let h = b.below e.exporter over.from (omega arith) over.labelled in
          let t = steps_alike P e over.from h.route m (fits over.from (sq.fitting.routes e.exporter over.from over.labelled))
          (sp.fitting.routes e.exporter h.route h.labelled) (sym h.keyed) (sym (same_step e over.from) ∙ over.stepped) in
          (t.0, sym t.2, subst (λ v. IsNotWorse L v t.0) imp (stable_from_edge P gp np L sp e h.route t.0 (part.edges e i) h.labelled t.1))

      full : (x y : List (Option Route)) (u : ℕ) (r : Route) → label x u ≡ Some r → (a : (c : Route) × (plain c ≡ plain r) × IsNotWorse y u c) →
          ((m : Route) → size_of m ≤ size_of r → label y u ≡ Some m → (c : Route) × (plain c ≡ plain m) × IsNotWorse x u c) → HasKey y u (plain r)
      full x y u r lab a back =
          let held = a.2.held in
          let long = sizes a.0 r a.1 in
          let short = held.size in
          let b = back held.route (omega arith) held.labelled in
          let same : b.2.held.route ≡ r = (let there = b.2.held.labelled in cc) in
          let other : compare_keys (plain held.route) (plain r) ≢ Less = subst (λ s. compare_keys (plain held.route) (plain s) ≢ Less) same
          (subst (λ k. compare_keys k (plain b.2.held.route) ≢ Less) b.1 b.2.as_good) in
          let one : compare_keys (plain r) (plain held.route) ≢ Less = subst (λ k. compare_keys k (plain held.route) ≢ Less) a.1 a.2.as_good in
          record { route = held.route; labelled = held.labelled; keyed = neither_better (plain held.route) (plain r) other one }

      from_below : (n : ℕ) → Below n → (u : ℕ) (m : Route) → size_of m < suc n → label M u ≡ Some m → (c : Route) × (plain c ≡ plain m) × IsNotWorse L u c
      from_below n b u m less lab =
          let inside = label_inside Q gq nq M sq u m lab in
          half_below n b u m less (subst (λ k. u < k) same_count inside) lab (sq.held u m inside lab)

      from_above : (n : ℕ) → Below n → (u : ℕ) (r : Route) → size_of r < suc n → label L u ≡ Some r → (c : Route) × (plain c ≡ plain r) × IsNotWorse M u c
      from_above n b u r less lab = half_above n b u r less lab (spare u r lab)

      all_below : (n : ℕ) → Below n
      all_below zero = record { above = λ u r less lab. absurd (omega arith); below = λ u m less lab. absurd (omega arith) }
      all_below (suc n) = let b = all_below n in record {
        above = λ u r less lab. full L M u r lab (from_above n b u r less lab) (λ m le there. from_below n b u m (omega arith) there);
        below = λ u m less lab. full M L u m lab (from_below n b u m less lab) (λ r le there. from_above n b u r (omega arith) there);
      }

      pub keys_kept : HaveKeysOf L M
      keys_kept = record { there = λ u r lab. (all_below (suc (size_of r))).above u r (omega arith) lab }

      pub keys_come : HaveKeysOf M L
      keys_come = record { there = λ u m lab. (all_below (suc (size_of m))).below u m (omega arith) lab }

      pub same_keys : (u : ℕ) → HaveSameKeys P Q (label L u) (label M u)
      same_keys u = elim (cases_label (label L u)) [
        | inr full ↦ (
            let h = keys_kept.there u full.0 full.1 in
            both_some full.0 h.route full.1 h.labelled (keyed_plain P np full.0 ∙ sym h.keyed ∙ sym (keyed_plain Q nq h.route)))
        | inl empty ↦ elim (cases_label (label M u)) [
          | inl none ↦ both_none empty none
          | inr some ↦ absurd (let h = keys_come.there u some.0 some.1 in let there = h.labelled in cc)
        ]
      ]

      pub forwards_before : (edge : Edge) → Contains Q.edges edge → ForwardsOver Q M edge → ForwardsOver P L edge
      forwards_before edge i f = forwards_carried Q P nq gp np (sym part.protocol) edge (part.edges edge i) (λ r. sym (same_step edge r)) M L sq.fitting
          (stable_supported P gp L sp) keys_come f

      pub forwards_after : (edge : Edge) → Contains Q.edges edge → ForwardsOver P L edge → ForwardsOver Q M edge
      forwards_after edge i f = forwards_carried P Q np gq nq part.protocol edge i (same_step edge) L M sp.fitting (stable_supported Q gq M sq) keys_kept f
