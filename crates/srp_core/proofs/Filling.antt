-- A stable solution along a matching.
use Rattle.std.proofs.Common.{◌≡◌, ◌≢◌, ◌⊎◌, ℕ, zero, suc, ◌+◌, ◌<◌, ◌≤◌, false, List, [], ◌∷◌, length, set, replicate, Option, Some, None, sym, ap, ◌∙◌, subst, inl, inr, arith, length-set, get_or-set_same, get_or-set_other}
use Rattle.std.specs.Prelude.{Contains}
use Rattle.std.specs.declared.cmp.Ordering.TheVariants.{Less}
use Rattle.std.proofs.lemmas.Bool.{cases_Bool, cases_lt, cases_eq}
use Rattle.std.proofs.lemmas.List.{get_or-replicate, length-replicate, get_or_past}
use Rattle.srp_core.specs.declared.route.Route.{Route}
use Rattle.base_kit.specs.declared.act_graph.Edge.{Edge}
use Rattle.srp_core.specs.Routes.{size_of, path_of, is_on, IsRouteOf, Key, compare_keys}
use Rattle.srp_core.specs.Problem.{Problem, count, number, key_of, IsProblem}
use Rattle.srp_core.specs.Stability.{label, IsCandidateOver, IsCandidate, of_init, of_edge, IsStable}
use Rattle.srp_core.proofs.Offers.{cases_label, IsSupported, offer_route, candidate_offer, grows, blocked}
use Rattle.srp_core.proofs.Matching.{IsMatching, converse, keys_agree, Held, matched_step, held_outer, no_better}

-- each label of B is matched by labels of A of the same key
pub record IsTied (B A : Problem) (R : ℕ → ℕ → Type 0) (E L : List (Option Route)) : Type 0 where
  pub held : (b a : ℕ) (r : Route) → R b a → label E b ≡ Some r → Held A L a (key_of B r)

-- the labels of A that are matched to one router of B have one key
pub record IsEven (A : Problem) (R : ℕ → ℕ → Type 0) (L : List (Option Route)) : Type 0 where
  pub held : (b a a' : ℕ) (r : Route) → R b a → R b a' → label L a ≡ Some r → Held A L a' (key_of A r)

pub record IsGood (B A : Problem) (R : ℕ → ℕ → Type 0) (E L : List (Option Route)) : Type 0 where
  pub supported : IsSupported B E
  pub tied : IsTied B A R E L

pub record Extends (E E' : List (Option Route)) : Type 0 where
  pub kept : (u : ℕ) (r : Route) → label E u ≡ Some r → label E' u ≡ Some r

pub record IsFilled (R : ℕ → ℕ → Type 0) (E L : List (Option Route)) (limit : ℕ) : Type 0 where
  pub filled : (b a : ℕ) (s : Route) → R b a → label L a ≡ Some s → size_of s < limit → (r : Route) × (label E b ≡ Some r)

pub record IsRowFilled (R : ℕ → ℕ → Type 0) (E L : List (Option Route)) (limit row : ℕ) : Type 0 where
  pub filled : (b a : ℕ) (s : Route) → b < row → R b a → label L a ≡ Some s → size_of s < limit → (r : Route) × (label E b ≡ Some r)

record Offered (B A : Problem) (E : List (Option Route)) (b : ℕ) (s : Route) : Type 0 where
  route : Route
  candidate : IsCandidate B E b route
  keyed : key_of B route ≡ key_of A s

pub record OfferedOver (B A : Problem) (R : ℕ → ℕ → Type 0) (E : List (Option Route)) (b : ℕ) (e : Edge) (s : Route) : Type 0 where
  pub edge : Edge
  pub edge_in : Contains B.edges edge
  pub importer : edge.importer ≡ b
  pub exporter : R edge.exporter e.exporter
  pub route : Route
  pub over : IsCandidateOver B E edge route
  pub keyed : key_of B route ≡ key_of A s

pub candidate_kept : (P : Problem) (E E' : List (Option Route)) (u : ℕ) (c : Route) → Extends E E' → IsCandidate P E u c → IsCandidate P E' u c
candidate_kept P E E' u c ext (of_init e) = of_init e
candidate_kept P E E' u c ext (of_edge e i imp over) =
    of_edge e i imp (record { from = over.from; labelled = ext.kept e.exporter over.from over.labelled; stepped = over.stepped; passes = over.passes })

bound_of : List (Option Route) → ℕ
bound_of [] = 0
bound_of (None ∷ labels) = bound_of labels
bound_of (Some r ∷ labels) = suc (size_of r) + bound_of labels

below_bound : (labels : List (Option Route)) (u : ℕ) (r : Route) → label labels u ≡ Some r → size_of r < bound_of labels
unfolding bound_of
below_bound [] u r e = absurd (cc)
below_bound (None ∷ labels) zero r e = absurd (cc)
below_bound (None ∷ labels) (suc u) r e = below_bound labels u r e
below_bound (Some s ∷ labels) zero r e = let same : s ≡ r = cc in let size = ap size_of same in omega (arith, size)
below_bound (Some s ∷ labels) (suc u) r e = let h = below_bound labels u r e in omega (arith, h)

pub nothing : (P : Problem) (u : ℕ) (r : Route) → label (replicate (count P) None) u ≡ Some r → ⊥
nothing P u r e = elim (cases_lt u (count P)) [
  | inl h ↦ let empty : label (replicate (count P) None) u ≡ None = get_or-replicate (count P) u None None h in cc
  | inr h ↦ let empty : label (replicate (count P) None) u ≡ None =
      get_or_past (replicate (count P) None) u None (let l = length-replicate {A = Option Route} (count P) None in omega (arith, l)) in cc
]

module _ (B A : Problem) (R : ℕ → ℕ → Type 0) (m : IsMatching B A R) (gb : IsProblem B) (ga : IsProblem A) (L : List (Option Route)) (st : IsStable A L)
    (even : IsEven A R L) where
  -- the label of the matched router came over e; then a router without a label, whose partners of shorter labels are filled,
  -- has a candidate of that key from a router matched to e's exporter
  pub offered_over : (E : List (Option Route)) → IsGood B A R E L → (b a : ℕ) (s : Route) → R b a → label L a ≡ Some s → label E b ≡ None →
      IsFilled R E L (size_of s) → (e : Edge) → Contains A.edges e → e.importer ≡ a → IsCandidateOver A L e s → OfferedOver B A R E b e s
  offered_over E good b a s x lab empty before e i imp over =
      let g = grows A ga e over.from s i over.stepped in
      elim (m.back b a e x i imp) [
        | inr inner ↦ absurd (held_outer B A R m gb ga L st even.held E good.supported.fitting good.tied.held b a e over.from s x lab i over.labelled
            over.stepped inner.inner)
        | inl p ↦
            let r = before.filled p.other.exporter e.exporter over.from p.exporter over.labelled g in
            let h = good.tied.held p.other.exporter e.exporter r.0 p.exporter r.1 in
            let same : h.route ≡ over.from = (let lh = h.labelled in let lo = over.labelled in cc) in
            let k : key_of A over.from ≡ key_of B r.0 = ap (key_of A) (sym same) ∙ h.keyed in
            let fit = st.fitting.routes e.exporter over.from over.labelled in
            let fit' = good.supported.fitting.routes p.other.exporter r.0 r.1 in
            let t = matched_step A B (λ y z. R z y) (converse B A R m) ga gb e p.other over.from r.0 s i p.other_in p.exporter p.alike fit fit' k over.stepped
            in
            let passes : is_on (number B p.other.importer) (path_of t.0) ≡ false = elim (cases_Bool (is_on (number B p.other.importer) (path_of t.0))) [
              | inr f ↦ f
              | inl f ↦
                  let bl = blocked B gb E good.supported p.other r.0 t.0 p.other_in r.1 t.1 f in
                  let there : label E b ≡ Some bl.0 = subst (λ v. label E v ≡ Some bl.0) p.importer bl.1 in absurd (cc)
            ] in
            record {
              edge = p.other;
              edge_in = p.other_in;
              importer = p.importer;
              exporter = p.exporter;
              route = t.0;
              over =
                  record { from = r.0; labelled = r.1; stepped = t.1; passes = passes };
              keyed = sym t.2;
            }
      ]

  -- one more router has a candidate of the key of its partner
  offered : (E : List (Option Route)) → IsGood B A R E L → (b a : ℕ) (s : Route) → R b a → label L a ≡ Some s → label E b ≡ None → IsFilled R E L (size_of s) →
      IsCandidate A L a s → Offered B A E b s
  offered E good b a s x lab empty before (of_init e) = record { route = s; candidate = of_init (m.origins b a x ∙ e); keyed = keys_agree B A R m s }
  offered E good b a s x lab empty before (of_edge e i imp over) =
      let o = offered_over E good b a s x lab empty before e i imp over in
      record { route = o.route; candidate = of_edge o.edge o.edge_in o.importer o.over; keyed = o.keyed }

  pub extended : (E : List (Option Route)) (b : ℕ) (c : Route) → label E b ≡ None → Extends E (set E b (Some c))
  extended E b c empty = record {
    kept = λ u r e. elim (cases_eq u b) [
      | inl same ↦ (let no' : label E u ≡ None = subst (λ v. label E v ≡ None) (sym same) empty in absurd (cc))
      | inr differ ↦ get_or-set_other E b u (Some c) None differ ∙ e
    ];
  }

  -- where a label is set, it is the new one, or an old one
  pub at_set : (E : List (Option Route)) (b u : ℕ) (c r : Route) → b < length E → label (set E b (Some c)) u ≡ Some r →
      ((u ≡ b) × (c ≡ r)) ⊎ (label E u ≡ Some r)
  at_set E b u c r h e = elim (cases_eq u b) [
    | inl same ↦
        let s : label (set E b (Some c)) u ≡ Some c = subst (λ v. label (set E b (Some c)) v ≡ Some c) (sym same) (get_or-set_same E b (Some c) None h) in
        let cr : c ≡ r = cc in inl (same, cr)
    | inr differ ↦ inr (sym (get_or-set_other E b u (Some c) None differ) ∙ e)
  ]

  pub set_good : (E : List (Option Route)) → IsGood B A R E L → (b a : ℕ) (c s : Route) → R b a → label L a ≡ Some s → label E b ≡ None → IsCandidate B E b c →
      key_of B c ≡ key_of A s → IsGood B A R (set E b (Some c)) L
  set_good E good b a c s x lab empty cand k =
      let ext = extended E b c empty in
      let total = good.supported.fitting.total in
      let inside : b < length E = (let l = m.left_in b a x in omega (arith, l, total)) in
      let fit : IsRouteOf B.protocol c = offer_route B gb b c (candidate_offer B gb E b c good.supported.fitting cand) in
      record {
        supported = record {
          fitting = record {
            total = length-set E b (Some c) ∙ total;
            routes =
                λ u r e. elim (at_set E b u c r inside e) [ inl n ↦ subst (IsRouteOf B.protocol) n.1 fit | inr o ↦ good.supported.fitting.routes u r o ];
          };
          held = λ u r e. elim (at_set E b u c r inside e) [
            | inl n ↦ subst (λ v. IsCandidate B (set E b (Some c)) v r) (sym n.0)
                (subst (λ d. IsCandidate B (set E b (Some c)) b d) n.1 (candidate_kept B E (set E b (Some c)) b c ext cand))
            | inr o ↦ candidate_kept B E (set E b (Some c)) u r ext (good.supported.held u r o)
          ];
        };
        tied = record {
          held = λ b' a' r y e. elim (at_set E b b' c r inside e) [
            | inl n ↦
                let h = even.held b a a' s x (subst (λ v. R v a') n.0 y) lab in
                record { route = h.route; labelled = h.labelled; keyed = h.keyed ∙ sym k ∙ ap (key_of B) n.1 }
            | inr o ↦ good.tied.held b' a' r y o
          ];
        };
      }

  -- how the loop may choose the label of a router, so that the choice stays right while labels are added
  pub record IsChoice (Pick : List (Option Route) → ℕ → Route → Type 0) : Type 0 where
    pub make : (E : List (Option Route)) → IsGood B A R E L → (b a : ℕ) (s : Route) → R b a → label L a ≡ Some s → label E b ≡ None →
        IsFilled R E L (size_of s) → (c : Route) × Pick E b c × IsCandidate B E b c × (key_of B c ≡ key_of A s)
    pub keep : (E E' : List (Option Route)) (b : ℕ) (c : Route) → Extends E E' → Pick E b c → Pick E' b c

  module _ (Pick : List (Option Route) → ℕ → Route → Type 0) (choice : IsChoice Pick) where
    record Row (E : List (Option Route)) (limit row : ℕ) : Type 0 where
      next : List (Option Route)
      good : IsGood B A R next L
      extends : Extends E next
      filled : IsRowFilled R next L limit row
      picked : (b : ℕ) (r : Route) → label next b ≡ Some r → Pick next b r

    more_filled : (E E' : List (Option Route)) (limit : ℕ) → Extends E E' → IsFilled R E L limit → IsFilled R E' L limit
    more_filled E E' limit ext f = record { filled = λ b a s x e less. let r = f.filled b a s x e less in (r.0, ext.kept b r.0 r.1) }

    -- the row grows by a router that has its label, or needs none
    row_more : (E E' : List (Option Route)) (limit i : ℕ) → Extends E E' → IsRowFilled R E L limit i →
        ((a : ℕ) (s : Route) → R i a → label L a ≡ Some s → size_of s < limit → (r : Route) × (label E' i ≡ Some r)) → IsRowFilled R E' L limit (suc i)
    row_more E E' limit i ext row here = record {
      filled = λ b a s less x e small. elim (cases_eq b i) [
        | inl same ↦ (let h = here a s (subst (λ v. R v a) same x) e small in (h.0, subst (λ v. label E' v ≡ Some h.0) (sym same) h.1))
        | inr differ ↦ (let r = row.filled b a s (omega arith) x e small in (r.0, ext.kept b r.0 r.1))
      ];
    }

    same_labels : (E : List (Option Route)) → Extends E E
    same_labels E = record { kept = λ u r e. e }

    extends_on : (E E' E'' : List (Option Route)) → Extends E E' → Extends E' E'' → Extends E E''
    extends_on E E' E'' f g = record { kept = λ u r e. g.kept u r (f.kept u r e) }

    -- a partner of one size, then all partners
    same_size : (b a a' : ℕ) (s s' : Route) → R b a → R b a' → label L a ≡ Some s → label L a' ≡ Some s' → size_of s' ≡ size_of s
    same_size b a a' s s' x y e e' =
        let h = even.held b a a' s x y e in
        let same : h.route ≡ s' = (let lh = h.labelled in cc) in
        sym (ap size_of same) ∙ ap (λ (q : Key). q.size) h.keyed

    one_row : (E : List (Option Route)) (k i : ℕ) → IsFilled R E L k → Row E (suc k) i → i < count B → Row E (suc k) (suc i)
    one_row E k i before row inside =
        let p = m.left i inside in
        elim (cases_label (label L p.0)) [
          | inl empty ↦ record {
            next = row.next;
            good = row.good;
            extends = row.extends;
            picked = row.picked;
            filled = row_more row.next row.next (suc k) i (same_labels row.next) row.filled (λ a s x e less.
                let h = even.held i a p.0 s x p.1 e in let lh = h.labelled in absurd (cc));
          }
          | inr full ↦ elim (cases_lt (size_of full.0) (suc k)) [
            | inr large ↦ record {
              next = row.next;
              good = row.good;
              extends = row.extends;
              picked = row.picked;
              filled = row_more row.next row.next (suc k) i (same_labels row.next) row.filled (λ a s x e less.
                  let size = same_size i p.0 a full.0 s p.1 x full.1 e in absurd (omega arith));
            }
            | inl small ↦ elim (cases_label (label row.next i)) [
              | inr there ↦ record {
                next = row.next;
                good = row.good;
                extends = row.extends;
                picked = row.picked;
                filled = row_more row.next row.next (suc k) i (same_labels row.next) row.filled (λ a s x e less. there);
              }
              | inl absent ↦
                  let shorter : IsFilled R row.next L (size_of full.0) =
                  record { filled = λ b a s x e less. let r = before.filled b a s x e (omega arith) in (r.0, row.extends.kept b r.0 r.1) } in
                  let o = choice.make row.next row.good i p.0 full.0 p.1 full.1 absent shorter in
                  let next = set row.next i (Some o.0) in
                  let ext = extended row.next i o.0 absent in
                  let total = row.good.supported.fitting.total in
                  let put : label next i ≡ Some o.0 = get_or-set_same row.next i (Some o.0) None (omega (arith, total)) in
                  record {
                    next = next;
                    good = set_good row.next row.good i p.0 o.0 full.0 p.1 full.1 absent o.2 o.3;
                    extends =
                        extends_on E row.next next row.extends ext;
                    picked =
                        λ b r e. elim (at_set row.next i b o.0 r (omega (arith, total)) e) [
                          | inl n ↦ subst (λ v. Pick next v r) (sym n.0) (subst (Pick next i) n.1 (choice.keep row.next next i o.0 ext o.1))
                          | inr old ↦ choice.keep row.next next b r ext (row.picked b r old)
                        ];
                    filled =
                        row_more row.next next (suc k) i ext row.filled (λ a s x e less. (o.0, put));
                  }
            ]
          ]
        ]

    rows : (E : List (Option Route)) (k i : ℕ) → IsGood B A R E L → ((b : ℕ) (r : Route) → label E b ≡ Some r → Pick E b r) → IsFilled R E L k → i ≤ count B →
        Row E (suc k) i
    rows E k zero good picked before h = record {
      next = E;
      good = good;
      picked = picked;
      extends = same_labels E;
      filled =
          record { filled = λ b a s less x e small. absurd (omega arith) };
    }
    rows E k (suc i) good picked before h = one_row E k i before (rows E k i good picked before (omega arith)) (omega arith)

    record Filling (limit : ℕ) : Type 0 where
      labels : List (Option Route)
      good : IsGood B A R labels L
      picked : (b : ℕ) (r : Route) → label labels b ≡ Some r → Pick labels b r
      filled : IsFilled R labels L limit

    filling : (k : ℕ) → Filling k
    filling zero = record {
      labels = replicate (count B) None;
      good = record {
        supported = record {
          fitting = record { total = length-replicate (count B) None; routes = λ u r e. absurd (nothing B u r e) };
          held =
              λ u r e. absurd (nothing B u r e);
        };
        tied = record { held = λ b a r x e. absurd (nothing B b r e) };
      };
      picked = λ b r e. absurd (nothing B b r e);
      filled = record { filled = λ b a s x e small. absurd (omega arith) };
    }
    filling (suc k) =
        let f = filling k in
        let r = rows f.labels k (count B) f.good f.picked f.filled (omega arith) in
        record {
          labels = r.next;
          good = r.good;
          picked = r.picked;
          filled =
              record { filled = λ b a s x e small. r.filled.filled b a s (m.left_in b a x) x e small };
        }

    -- labels that are chosen so, with which all partners of labelled routers are filled
    pub record ChosenLabels : Type 0 where
      pub labels : List (Option Route)
      pub good : IsGood B A R labels L
      pub picked : (b : ℕ) (r : Route) → label labels b ≡ Some r → Pick labels b r
      pub full : (b a : ℕ) (s : Route) → R b a → label L a ≡ Some s → (r : Route) × (label labels b ≡ Some r)

    pub chosen_labels : ChosenLabels
    chosen_labels =
        let f = filling (bound_of L) in
        record { labels = f.labels; good = f.good; picked = f.picked; full = λ b a s x e. f.filled.filled b a s x e (below_bound L a s e) }

  -- labels that are good, and none where the partners have none, are stable
  pub good_stable : (E : List (Option Route)) → IsGood B A R E L → ((b a : ℕ) (s : Route) → R b a → label L a ≡ Some s → (r : Route) × (label E b ≡ Some r)) →
      IsStable B E
  good_stable E good full = record {
    fitting = good.supported.fitting;
    none = λ b c inside empty cand.
        (let p = m.left b inside in
        let n = no_better B A R m gb ga L st even.held E good.supported.fitting good.tied.held b p.0 c p.1 cand in
        let f = full b p.0 n.route p.1 n.labelled in
        let lf = f.1 in cc);
    held = λ b r inside e. good.supported.held b r e;
    best = λ b r c inside e cand.
        (let p = m.left b inside in
        let n = no_better B A R m gb ga L st even.held E good.supported.fitting good.tied.held b p.0 c p.1 cand in
        let h = good.tied.held b p.0 r p.1 e in
        let same : n.route ≡ h.route = (let ln = n.labelled in let lh = h.labelled in cc) in
        let kr : key_of A n.route ≡ key_of B r = ap (key_of A) same ∙ h.keyed in
        let kc : key_of A c ≡ key_of B c = sym (keys_agree B A R m c) in
        subst (λ q. compare_keys (key_of B c) q ≢ Less) kr (subst (λ q. compare_keys q (key_of A n.route) ≢ Less) kc n.as_good));
  }

  -- stable labels of B, tied to those of A both ways
  pub record Solved : Type 0 where
    pub labels : List (Option Route)
    pub stable : IsStable B labels
    pub down : IsTied B A R labels L
    pub up : IsTied A B (λ y z. R z y) L labels

  -- what a loop that fills labels has at its end is a solution
  pub finished : (E : List (Option Route)) → IsGood B A R E L → ((b a : ℕ) (s : Route) → R b a → label L a ≡ Some s → (r : Route) × (label E b ≡ Some r)) →
      IsStable B E × IsTied B A R E L × IsTied A B (λ y z. R z y) L E
  finished E good full = (
    good_stable E good full,
    good.tied,
    record {
      held = λ a b s x e.
          (let r = full b a s x e in
          let h = good.tied.held b a r.0 x r.1 in
          let same : h.route ≡ s = (let lh = h.labelled in cc) in
          record { route = r.0; labelled = r.1; keyed = sym h.keyed ∙ ap (key_of A) same });
    },
  )

  any_choice : IsChoice (λ E b c. Unit {0})
  any_choice = record {
    make = λ E good b a s x e empty before. (let o = offered E good b a s x e empty before (st.held a s (m.right_in b a x) e) in
        (o.route, tt, o.candidate, o.keyed));
    keep = λ E E' b c ext p. tt;
  }

  pub solved : Solved
  solved =
      let f = chosen_labels (λ E b c. Unit {0}) any_choice in
      let t = finished f.labels f.good f.full in
      record { labels = f.labels; stable = t.0; down = t.1; up = t.2 }
