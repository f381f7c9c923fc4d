-- Rounds in OSPF: after so many of them, each router has the cost of its best walk of so many routers.
use Rattle.std.proofs.Common.{◌≡◌, ◌⊎◌, ℕ, zero, suc, ◌+◌, ◌<◌, ◌≤◌, false, List, [], ◌∷◌, length, Option, Some, refl, sym, ap, ◌∙◌, subst, arith, inl, inr}
use Rattle.std.specs.Prelude.{Contains, nat_lt, nat_eq}
use Rattle.std.specs.List.{range_with_len}
use Rattle.std.proofs.lemmas.Bool.{cases_eq, ltb-false, le-ltb, cond-true, cond-false, eq-eqb, ne_eqb}
use Rattle.base_kit.specs.declared.protocol.Protocol.TheVariants.{Ospf as OverOspf}
use Rattle.base_kit.proofs.Elements.{In, in_contains, in_left, in_right, in_range}
use Rattle.base_kit.specs.declared.act_graph.Edge.{Edge}
use Rattle.srp_core.specs.declared.route.Route.{Route}
use Rattle.srp_core.specs.declared.route.Route.TheVariants.{Bgp, Ospf}
use Rattle.srp_core.specs.declared.route.Act.{Act}
use Rattle.srp_core.specs.declared.route.Act.TheVariants.{Import, Cost}
use Rattle.srp_core.specs.Routes.{size_of, path_of, is_on, IsRouteOf, compare_keys}
use Rattle.srp_core.specs.Acts.{IsActOf, step_by}
use Rattle.srp_core.specs.Problem.{Problem, count, number, initial, act_of, step_over, key_of, IsProblem}
use Rattle.srp_core.specs.Stability.{label, AreLabels, IsCandidate, of_init, of_edge, IsStable}
use Rattle.srp_core.proofs.Steps.{costs, costed, ospf_same}
use Rattle.srp_core.proofs.KeyOrder.{not_better, not_longer, irreflexive}
use Rattle.srp_core.proofs.Offers.{candidate_offer, offer_route, edge_act, edge_keeps, grows}
use Rattle.route_run.specs.Activations.{chosen_label, activated, labels_after}
use Rattle.route_run.specs.Rounds.{HasRounds, HasNoLone}
use Rattle.route_run.proofs.AtRest.{chosen_candidate, activated_here, activated_other, at_activated, activated_labels}
use Rattle.route_run.proofs.Below.{as_long, chosen_over, chosen_there}
use Rattle.route_run.proofs.Runs.{after_append}
use Rattle.route_run.proofs.ShortPaths.{times, counting}

-- a route that is carried from an originator to the router, through these routers, the last first
abbrev WalkOf : Problem → List ℕ → ℕ → Route → Type 0
WalkOf P [] u c = (u < count P) × (initial P u ≡ Some c)
WalkOf P (v ∷ l) u c = (e : Edge) × (b : Route) × Contains P.edges e × (e.importer ≡ u) × (e.exporter ≡ v) × (step_over P e b ≡ Some c) × WalkOf P l v b

-- all routers differ
abbrev Apart : List ℕ → Type 0
Apart [] = Unit {0}
Apart (u ∷ l) = (¬ In l u) × Apart l

in_or_not : (l : List ℕ) (u : ℕ) → In l u ⊎ (¬ In l u)
in_or_not [] u = inr (λ i. i)
in_or_not (v ∷ l) u = elim (cases_eq v u) [
  | inl same ↦ inl (inl same)
  | inr differ ↦ elim (in_or_not l u) [ inl i ↦ inl (inr i) | inr lacking ↦ inr (λ i. elim i [ inl e ↦ differ e | inr h ↦ lacking h ]) ]
]

not_in_times : (l : List ℕ) (x : ℕ) → ¬ In l x → times x l ≡ 0
not_in_times [] x lacking = refl
not_in_times (y ∷ l) x lacking = cond-false (nat_eq y x) (suc (times x l)) (times x l) (ne_eqb y x (λ e. lacking (inl e)))
    ∙ not_in_times l x (λ i. lacking (inr i))

apart_times : (l : List ℕ) (x : ℕ) → Apart l → times x l ≤ 1
apart_times [] x apart = omega arith
apart_times (y ∷ l) x apart = elim (cases_eq y x) [
  | inl same ↦
      let once = cond-true (nat_eq y x) (suc (times x l)) (times x l) (eq-eqb y x same) in
      let none = not_in_times l x (subst (λ z. ¬ In l z) same apart.0) in omega arith
  | inr differ ↦
      let rest = cond-false (nat_eq y x) (suc (times x l)) (times x l) (ne_eqb y x differ) in
      let few = apart_times l x apart.1 in omega arith
]

step_monotone : (act : Act) (n : ℕ) (b b' c : Route) → IsActOf OverOspf act → IsRouteOf OverOspf b → IsRouteOf OverOspf b' → size_of b' ≤ size_of b →
    step_by act n b ≡ Some c → (c' : Route) × (step_by act n b' ≡ Some c') × (size_of c' ≤ size_of c)
step_monotone (Import out sends into) n b b' c is f f' le e = absurd is
step_monotone (Cost w) n (Bgp lp path comms) b' c is f f' le e = absurd f
step_monotone (Cost w) n (Ospf x) (Bgp lp path comms) c is f f' le e = absurd f'
step_monotone (Cost w) n (Ospf x) (Ospf x') c is f f' le e =
    let s = costs w n x c e in
    let below = ltb-false 4294967295 (w + x) s.0 in
    let fits : nat_lt 4294967295 (w + x') ≡ false = le-ltb 4294967295 (w + x') (omega arith) in
    let size : size_of c ≡ w + x = ap size_of s.1 in
    (Ospf (w + x'), costed w n x' fits, omega arith)

ospf_passes : (n : ℕ) (c : Route) → IsRouteOf OverOspf c → is_on n (path_of c) ≡ false
ospf_passes n (Bgp lp path comms) f = absurd f
ospf_passes n (Ospf x) f = refl

module _ (P : Problem) (good : IsProblem P) (none_lone : HasNoLone P) (ospf : P.protocol ≡ OverOspf) where
  fit : (c : Route) → IsRouteOf P.protocol c → IsRouteOf OverOspf c
  fit c f = subst (λ q. IsRouteOf q c) ospf f

  walk_route : (l : List ℕ) (u : ℕ) (c : Route) → WalkOf P l u c → IsRouteOf P.protocol c
  walk_route [] u c w = good.starts.routes u c w.1
  walk_route (v ∷ l) u c w = Rattle.srp_core.proofs.Steps.step_route P.protocol (act_of P w.0) (number P w.0.exporter) w.1 c (edge_keeps P good w.0 w.2)
      (walk_route l v w.1 w.6) w.5

  over_less : (e : Edge) (b b' c : Route) → Contains P.edges e → IsRouteOf P.protocol b → IsRouteOf P.protocol b' → size_of b' ≤ size_of b →
      step_over P e b ≡ Some c → (c' : Route) × (step_over P e b' ≡ Some c') × (size_of c' ≤ size_of c)
  over_less e b b' c i f f' le s = step_monotone (act_of P e) (number P e.exporter) b b' c (subst (λ q. IsActOf q (act_of P e)) ospf (edge_act P good e i))
      (fit b f) (fit b' f') le s

  record Shorter (u : ℕ) (c : Route) : Type 0 where
    through : List ℕ
    route : Route
    walk : WalkOf P through u route
    apart : Apart (u ∷ through)
    less : size_of route ≤ size_of c

  -- a walk to a router that a walk goes through
  part_of : (l : List ℕ) (v u : ℕ) (b : Route) → WalkOf P l v b → Apart (v ∷ l) → In (v ∷ l) u → Shorter u b
  part_of [] v u b w apart (inl same) = subst (λ x. Shorter x b) same (record { through = []; route = b; walk = w; apart = apart; less = omega arith })
  part_of [] v u b w apart (inr lacking) = absurd lacking
  part_of (x ∷ l) v u b w apart (inl same) = subst (λ y. Shorter y b) same (record { through = x ∷ l; route = b; walk = w; apart = apart; less = omega arith })
  part_of (x ∷ l) v u b w apart (inr later) =
      let p = part_of l x u w.1 w.6 apart.1 later in
      let g = grows P good w.0 w.1 b w.2 w.5 in
      let less = p.less in
      record { through = p.through; route = p.route; walk = p.walk; apart = p.apart; less = omega arith }

  shorten : (l : List ℕ) (u : ℕ) (c : Route) → WalkOf P l u c → Shorter u c
  shorten [] u c w = record { through = []; route = c; walk = w; apart = (λ i. i, tt); less = omega arith }
  shorten (v ∷ l) u c w =
      let s = shorten l v w.1 w.6 in
      let below = s.less in
      let o = over_less w.0 w.1 s.route c w.2 (walk_route l v w.1 w.6) (walk_route s.through v s.route s.walk) s.less w.5 in
      let g = grows P good w.0 w.1 c w.2 w.5 in
      elim (in_or_not (v ∷ s.through) u) [
        | inr lacking ↦ record {
          through = v ∷ s.through;
          route = o.0;
          walk = (w.0, s.route, w.2, w.3, w.4, o.1, s.walk);
          apart = (lacking, s.apart);
          less =
              o.2;
        }
        | inl i ↦ (let p = part_of s.through v u s.route s.walk s.apart i in let less = p.less in
            record { through = p.through; route = p.route; walk = p.walk; apart = p.apart; less = omega arith })
      ]

  walk_inside : (l : List ℕ) (u : ℕ) (c : Route) → WalkOf P l u c → (x : ℕ) → In (u ∷ l) x → x < count P
  walk_inside [] u c w x (inl same) = subst (λ y. y < count P) same w.0
  walk_inside [] u c w x (inr lacking) = absurd lacking
  walk_inside (v ∷ l) u c w x (inl same) = subst (λ y. y < count P) (w.3 ∙ same) (good.edges.inside w.0 w.2).importer_in
  walk_inside (v ∷ l) u c w x (inr later) = walk_inside l v w.1 w.6 x later

  walk_short : (l : List ℕ) (u : ℕ) (c : Route) → WalkOf P l u c → Apart (u ∷ l) → length l < count P
  walk_short l u c w apart =
      let few = counting (range_with_len 0 (count P)) (u ∷ l) 1
      (λ x i. (let inside = walk_inside l u c w x i in let Q : ℕ → Type 0 = λ m. In (range_with_len 0 (count P)) m in let same : 0 + x ≡ x = omega arith in
      subst Q same (in_range 0 (count P) x inside)))
      (λ x. apart_times (u ∷ l) x apart) in
      let total = range_length 0 (count P) in
      omega arith
    where
      range_length : (a n : ℕ) → length (range_with_len a n) ≡ n
      range_length a zero = refl
      range_length a (suc n) = (let r = range_length (a + 1) n in omega arith)

  -- each router has a label that costs no more than any walk through less than so many routers before it
  abbrev HasBest : List (Option Route) → ℕ → ℕ → Type 0
  HasBest E t u = (l : List ℕ) (c : Route) → WalkOf P l u c → Apart (u ∷ l) → length l < t → (b : Route) × (label E u ≡ Some b) × (size_of b ≤ size_of c)

  -- each label is what a walk costs
  abbrev AreWalks : List (Option Route) → Type 0
  AreWalks E = (u : ℕ) (r : Route) → label E u ≡ Some r → (l : List ℕ) × WalkOf P l u r

  candidate_walk : (E : List (Option Route)) (u : ℕ) (c : Route) → u < count P → ((v : ℕ) (r : Route) → label E v ≡ Some r → (l : List ℕ) × WalkOf P l v r) →
      IsCandidate P E u c → (l : List ℕ) × WalkOf P l u c
  candidate_walk E u c h walks (of_init e) = ([], (h, e))
  candidate_walk E u c h walks (of_edge e i imp over) = let w = walks e.exporter over.from over.labelled in
      (e.exporter ∷ w.0, (e, over.from, i, imp, refl, over.stepped, w.1))

  -- what is chosen costs no more than a candidate
  chosen_least : (E : List (Option Route)) (u : ℕ) (c : Route) → AreLabels P E → u < count P → IsCandidate P E u c → (b : Route) × (chosen_label P E u ≡ Some b)
      × (size_of b ≤ size_of c)
  chosen_least E u c fits h cand =
      let some = chosen_there P E u c cand in (
        some.0,
        some.1,
        as_long P good none_lone u some.0 c h (candidate_offer P good E u some.0 fits (chosen_candidate P good E u some.0 some.1))
            (candidate_offer P good E u c fits cand) (chosen_over P E u some.0 c some.1 cand),
      )

  candidate_by : (E : List (Option Route)) (t : ℕ) → AreLabels P E → ((v : ℕ) → HasBest E t v) → (l : List ℕ) (u : ℕ) (c : Route) → WalkOf P l u c →
      Apart (u ∷ l) → length l < t + 1 → (c' : Route) × IsCandidate P E u c' × (size_of c' ≤ size_of c)
  candidate_by E t fits best [] u c w apart less = (c, of_init w.1, omega arith)
  candidate_by E t fits best (v ∷ l) u c w apart less =
      let b = best v l w.1 w.6 apart.1 (omega arith) in
      let o = over_less w.0 w.1 b.0 c w.2 (walk_route l v w.1 w.6) (fits.routes v b.0 b.1) b.2 w.5 in
      let route : IsRouteOf P.protocol o.0 = Rattle.srp_core.proofs.Steps.step_route P.protocol (act_of P w.0) (number P w.0.exporter) b.0 o.0
      (edge_keeps P good w.0 w.2) (fits.routes v b.0 b.1) o.1 in (
        o.0,
        of_edge w.0 w.2 w.3 (record {
          from = b.0;
          labelled = ap (label E) w.4 ∙ b.1;
          stepped = o.1;
          passes =
              ospf_passes (number P w.0.importer) o.0 (fit o.0 route);
        }),
        o.2,
      )

  chosen_by : (E : List (Option Route)) (t : ℕ) → AreLabels P E → ((v : ℕ) → HasBest E t v) → (u : ℕ) → u < count P → (l : List ℕ) (c : Route) →
      WalkOf P l u c → Apart (u ∷ l) → length l < t + 1 → (b : Route) × (label (activated P E u) u ≡ Some b) × (size_of b ≤ size_of c)
  chosen_by E t fits best u h l c w apart less =
      let k = candidate_by E t fits best l u c w apart less in
      let b = chosen_least E u k.0 fits h k.1 in
      let le = k.2 in
      let le' = b.2 in
      let total = fits.total in
      (b.0, activated_here P E u (omega arith) ∙ b.1, omega arith)

  best_kept : (E : List (Option Route)) (t : ℕ) → AreLabels P E → ((v : ℕ) → HasBest E t v) → (u : ℕ) → u < count P → (v : ℕ) → HasBest (activated P E u) t v
  best_kept E t fits best u h v l c w apart less = elim (cases_eq v u) [
    | inl same ↦
        let b = chosen_by E t fits best u h l c (subst (λ x. WalkOf P l x c) same w) (subst (λ x. Apart (x ∷ l)) same apart) (omega arith) in
        (b.0, ap (label (activated P E u)) same ∙ b.1, b.2)
    | inr differ ↦ (let b = best v l c w apart less in (b.0, activated_other P E u v differ ∙ b.1, b.2))
  ]

  record IsWalked (E E' : List (Option Route)) (t : ℕ) (run : List ℕ) : Type 0 where
    fits : AreLabels P E'
    walks : (u : ℕ) (r : Route) → label E' u ≡ Some r → (l : List ℕ) × WalkOf P l u r
    best : (u : ℕ) → HasBest E' t u
    kept : (u : ℕ) → HasBest E (t + 1) u → HasBest E' (t + 1) u
    done : (u : ℕ) → In run u → HasBest E' (t + 1) u

  walked : (t : ℕ) (run : List ℕ) (E : List (Option Route)) → AreLabels P E → ((u : ℕ) (r : Route) → label E u ≡ Some r → (l : List ℕ) × WalkOf P l u r) →
      ((u : ℕ) → HasBest E t u) → ((u : ℕ) → In run u → u < count P) → IsWalked E (labels_after P E run) t run
  walked t [] E fits walks best inside = record { fits = fits; walks = walks; best = best; kept = λ u b. b; done = λ u i. absurd i }
  walked t (v ∷ run) E fits walks best inside =
      let h = inside v (inl refl) in
      let own : HasBest (activated P E v) (t + 1) v = λ l c w apart less. chosen_by E t fits best v h l c w apart less in
      let rest = walked t run (activated P E v) (activated_labels P good E v fits)
      (λ u r e. elim (at_activated P E v u r e) [
        | inl new ↦ subst (λ x. (l : List ℕ) × WalkOf P l x r) (sym new.0) (candidate_walk E v r h walks (chosen_candidate P good E v r new.1))
        | inr old ↦ walks u r old
      ])
      (best_kept E t fits best v h) (λ u i. inside u (inr i)) in
      record {
        fits = rest.fits;
        walks = rest.walks;
        best = rest.best;
        kept = λ u b. rest.kept u (elim (cases_eq u v) [
          | inl same ↦ subst (HasBest (activated P E v) (t + 1)) (sym same) own
          | inr differ ↦ (λ l c w apart less. let k = b l c w apart less in (k.0, activated_other P E v u differ ∙ k.1, k.2))
        ]);
        done = λ u i. elim i [ inl same ↦ rest.kept u (subst (HasBest (activated P E v) (t + 1)) same own) | inr later ↦ rest.done u later ];
      }

  record IsWalkedTo (E : List (Option Route)) (t : ℕ) : Type 0 where
    fits : AreLabels P E
    walks : (u : ℕ) (r : Route) → label E u ≡ Some r → (l : List ℕ) × WalkOf P l u r
    best : (u : ℕ) → HasBest E t u

  rounds_walk : (k t : ℕ) (run : List ℕ) (E : List (Option Route)) → IsWalkedTo E t → ((u : ℕ) → In run u → u < count P) → HasRounds P k run →
      IsWalkedTo (labels_after P E run) (t + k)
  rounds_walk zero t run E now inside has =
      let w = walked t run E now.fits now.walks now.best inside in
      let same : t ≡ t + 0 = omega arith in
      subst (IsWalkedTo (labels_after P E run)) same (record { fits = w.fits; walks = w.walks; best = w.best })
  rounds_walk (suc k) t run E now inside has =
      let w = walked t has.0 E now.fits now.walks now.best (λ u i. inside u (subst (λ (l : List ℕ). In l u) (sym has.2) (in_left has.0 has.1 u i))) in
      let next : IsWalkedTo (labels_after P E has.0) (t + 1) =
      record {
        fits = w.fits;
        walks = w.walks;
        best =
            λ u l c x apart less. w.done u (in_contains has.0 u (has.3 u (walk_inside l u c x u (inl refl)))) l c x apart less;
      } in
      let more = rounds_walk k (t + 1) has.1 (labels_after P E has.0) next
      (λ u i. inside u (subst (λ (l : List ℕ). In l u) (sym has.2) (in_right has.0 has.1 u i))) has.4 in
      let same : t + 1 + k ≡ t + suc k = omega arith in
      subst (IsWalkedTo (labels_after P E run)) same
      (subst (λ (l : List (Option Route)). IsWalkedTo l (t + 1 + k)) (sym (ap (labels_after P E) has.2 ∙ after_append P E has.0 has.1)) more)

  -- where walks through all routers are counted, the labels are stable
  walked_stable : (E : List (Option Route)) (t : ℕ) → IsWalkedTo E t → count P ≤ t → IsStable P E
  walked_stable E t now enough = record {
    fitting = now.fits;
    none = λ u c h e cand. (let b = least u c h cand in let l = b.1 in absurd (cc));
    held = λ u r h e. (let w = now.walks u r e in held u r h e w.0 w.1);
    best = λ u r c h e cand less. (let b = least u c h cand in
        let same : b.0 ≡ r = (let l = b.1 in cc) in
        let back = not_longer (key_of P c) (key_of P r) (zero_both c r (route u c cand) (now.fits.routes u r e)) (not_better (key_of P c) (key_of P r) less) in
        let size = ap size_of same in
        let le = b.2 in
        let one : c ≡ r = ospf_same c r (fit c (route u c cand)) (fit r (now.fits.routes u r e)) (omega arith) in
        irreflexive (key_of P c) (key_of P r) (ap (key_of P) one) less);
  }
    where
      route : (u : ℕ) (c : Route) → IsCandidate P E u c → IsRouteOf P.protocol c
      route u c cand = offer_route P good u c (candidate_offer P good E u c now.fits cand)

      zero_both : (c r : Route) → IsRouteOf P.protocol c → IsRouteOf P.protocol r →
          Rattle.srp_core.specs.Routes.preference_of c ≡ Rattle.srp_core.specs.Routes.preference_of r
      zero_both c r f g = Rattle.srp_core.proofs.Steps.ospf_zero c (fit c f) ∙ sym (Rattle.srp_core.proofs.Steps.ospf_zero r (fit r g))

      by_walk : (l : List ℕ) (u : ℕ) (c : Route) → WalkOf P l u c → (b : Route) × (label E u ≡ Some b) × (size_of b ≤ size_of c)
      by_walk l u c w =
          let s = shorten l u c w in
          let short = walk_short s.through u s.route s.walk s.apart in
          let b = now.best u s.through s.route s.walk s.apart (omega arith) in
          let le = b.2 in
          let less = s.less in
          (b.0, b.1, omega arith)

      least : (u : ℕ) (c : Route) → u < count P → IsCandidate P E u c → (b : Route) × (label E u ≡ Some b) × (size_of b ≤ size_of c)
      least u c h cand = let w = candidate_walk E u c h now.walks cand in by_walk w.0 u c w.1

      held : (u : ℕ) (r : Route) → u < count P → label E u ≡ Some r → (l : List ℕ) → WalkOf P l u r → IsCandidate P E u r
      held u r h e [] w = of_init w.1
      held u r h e (v ∷ l) w =
          let b = by_walk l v w.1 w.6 in
          let o = over_less w.0 w.1 b.0 r w.2 (walk_route l v w.1 w.6) (now.fits.routes v b.0 b.1) b.2 w.5 in
          let path : IsRouteOf P.protocol o.0 = Rattle.srp_core.proofs.Steps.step_route P.protocol (act_of P w.0) (number P w.0.exporter) b.0 o.0
          (edge_keeps P good w.0 w.2) (now.fits.routes v b.0 b.1) o.1 in
          let cand : IsCandidate P E u o.0 = of_edge w.0 w.2 w.3
          (record { from = b.0; labelled = ap (label E) w.4 ∙ b.1; stepped = o.1; passes = ospf_passes (number P w.0.importer) o.0 (fit o.0 path) }) in
          let k = least u o.0 h cand in
          let same : k.0 ≡ r = (let l = k.1 in cc) in
          let size = ap size_of same in
          let le = k.2 in
          let le' = o.2 in
          subst (IsCandidate P E u) (ospf_same o.0 r (fit o.0 path) (fit r (now.fits.routes u r e)) (omega arith)) cand

  -- no labels are what no walk costs
  pub ospf_rounds : (k : ℕ) (run : List ℕ) (E : List (Option Route)) → AreLabels P E → ((u : ℕ) (r : Route) → label E u ≡ Some r → ⊥) →
      ((u : ℕ) → In run u → u < count P) → count P ≤ k → HasRounds P k run → IsStable P (labels_after P E run)
  ospf_rounds k run E fits empty inside enough has =
      let start : IsWalkedTo E 0 = record { fits = fits; walks = λ u r e. absurd (empty u r e); best = λ u l c w apart less. absurd (omega arith) } in
      let end = rounds_walk k 0 run E start inside has in
      walked_stable (labels_after P E run) (0 + k) end (omega arith)
