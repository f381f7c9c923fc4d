-- A problem and its quotient.
use Rattle.std.proofs.Common.{◌≡◌, ◌≢◌, ◌⊎◌, ℕ, suc, ◌<◌, true, false, cond, not, List, [], ◌∷◌, length, Option, Some, refl, sym, ap, ◌∙◌, subst, inl, inr, arith}
use Rattle.std.specs.Prelude.{Contains, nat_eq, ◌&&◌, slice_index}
use Rattle.std.proofs.lemmas.Bool.{cases_Bool, cases_eq, and_parts, eqb-true}
use Rattle.srp_core.specs.declared.route.Route.{Route}
use Rattle.base_kit.specs.declared.act_graph.Edge.{Edge}
use Rattle.srp_core.specs.declared.route.Act.{Act}
use Rattle.srp_core.specs.declared.route.Act.TheVariants.{Import, Cost}
use Rattle.srp_core.specs.Routes.{size_of}
use Rattle.srp_core.specs.Acts.{ActsAlike}
use Rattle.srp_core.specs.Problem.{Problem, count, number, initial, is_lone, act_of, key_of, IsProblem}
use Rattle.srp_core.specs.Stability.{label, IsStable, ForwardsTo, HaveSameKeys, both_none, both_some}
use Rattle.srp_core.specs.Quotient.{group_of, IsAdmissible, first_number, IsUsed, imports, IsQuotient, Corresponds}
use Rattle.srp_core.specs.Laws.{Below, Above}
use Rattle.srp_core.proofs.Offers.{cases_label, lone_bgp}
use Rattle.srp_core.proofs.Matching.{Partner, IsInner, IsMatching, converse, Held}
use Rattle.srp_core.proofs.EqualKeys.{even}
use Rattle.srp_core.proofs.Filling.{IsTied, IsEven, solved}
use Rattle.srp_core.proofs.Forwarding.{forwarded}

pub alike_sym : (x y : Act) → ActsAlike x y → ActsAlike y x
alike_sym (Import lp adds denied) (Import lp' adds' denied') h = record { same = λ s i. sym (h.same s i) }
alike_sym (Import lp adds denied) (Cost cost) h = h
alike_sym (Cost cost) (Import lp adds denied) h = h
alike_sym (Cost cost) (Cost other) h = sym h

pub alike_trans : (x y z : Act) → ActsAlike x y → ActsAlike y z → ActsAlike x z
alike_trans (Import a b c) (Import a' b' c') (Import a'' b'' c'') h g = record { same = λ s i. h.same s i ∙ g.same s i }
alike_trans (Cost a) (Cost b) (Cost c) h g = h ∙ g
alike_trans (Import a b c) (Cost d) z h g = absurd h
alike_trans (Import a b c) (Import a' b' c') (Cost d) h g = absurd g
alike_trans (Cost a) (Import b c d) z h g = absurd h
alike_trans (Cost a) (Cost b) (Import c d e) h g = absurd g

pub record Member (numbers groups : List ℕ) (wanted : ℕ) : Type 0 where
  pub router : ℕ
  pub inside : router < length numbers
  pub of_group : slice_index groups router ≡ wanted
  pub numbered : slice_index numbers router ≡ first_number numbers groups wanted

pub member : (numbers groups : List ℕ) (wanted : ℕ) → first_number numbers groups wanted ≢ 0 → Member numbers groups wanted
unfolding first_number
member [] groups wanted h = absurd (h refl)
member (n ∷ numbers) [] wanted h = absurd (h refl)
member (n ∷ numbers) (g ∷ groups) wanted h =
    elim (cases_Bool (nat_eq g wanted && not (nat_eq n 0))) [
      | inl t ↦ record {
        router = 0;
        inside = omega arith;
        of_group = eqb-true g wanted (and_parts (nat_eq g wanted) (not (nat_eq n 0)) t).0;
        numbered =
            sym (ap (λ b. cond b n (first_number numbers groups wanted)) t);
      }
      | inr f ↦
          let e : first_number (n ∷ numbers) (g ∷ groups) wanted ≡ first_number numbers groups wanted =
          ap (λ b. cond b n (first_number numbers groups wanted)) f in
          let r = member numbers groups wanted (λ z. h (e ∙ z)) in
          record { router = suc r.router; inside = (let i = r.inside in omega (arith, i)); of_group = r.of_group; numbered = r.numbered ∙ sym e }
    ]

pub record IsIn (S : Problem) (groups : List ℕ) (u g : ℕ) : Type 0 where
  pub inside : u < count S
  pub of_group : group_of groups u ≡ g

pub record AreTogether (S : Problem) (groups : List ℕ) (u v : ℕ) : Type 0 where
  pub left : u < count S
  pub right : v < count S
  pub same : group_of groups u ≡ group_of groups v

module _ (S : Problem) (good : IsProblem S) (groups : List ℕ) (adm : IsAdmissible S groups) where
  pub not_lone_inside : (u : ℕ) (e : Edge) → u < count S → Contains S.edges e → e.importer ≡ u → group_of groups e.exporter ≡ group_of groups u →
      is_lone S u ≡ false
  not_lone_inside u e h i imp same = elim (cases_Bool (is_lone S u)) [
    | inr f ↦ f
    | inl t ↦ absurd ((good.edges.inside e i).differ (imp ∙ adm.alone u e.exporter h (good.edges.inside e i).exporter_in (sym same) t))
  ]

  together_forth : (u v : ℕ) (e : Edge) → AreTogether S groups u v → Contains S.edges e → e.importer ≡ u → Partner S S (AreTogether S groups) v e
      ⊎ IsInner S (AreTogether S groups) u v e
  together_forth u v e x i imp =
      let ge = good.edges.inside e i in
      elim (cases_eq (group_of groups e.exporter) (group_of groups u)) [
        | inl same ↦ inr (record {
          not_lone = not_lone_inside u e x.left i imp same;
          inner =
              record { left = ge.exporter_in; right = x.right; same = same ∙ x.same };
        })
        | inr differ ↦
            let t = adm.twins u v e x.left x.right x.same i imp differ in
            inl (record {
              other = t.other;
              other_in = t.other_in;
              importer = t.importer;
              exporter =
                  record { left = ge.exporter_in; right = (good.edges.inside t.other t.other_in).exporter_in; same = sym t.exporter };
              alike = t.alike;
            })
      ]

  turn : (u v : ℕ) → AreTogether S groups u v → AreTogether S groups v u
  turn u v x = record { left = x.right; right = x.left; same = sym x.same }

  together_back : (u v : ℕ) (e : Edge) → AreTogether S groups u v → Contains S.edges e → e.importer ≡ v → Partner S S (λ x y. AreTogether S groups y x) u e
      ⊎ IsInner S (λ x y. AreTogether S groups y x) v u e
  together_back u v e x i imp = elim (together_forth v u e (turn u v x) i imp) [
    | inl p ↦ inl (record { other = p.other; other_in = p.other_in; importer = p.importer; exporter = turn _ _ p.exporter; alike = p.alike })
    | inr n ↦ inr (record { not_lone = n.not_lone; inner = turn _ _ n.inner })
  ]

  together_lone : (u v : ℕ) → AreTogether S groups u v → is_lone S u ≡ true → is_lone S v ≡ true
  together_lone u v x t = subst (λ w. is_lone S w ≡ true) (adm.alone u v x.left x.right x.same t) t

  pub together : IsMatching S S (AreTogether S groups)
  together = record {
    protocol = refl;
    left_in = λ u v x. x.left;
    right_in = λ u v x. x.right;
    origins = λ u v x. adm.origins u v x.left x.right x.same;
    lone = λ u v x. elim (cases_Bool (is_lone S u)) [
      | inl t ↦ t ∙ sym (together_lone u v x t)
      | inr f ↦ elim (cases_Bool (is_lone S v)) [ inl t ↦ together_lone v u (turn u v x) t ∙ sym t | inr f' ↦ f ∙ sym f' ]
    ];
    numbers = λ u v x t. ap (number S) (adm.alone u v x.left x.right x.same t);
    forth = together_forth;
    back = together_back;
    left = λ u h. (u, record { left = h; right = h; same = refl });
    right = λ u h. (u, record { left = h; right = h; same = refl });
  }

  pub equal_held : (L : List (Option Route)) → IsStable S L → (u v : ℕ) (r : Route) → AreTogether S groups u v → label L u ≡ Some r → Held S L v (key_of S r)
  equal_held L st u v r x e = even S (AreTogether S groups) together turn good L st (suc (size_of r)) u v r (omega arith) x e

  pub equal_keys : (L : List (Option Route)) → IsStable S L → (u v : ℕ) → AreTogether S groups u v → HaveSameKeys S S (label L u) (label L v)
  equal_keys L st u v x = elim (cases_label (label L u)) [
    | inr full ↦ let h = equal_held L st u v full.0 x full.1 in both_some full.0 h.route full.1 h.labelled (sym h.keyed)
    | inl empty ↦ elim (cases_label (label L v)) [
      | inl empty' ↦ both_none empty empty'
      | inr full ↦ let h = equal_held L st v u full.0 (turn u v x) full.1 in let lh = h.labelled in absurd (cc)
    ]
  ]

  module _ (Q : Problem) (goodq : IsProblem Q) (q : IsQuotient S groups Q) where
    lone_number : (u g : ℕ) → IsIn S groups u g → is_lone S u ≡ true → number S u ≡ number Q g
    lone_number u g x t =
        let inside : g < count Q = subst (λ h. h < count Q) x.of_group (q.inside u x.inside) in
        let lone : is_lone Q g ≡ true = ap (is_lone Q) (sym x.of_group) ∙ q.lone u x.inside ∙ t in
        let a = (goodq.marks.only g inside lone).first_accepted in
        let used : IsUsed Q g = imports a.edge a.edge_in a.importer in
        let n = q.numbers g inside used in
        let some_number : number Q g ≢ 0 = subst (λ w. number Q w ≢ 0) a.importer ((goodq.numbers (lone_bgp Q goodq g inside lone)).importers a.edge a.edge_in)
        in
        let k = member S.numbers groups g (λ z. some_number (n ∙ z)) in
        let same : u ≡ k.router = adm.alone u k.router x.inside k.inside (x.of_group ∙ sym k.of_group) t in
        ap (number S) same ∙ k.numbered ∙ sym n

    quotient_forth : (u g : ℕ) (e : Edge) → IsIn S groups u g → Contains S.edges e → e.importer ≡ u → Partner S Q (IsIn S groups) g e
        ⊎ IsInner S (IsIn S groups) u g e
    quotient_forth u g e x i imp =
        let ge = good.edges.inside e i in
        let here : group_of groups e.importer ≡ g = ap (group_of groups) imp ∙ x.of_group in
        elim (cases_eq (group_of groups e.exporter) g) [
          | inl same ↦ inr (record {
            not_lone = not_lone_inside u e x.inside i imp (same ∙ sym x.of_group);
            inner =
                record { inside = ge.exporter_in; of_group = same };
          })
          | inr differ ↦
              let d = q.up e i (λ z. differ (sym z ∙ here)) in
              inl (record {
                other = d.0;
                other_in = d.1;
                importer = sym d.2.importer ∙ here;
                exporter =
                    record { inside = ge.exporter_in; of_group = d.2.exporter };
                alike = d.2.alike;
              })
        ]

    quotient_back : (u g : ℕ) (e : Edge) → IsIn S groups u g → Contains Q.edges e → e.importer ≡ g → Partner Q S (λ h w. IsIn S groups w h) u e
        ⊎ IsInner Q (λ h w. IsIn S groups w h) g u e
    quotient_back u g e x i imp =
        let d = q.down e i in
        let gd = good.edges.inside d.0 d.1 in
        let differ : group_of groups d.0.exporter ≢ group_of groups d.0.importer =
        λ z. (goodq.edges.inside e i).differ (sym d.2.importer ∙ sym z ∙ d.2.exporter) in
        let t = adm.twins d.0.importer u d.0 gd.importer_in x.inside (d.2.importer ∙ imp ∙ sym x.of_group) d.1 refl differ in
        inl (record {
          other = t.other;
          other_in = t.other_in;
          importer = t.importer;
          exporter =
              record { inside = (good.edges.inside t.other t.other_in).exporter_in; of_group = t.exporter ∙ d.2.exporter };
          alike =
              alike_trans (act_of Q e) (act_of S d.0) (act_of S t.other) (alike_sym (act_of S d.0) (act_of Q e) d.2.alike) t.alike;
        })

    pub quotient_matching : IsMatching S Q (IsIn S groups)
    quotient_matching = record {
      protocol = q.protocol;
      left_in = λ u g x. x.inside;
      right_in = λ u g x. subst (λ h. h < count Q) x.of_group (q.inside u x.inside);
      origins = λ u g x. sym (q.origins u x.inside) ∙ ap (initial Q) x.of_group;
      lone = λ u g x. sym (q.lone u x.inside) ∙ ap (is_lone Q) x.of_group;
      numbers = lone_number;
      forth = quotient_forth;
      back = quotient_back;
      left = λ u h. (group_of groups u, record { inside = h; of_group = refl });
      right = λ g h. (let o = q.onto g h in (o.0, record { inside = o.1; of_group = o.2 }));
    }

    pub correspond : (L M : List (Option Route)) → IsStable S L → IsStable Q M → IsTied S Q (IsIn S groups) L M → IsTied Q S (λ h w. IsIn S groups w h) M L →
        Corresponds S Q groups L M
    correspond L M stl stm down up = record {
      keys = λ u h. (let x : IsIn S groups u (group_of groups u) = record { inside = h; of_group = refl } in
          elim (cases_label (label L u)) [
            | inr full ↦ let k = down.held u (group_of groups u) full.0 x full.1 in both_some full.0 k.route full.1 k.labelled (sym k.keyed)
            | inl empty ↦ elim (cases_label (label M (group_of groups u))) [
              | inl empty' ↦ both_none empty empty'
              | inr full ↦ let k = up.held (group_of groups u) u full.0 x full.1 in let lk = k.labelled in absurd (cc)
            ]
          ]);
      down = λ u v h f. (let x : IsIn S groups u (group_of groups u) = record { inside = h; of_group = refl } in
          let w = forwarded S Q (IsIn S groups) quotient_matching good goodq M stm L stl down up u (group_of groups u) v x f in
          subst (ForwardsTo Q M (group_of groups u)) (sym w.2.of_group) w.1);
      up = λ u g h f. (let x : IsIn S groups u (group_of groups u) = record { inside = h; of_group = refl } in
          let w = forwarded Q S (λ a b. IsIn S groups b a) (converse S Q (IsIn S groups) quotient_matching) goodq good L stl M stm up down (group_of groups u) u
          g x f in
          (w.0, w.1, w.2.of_group));
    }

    pub below : (L : List (Option Route)) → IsStable S L → Below S Q groups L
    below L st =
        let even : IsEven S (λ g u. IsIn S groups u g) L =
        record { held = λ g u u' r x x' e. equal_held L st u u' r (record { left = x.inside; right = x'.inside; same = x.of_group ∙ sym x'.of_group }) e }
        in
        let s = solved Q S (λ g u. IsIn S groups u g) (converse S Q (IsIn S groups) quotient_matching) goodq good L st even in
        record { lower = s.labels; stable = s.stable; correspond = correspond L s.labels st s.stable s.up s.down }

    pub above : (M : List (Option Route)) → IsStable Q M → Above S Q groups M
    above M st =
        let even : IsEven Q (IsIn S groups) M = record {
          held = λ u g g' r x x' e. (let same : g ≡ g' = sym x.of_group ∙ x'.of_group in
              record { route = r; labelled = subst (λ h. label M h ≡ Some r) same e; keyed = refl });
        } in
        let s = solved S Q (IsIn S groups) quotient_matching good goodq M st even in
        record { labels = s.labels; stable = s.stable; correspond = correspond s.labels M s.stable st s.down s.up }
