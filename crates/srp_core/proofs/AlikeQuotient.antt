-- Public: what relates a problem to its quotient, and their labels, holds of problems that are alike to
-- both.
use Rattle.std.proofs.Common.{◌≡◌, ℕ, ◌<◌, List, [], sym, ap, ◌∙◌, subst, arith, Option}
use Rattle.std.specs.Prelude.{slice_index_or}
use Rattle.base_kit.specs.declared.act_graph.Edge.{Edge}
use Rattle.srp_core.specs.declared.route.Route.{Route}
use Rattle.srp_core.specs.Alike.{EdgesAlike, ProblemsAlike}
use Rattle.srp_core.specs.Lifts.{TakesFrom, GroupTakes, IsFirstOn, IsLift, IsFold}
use Rattle.srp_core.specs.Problem.{Problem, count, act_of}
use Rattle.srp_core.specs.Quotient.{group_of, first_number, IsUsed, originates, imports, exports, Lies, IsQuotient, Corresponds}
use Rattle.srp_core.specs.Stability.{label, AreLabels, HaveSameKeys, both_none, both_some}
use Rattle.srp_core.proofs.Alike.{turned, match, one_count, one_number, one_start, one_mark, one_key, inside, same_labels, carry_over, same_forwards}
use Rattle.srp_core.proofs.GroupMatching.{alike_sym, alike_trans}

same_used : (P Q : Problem) → ProblemsAlike P Q → (u : ℕ) → IsUsed P u → IsUsed Q u
same_used P Q same u (originates r e) = originates r (sym (one_start P Q same u) ∙ e)
same_used P Q same u (imports e i imp) = (let m = match P Q same e i in imports m.0 m.1 (sym m.2.importer ∙ imp))
same_used P Q same u (exports e i exp) = (let m = match P Q same e i in exports m.0 m.1 (sym m.2.exporter ∙ exp))

pub same_keys : (P P' S S' : Problem) → ProblemsAlike P P' → ProblemsAlike S S' → (a b : Option Route) → HaveSameKeys P S a b → HaveSameKeys P' S' a b
same_keys P P' S S' above below a b (both_none x y) = both_none x y
same_keys P P' S S' above below a b (both_some r s x y k) = both_some r s x y (sym (one_key P P' above r) ∙ k ∙ one_key S S' below s)

module _ (P P' S S' : Problem) (above : ProblemsAlike P P') (below : ProblemsAlike S S') (groups : List ℕ) where
  above_back : ProblemsAlike P' P
  above_back = turned P P' above

  below_back : ProblemsAlike S' S
  below_back = turned S S' below

  lies : (e e' l l' : Edge) → EdgesAlike P P' e e' → EdgesAlike S S' l l' → Lies P S groups e l → Lies P' S' groups e' l'
  lies e e' l l' x y is = record {
    importer = ap (group_of groups) (sym x.importer) ∙ is.importer ∙ y.importer;
    exporter = ap (group_of groups) (sym x.exporter) ∙ is.exporter ∙ y.exporter;
    differ = λ z. is.differ (y.importer ∙ z ∙ sym y.exporter);
    alike = alike_trans (act_of P' e') (act_of P e) (act_of S' l') (alike_sym (act_of P e) (act_of P' e') x.acts)
        (alike_trans (act_of P e) (act_of S l) (act_of S' l') is.alike y.acts);
  }

  turn : (A B : Problem) (e f : Edge) → EdgesAlike A B e f → EdgesAlike B A f e
  turn A B e f x = record { importer = sym x.importer; exporter = sym x.exporter; link = sym x.link; acts = alike_sym (act_of A e) (act_of B f) x.acts }

  inside_of_quotient : (u : ℕ) → count P' ≡ count P → count S ≡ count S' → u < count P' → ((v : ℕ) → v < count P → group_of groups v < count S) →
      group_of groups u < count S'
  inside_of_quotient u p s h inner = subst (λ (k : ℕ). group_of groups u < k) s (inner u (subst (λ (k : ℕ). u < k) p h))

  onto_of_quotient : (g : ℕ) → g < count S' → ((h : ℕ) → h < count S → (u : ℕ) × (u < count P) × (group_of groups u ≡ h)) → (u : ℕ) × (u < count P')
      × (group_of groups u ≡ g)
  onto_of_quotient g h onto = let o = onto g (inside S' S below_back g h) in (o.0, inside P P' above o.0 o.1, o.2)

  pub same_quotient : IsQuotient P groups S → IsQuotient P' groups S'
  same_quotient q = record {
    protocol = sym above.protocol ∙ q.protocol ∙ below.protocol;
    inside = λ u h. inside_of_quotient u (sym (one_count P P' above)) (one_count S S' below) h q.inside;
    onto = λ g h. onto_of_quotient g h q.onto;
    names = λ u h first. ap (λ (l : List (List ℕ)). slice_index_or l (group_of groups u) []) (sym below.names) ∙ q.names u (inside P' P above_back u h) first
        ∙ ap (λ (l : List (List ℕ)). slice_index_or l u []) above.names;
    origins = λ u h. sym (one_start S S' below (group_of groups u)) ∙ q.origins u (inside P' P above_back u h) ∙ one_start P P' above u;
    lone = λ u h. sym (one_mark S S' below (group_of groups u)) ∙ q.lone u (inside P' P above_back u h) ∙ one_mark P P' above u;
    down = λ l' has.
        (let l = match S' S below_back l' has in
        let d = q.down l.0 l.1 in
        let e = match P P' above d.0 d.1 in
        (e.0, e.1, lies d.0 e.0 l.0 l' e.2 (turn S' S l' l.0 l.2) d.2));
    up = λ e' has differ.
        (let e = match P' P above_back e' has in
        let d = q.up e.0 e.1 (λ z. differ (ap (group_of groups) e.2.importer ∙ z ∙ sym (ap (group_of groups) e.2.exporter))) in
        let l = match S S' below d.0 d.1 in
        (l.0, l.1, lies e.0 e' d.0 l.0 (turn P' P e' e.0 e.2) l.2 d.2));
    numbers = λ g h used. sym (one_number S S' below g) ∙ q.numbers g (inside S' S below_back g h) (same_used S' S below_back g used)
        ∙ ap (λ (l : List ℕ). first_number l groups g) above.numbers;
    unused = λ g h used. sym (one_number S S' below g) ∙ q.unused g (inside S' S below_back g h) (λ u. used (same_used S S' below g u));
  }

  pub same_correspond : (L M : List (Option Route)) → AreLabels P L → AreLabels S M → Corresponds P S groups L M → Corresponds P' S' groups L M
  same_correspond L M fit fit' c =
      let over = same_labels P P' above L fit in
      let under = same_labels S S' below M fit' in
      record {
        keys = λ u h. same_keys P P' S S' above below (label L u) (label M (group_of groups u)) (c.keys u (inside P' P above_back u h));
        down = λ u v h f. same_forwards S S' below M fit' (group_of groups u) (group_of groups v)
            (c.down u v (inside P' P above_back u h) (same_forwards P' P above_back L over u v f));
        up = λ u h i f.
            (let k = c.up u h (inside P' P above_back u i) (same_forwards S' S below_back M under (group_of groups u) h f) in
            (k.0, same_forwards P P' above L fit u k.0 k.1, k.2));
      }

  same_first : (A B : Problem) → ProblemsAlike A B → (path : List ℕ) (source : ℕ) → IsFirstOn B path source → IsFirstOn A path source
  same_first A B same path source on = record {
    inside = inside B A (turned A B same) source on.inside;
    number_of = on.number_of;
    rest = on.rest;
    path_is =
        on.path_is;
    numbered = one_number A B same source ∙ on.numbered;
    some_number = on.some_number;
  }

  same_takes : (L : List (Option Route)) → AreLabels P L → (u source : ℕ) (r m : Route) → TakesFrom P S groups L u source r m →
      TakesFrom P' S' groups L u source r m
  same_takes L fit u source r m t =
      let over = same_labels P P' above L fit in
      let e = match P P' above t.edge t.edge_in in
      record {
        edge = e.0;
        edge_in = e.1;
        importer = sym e.2.importer ∙ t.importer;
        exporter = ap (group_of groups) (sym e.2.exporter) ∙ t.exporter;
        over = carry_over P P' above L fit t.edge e.0 e.2 r t.over;
        keyed = sym (one_key P P' above r) ∙ t.keyed ∙ one_key S S' below m;
        least = λ other c has imp exp o k.
            (let d = match P' P above_back other has in
            let all = t.least d.0 c d.1 (sym d.2.importer ∙ imp) (ap (group_of groups) (sym d.2.exporter) ∙ exp)
            (carry_over P' P above_back L over other d.0 d.2 c o) (one_key P P' above c ∙ k ∙ sym (one_key S S' below m)) in
            let x = e.2.exporter in
            let y = d.2.exporter in
            omega arith);
      }

  pub same_lift : (M L : List (Option Route)) → IsLift P S groups M L → IsLift P' S' groups M L
  same_lift M L lift = record {
    fitting = same_labels P P' above L lift.fitting;
    empty = λ u h none. lift.empty u (inside P' P above_back u h) none;
    started = λ u r m h there init. lift.started u r m (inside P' P above_back u h) there (one_start P P' above u ∙ init);
    taken = λ u source m h there none on.
        (let t = lift.taken u source m (inside P' P above_back u h) there (one_start P P' above u ∙ none) (same_first S S' below _ source on) in
        (t.0, t.1, same_takes L lift.fitting u source t.0 m t.2));
  }

  same_group_takes : (M : List (Option Route)) → AreLabels S M → (taker source : ℕ) (m r : Route) → GroupTakes P S M taker source m r →
      GroupTakes P' S' M taker source m r
  same_group_takes M fit taker source m r t =
      let e = match S S' below t.edge t.edge_in in
      record {
        edge = e.0;
        edge_in = e.1;
        importer = sym e.2.importer ∙ t.importer;
        exporter = sym e.2.exporter ∙ t.exporter;
        over = carry_over S S' below M fit t.edge e.0 e.2 m t.over;
        keyed = sym (one_key S S' below m) ∙ t.keyed ∙ one_key P P' above r;
      }

  pub same_fold : (L M : List (Option Route)) → IsFold P S groups L M → IsFold P' S' groups L M
  same_fold L M fold = record {
    fitting = same_labels S S' below M fold.fitting;
    empty = λ u h none. fold.empty u (inside P' P above_back u h) none;
    started = λ u i h init. fold.started u i (inside P' P above_back u h) (one_start P P' above u ∙ init);
    taken = λ u source r h first there none on.
        (let t = fold.taken u source r (inside P' P above_back u h) first there (one_start P P' above u ∙ none) (same_first P P' above _ source on) in
        (t.0, t.1, same_group_takes M fold.fitting (group_of groups u) (group_of groups source) t.0 r t.2));
  }
