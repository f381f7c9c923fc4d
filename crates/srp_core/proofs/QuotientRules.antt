-- A quotient keeps the rules of a problem.
use Rattle.std.proofs.Common.{◌≡◌, ◌≢◌, ℕ, ◌<◌, true, All, List, length, Some, None, refl, sym, ap, ◌∙◌, subst, inl, inr, arith}
use Rattle.std.specs.Prelude.{slice_index_or}
use Rattle.std.proofs.lemmas.Bool.{cases_eq, cases_lt}
use Rattle.std.proofs.lemmas.List.{get_or_past}
use Rattle.base_kit.specs.declared.protocol.Protocol.TheVariants.{Bgp as OverBgp}
use Rattle.srp_core.specs.declared.route.Route.{Route}
use Rattle.srp_core.specs.declared.route.Act.{Act}
use Rattle.srp_core.specs.declared.route.Act.TheVariants.{Cost}
use Rattle.srp_core.specs.Routes.{IsRouteOf}
use Rattle.srp_core.specs.Acts.{ActsAlike, IsActOf, KeepsSets}
use Rattle.srp_core.specs.Problem.{Problem, count, number, initial, is_lone, act_of, IsProblem, Accepts, IsLone}
use Rattle.srp_core.specs.Quotient.{group_of, IsAdmissible, IsUsed, originates, imports, exports, IsQuotient, KeepsTables}
use Rattle.srp_core.proofs.Steps.{alike_accepts}
use Rattle.srp_core.proofs.GroupMatching.{Member, member, alike_sym, alike_trans, not_lone_inside}
use Rattle.srp_core.proofs.Chains.{first_some}

module _ (S : Problem) (good : IsProblem S) (groups : List ℕ) (adm : IsAdmissible S groups) (Q : Problem) (q : IsQuotient S groups Q) (made : KeepsTables S Q)
  where
    from_bgp : Q.protocol ≡ OverBgp → S.protocol ≡ OverBgp
    from_bgp e = q.protocol ∙ e

    initial_in : (g : ℕ) (r : Route) → initial Q g ≡ Some r → g < count Q
    initial_in g r e = elim (cases_lt g (length Q.init)) [
      | inl h ↦ (let t = made.tables.init in omega arith)
      | inr h ↦ (let p : initial Q g ≡ None = get_or_past Q.init g None h in absurd (cc))
    ]

    -- the initial route of a group is that of a member
    from_member : (g : ℕ) (r : Route) → initial Q g ≡ Some r → (u : ℕ) × (u < count S) × (group_of groups u ≡ g) × (initial S u ≡ Some r)
    from_member g r e =
        let o = q.onto g (initial_in g r e) in
        (o.0, o.1, o.2, sym (q.origins o.0 o.1) ∙ ap (initial Q) o.2 ∙ e)

    -- a group that is used has a number
    has_number : Q.protocol ≡ OverBgp → (g : ℕ) → g < count Q → IsUsed Q g → number Q g ≢ 0
    has_number p g h used = λ z. some_member used
        (λ u inside of_group n. first_some S good groups adm S.numbers groups u g inside adm.total of_group n (sym (q.numbers g h used) ∙ z))
      where
        some_member : IsUsed Q g → ((u : ℕ) → u < count S → group_of groups u ≡ g → number S u ≢ 0 → ⊥) → ⊥
        some_member (originates r e) k = let m = from_member g r e in k m.0 m.1 m.2 ((good.numbers (from_bgp p)).originators m.0 r m.3)
        some_member (imports e i imp) k = let d = q.down e i in
            k d.0.importer (good.edges.inside d.0 d.1).importer_in (d.2.importer ∙ imp) ((good.numbers (from_bgp p)).importers d.0 d.1)
        some_member (exports e i exp) k = let d = q.down e i in
            k d.0.exporter (good.edges.inside d.0 d.1).exporter_in (d.2.exporter ∙ exp) ((good.numbers (from_bgp p)).exporters d.0 d.1)

    -- a group with a number has that of a member
    numbered_member : (g : ℕ) → g < count Q → IsUsed Q g → number Q g ≢ 0 → Member S.numbers groups g
    numbered_member g h used n = member S.numbers groups g (λ z. n (q.numbers g h used ∙ z))

    distinct : Q.protocol ≡ OverBgp → (g h : ℕ) → g < count Q → h < count Q → number Q g ≡ number Q h → number Q g ≢ 0 → g ≡ h
    distinct p g h ig ih same n = elim (cases_eq g h) [
      | inl e ↦ e
      | inr differ ↦ absurd (n (q.unused g ig (λ ug. n (same ∙ q.unused h ih (λ uh.
          let nh : number Q h ≢ 0 = λ z. n (same ∙ z) in
          let a = numbered_member g ig ug n in
          let b = numbered_member h ih uh nh in
          let na : number S a.router ≡ number Q g = a.numbered ∙ sym (q.numbers g ig ug) in
          let nb : number S b.router ≡ number Q h = b.numbered ∙ sym (q.numbers h ih uh) in
          let routers : a.router ≡ b.router = (good.numbers (from_bgp p)).distinct a.router b.router a.inside b.inside (na ∙ same ∙ sym nb)
          (λ z. n (sym na ∙ z))
          in
          differ (sym a.of_group ∙ ap (group_of groups) routers ∙ b.of_group))))))
    ]

    accepts_down : (u x : ℕ) → u < count S → is_lone S u ≡ true → Accepts S u x → Accepts Q (group_of groups u) x
    accepts_down u x h t a =
        let differ : group_of groups a.edge.importer ≢ group_of groups a.edge.exporter = λ z.
        (let f = not_lone_inside S good groups adm u a.edge h a.edge_in a.importer (sym z ∙ ap (group_of groups) a.importer) in cc) in
        let d = q.up a.edge a.edge_in differ in
        record {
          edge = d.0;
          edge_in = d.1;
          importer = sym d.2.importer ∙ ap (group_of groups) a.importer;
          comms = a.comms;
          is_set = a.is_set;
          imported =
              a.imported;
          accepted = alike_accepts (act_of S a.edge) (act_of Q d.0) a.comms a.imported d.2.alike a.is_set a.accepted;
          preferred = a.preferred;
        }

    accepts_up : (u x : ℕ) → u < count S → Accepts Q (group_of groups u) x → Accepts S u x
    accepts_up u x h a =
        let d = q.down a.edge a.edge_in in
        let gd = good.edges.inside d.0 d.1 in
        let differ : group_of groups d.0.exporter ≢ group_of groups d.0.importer =
        λ z. (made.edges.inside a.edge a.edge_in).differ (sym d.2.importer ∙ sym z ∙ d.2.exporter) in
        let t = adm.twins d.0.importer u d.0 gd.importer_in h (d.2.importer ∙ a.importer) d.1 refl differ in
        let alike = alike_trans (act_of Q a.edge) (act_of S d.0) (act_of S t.other) (alike_sym (act_of S d.0) (act_of Q a.edge) d.2.alike) t.alike in
        record {
          edge = t.other;
          edge_in = t.other_in;
          importer = t.importer;
          comms = a.comms;
          is_set = a.is_set;
          imported = a.imported;
          accepted =
              alike_accepts (act_of Q a.edge) (act_of S t.other) a.comms a.imported alike a.is_set a.accepted;
          preferred = a.preferred;
        }

    pub quotient_problem : IsProblem Q
    quotient_problem = record {
      tables = made.tables;
      edges = made.edges;
      acts = record {
        fit = subst (λ (l : List Act). All (IsActOf Q.protocol) l) (sym made.acts) (subst (λ p. All (IsActOf p) S.acts) q.protocol good.acts.fit);
        keep = subst (All KeepsSets) (sym made.acts) good.acts.keep;
        differ = subst (λ (l : List Act). (i j : ℕ) → i < length l → j < length l → ActsAlike (slice_index_or l i (Cost 0)) (slice_index_or l j (Cost 0))
            → i ≡ j)
            (sym made.acts) good.acts.differ;
      };
      starts = record {
        routes = λ g r e. (let m = from_member g r e in subst (λ p. IsRouteOf p r) q.protocol (good.starts.routes m.0 r m.3));
        paths = λ g r e. (let m = from_member g r e in good.starts.paths m.0 r m.3);
        bare = λ g r e. (let m = from_member g r e in good.starts.bare m.0 r m.3);
        unoriginated = λ p e i. (let d = q.down e i in ap (initial Q) (sym d.2.importer) ∙ q.origins d.0.importer (good.edges.inside d.0 d.1).importer_in
            ∙ good.starts.unoriginated (from_bgp p) d.0 d.1);
      };
      numbers = λ p. record {
        originators = λ g r e. has_number p g (initial_in g r e) (originates r e);
        importers = λ e i. has_number p e.importer (made.edges.inside e i).importer_in (imports e i refl);
        exporters = λ e i. has_number p e.exporter (made.edges.inside e i).exporter_in (exports e i refl);
        distinct = distinct p;
      };
      marks = record {
        only = λ g h t. (let o = q.onto g h in
            let l : is_lone S o.0 ≡ true = sym (q.lone o.0 o.1) ∙ ap (is_lone Q) o.2 ∙ t in
            let lone = good.marks.only o.0 o.1 l in
            let at = λ (x : ℕ) (a : Accepts S o.0 x). subst (λ w. Accepts Q w x) o.2 (accepts_down o.0 x o.1 l a) in
            record {
              unoriginated = ap (initial Q) (sym o.2) ∙ q.origins o.0 o.1 ∙ lone.unoriginated;
              first = lone.first;
              second = lone.second;
              first_accepted =
                  at lone.first lone.first_accepted;
              second_accepted = at lone.second lone.second_accepted;
              differ = lone.differ;
            });
        all = λ g h lone. (let o = q.onto g h in
            let at = λ (x : ℕ) (a : Accepts Q g x). accepts_up o.0 x o.1 (subst (λ w. Accepts Q w x) (sym o.2) a) in
            let l : IsLone S o.0 = record {
              unoriginated = sym (q.origins o.0 o.1) ∙ ap (initial Q) o.2 ∙ lone.unoriginated;
              first = lone.first;
              second =
                  lone.second;
              first_accepted = at lone.first lone.first_accepted;
              second_accepted = at lone.second lone.second_accepted;
              differ = lone.differ;
            } in
            ap (is_lone Q) (sym o.2) ∙ q.lone o.0 o.1 ∙ good.marks.all o.0 o.1 l);
      };
    }
