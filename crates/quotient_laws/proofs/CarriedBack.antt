-- A partition of the quotient, carried back along the groups, is one of the problem.
use Rattle.std.proofs.Common.{◌≡◌, ◌≢◌, ℕ, zero, suc, ◌<◌, true, List, [], ◌∷◌, map, length, refl, sym, ap, ◌∙◌, arith}
use Rattle.std.specs.Prelude.{Contains}
use Rattle.base_kit.specs.declared.act_graph.Edge.{Edge}
use Rattle.srp_core.specs.Problem.{Problem, count, initial, is_lone, act_of, IsProblem}
use Rattle.srp_core.specs.Quotient.{group_of, Twin, IsAdmissible, IsCoarsest, IsQuotient}
use Rattle.srp_core.proofs.GroupMatching.{alike_sym, alike_trans}
use Rattle.quotient_laws.specs.Laws.{QuotientIsSmallest}

at_map : (f : ℕ → ℕ) (xs : List ℕ) (k : ℕ) → k < length xs → group_of (map f xs) k ≡ f (group_of xs k)
at_map f [] k h = absurd (omega arith)
at_map f (x ∷ xs) zero h = refl
at_map f (x ∷ xs) (suc k) h = at_map f xs k (omega arith)

length_map : (f : ℕ → ℕ) (xs : List ℕ) → length (map f xs) ≡ length xs
length_map f [] = refl
length_map f (x ∷ xs) = ap suc (length_map f xs)

module _ (P Q : Problem) (groups hs : List ℕ) (rules : IsProblem P) (coarsest : IsCoarsest P groups) (q : IsQuotient P groups Q)
    (adm : IsAdmissible Q hs) where
  abbrev of : ℕ → ℕ
  of u = group_of groups u

  abbrev back : List ℕ
  back = map (group_of hs) groups

  back_at : (u : ℕ) → u < count P → group_of back u ≡ group_of hs (of u)
  back_at u h = at_map (group_of hs) groups u (let total = coarsest.admissible.total in omega arith)

  below : (u v : ℕ) → u < count P → v < count P → group_of back u ≡ group_of back v → group_of hs (of u) ≡ group_of hs (of v)
  below u v hu hv one = sym (back_at u hu) ∙ one ∙ back_at v hv

  origins : (u v : ℕ) → u < count P → v < count P → group_of back u ≡ group_of back v → initial P u ≡ initial P v
  origins u v hu hv one = sym (q.origins u hu) ∙ adm.origins (of u) (of v) (q.inside u hu) (q.inside v hv) (below u v hu hv one) ∙ q.origins v hv

  alone : (u v : ℕ) → u < count P → v < count P → group_of back u ≡ group_of back v → is_lone P u ≡ true → u ≡ v
  alone u v hu hv one lone =
      let same : of u ≡ of v = adm.alone (of u) (of v) (q.inside u hu) (q.inside v hv) (below u v hu hv one) (q.lone u hu ∙ lone) in
      coarsest.admissible.alone u v hu hv same lone

  twins : (u v : ℕ) (edge : Edge) → u < count P → v < count P → group_of back u ≡ group_of back v → Contains P.edges edge
      → edge.importer ≡ u → group_of back edge.exporter ≢ group_of back u → Twin P back v edge
  twins u v edge hu hv one has importer out =
      let inside = edge_inside edge has in
      let apart : of edge.importer ≢ of edge.exporter = λ e.
      out (back_at edge.exporter inside.1 ∙ ap (group_of hs) (sym e) ∙ ap (λ w. group_of hs (of w)) importer ∙ sym (back_at u hu)) in
      let low = q.up edge has apart in
      let lies = low.2 in
      let importer_low : low.0.importer ≡ of u = sym lies.importer ∙ ap of importer in
      let out_low : group_of hs low.0.exporter ≢ group_of hs (of u) = λ e.
      out (back_at edge.exporter inside.1 ∙ ap (group_of hs) lies.exporter ∙ e ∙ sym (back_at u hu)) in
      let t = adm.twins (of u) (of v) low.0 (q.inside u hu) (q.inside v hv) (below u v hu hv one) low.1 importer_low out_low in
      let up = q.down t.other t.other_in in
      let over = up.2 in
      let w = up.0.importer in
      let inside_up = edge_inside up.0 up.1 in
      let with_v : of w ≡ of v = over.importer ∙ t.importer in
      let out_up : of up.0.exporter ≢ of w = λ e. over.differ (sym over.importer ∙ sym e ∙ over.exporter) in
      let last = coarsest.admissible.twins w v up.0 inside_up.0 hv with_v up.1 refl out_up in
      let inside_last = edge_inside last.other last.other_in in
      record {
        other = last.other;
        other_in = last.other_in;
        importer = last.importer;
        exporter =
            back_at last.other.exporter inside_last.1 ∙ ap (group_of hs) (last.exporter ∙ over.exporter) ∙ t.exporter
            ∙ ap (group_of hs) (sym lies.exporter) ∙ sym (back_at edge.exporter inside.1);
        alike = alike_trans (act_of P edge) (act_of Q low.0) (act_of P last.other) lies.alike
            (alike_trans (act_of Q low.0) (act_of Q t.other) (act_of P last.other) t.alike
            (alike_trans (act_of Q t.other) (act_of P up.0) (act_of P last.other) (alike_sym (act_of P up.0) (act_of Q t.other) over.alike) last.alike));
      }
    where
      edge_inside : (e : Edge) → Contains P.edges e → (e.importer < count P) × (e.exporter < count P)
      edge_inside e has = (let e_in = rules.edges.inside e has in (e_in.importer_in, e_in.exporter_in))

  carried_back : IsAdmissible P back
  carried_back = record { total = length_map (group_of hs) groups ∙ coarsest.admissible.total; origins = origins; alone = alone; twins = twins }

  single : (g h : ℕ) → g < count Q → h < count Q → group_of hs g ≡ group_of hs h → g ≡ h
  single g h hg hh one =
      let a = q.onto g hg in
      let b = q.onto h hh in
      let together : group_of back a.0 ≡ group_of back b.0 =
      back_at a.0 a.1 ∙ ap (group_of hs) a.2 ∙ one ∙ ap (group_of hs) (sym b.2) ∙ sym (back_at b.0 b.1) in
      sym a.2 ∙ coarsest.refined back carried_back a.0 b.0 a.1 b.1 together ∙ b.2

pub quotient_is_smallest : QuotientIsSmallest
quotient_is_smallest problem small groups others rules small_rules coarsest quotient admissible =
    single problem small groups others rules coarsest quotient admissible
