-- What is left of problems that are alike is alike.
use Rattle.std.proofs.Common.{◌≡◌, ◌≢◌, ℕ, ◌<◌, Bool, true, false, cond, not, ◌&&◌, List, [], ◌∷◌, length, refl, sym, ap, ◌∙◌, subst, inl, inr, arith, ext_get_or, Option, None}
use Rattle.std.specs.Prelude.{Contains, filter, slice_index_or, if◌then◌else◌}
use Rattle.base_kit.specs.declared.act_graph.Edge.{Edge}
use Rattle.base_kit.proofs.Elements.{In, contains_in, in_contains}
use Rattle.srp_core.specs.declared.route.Act.{Act}
use Rattle.srp_core.specs.declared.route.Act.TheVariants.{Cost}
use Rattle.srp_core.specs.declared.route.Route.{Route}
use Rattle.srp_core.specs.Acts.{ActsAlike}
use Rattle.srp_core.specs.Alike.{EdgesAlike, AllEdgesAlike, ProblemsAlike}
use Rattle.srp_core.specs.Problem.{Problem, count, initial, is_lone, act_of, Accepts, IsLone}
use Rattle.srp_core.specs.Without.{Down, is_left, IsWithout}
use Rattle.srp_core.proofs.Alike.{imports_alike, one_start, turned}

found_alike : (A B : Problem) (es fs : List Edge) → AllEdgesAlike A B es fs → (e : Edge) → In es e → (f : Edge) × In fs f × EdgesAlike A B e f
found_alike A B [] fs same e i = absurd i
found_alike A B (d ∷ es) [] same e i = absurd same
found_alike A B (d ∷ es) (f ∷ fs) same e (inl here) = (f, inl refl, subst (λ (x : Edge). EdgesAlike A B x f) here same.0)
found_alike A B (d ∷ es) (f ∷ fs) same e (inr there) = (let m = found_alike A B es fs same.1 e there in (m.0, inr m.1, m.2))

both_true : (b c : Bool) → (b ≡ true → c ≡ true) → (c ≡ true → b ≡ true) → b ≡ c
both_true true c there back = sym (there refl)
both_true false true there back = back refl
both_true false false there back = refl

module _ (P Q : Problem) (same : ProblemsAlike P Q) (d : Down) (A B : Problem) (a : IsWithout P d A) (b : IsWithout Q d B) where
  left_numbers : A.numbers ≡ B.numbers
  left_numbers = a.numbers ∙ same.numbers ∙ sym b.numbers

  left_count : count A ≡ count B
  left_count = ap length left_numbers

  left_start : (u : ℕ) → initial A u ≡ initial B u
  left_start u = a.init u ∙ ap (λ (o : Option Route). if d.routers u then None else o) (one_start P Q same u) ∙ sym (b.init u)

  -- the edges that are left are at the same places
  same_left : (e f : Edge) → EdgesAlike P Q e f → is_left d e ≡ is_left d f
  same_left e f s =
      let link = s.link in
      let importer = s.importer in
      let exporter = s.exporter in
      λ i. not (d.links (link i)) && (not (d.routers (importer i)) && not (d.routers (exporter i)))

  edge_alike : (e f : Edge) → EdgesAlike P Q e f → EdgesAlike A B e f
  edge_alike e f s = record {
    importer = s.importer;
    exporter = s.exporter;
    link = s.link;
    acts = subst (λ (acts : List Act). ActsAlike (slice_index_or acts e.act (Cost 0)) (act_of B f)) (sym a.acts)
        (subst (λ (acts : List Act). ActsAlike (act_of P e) (slice_index_or acts f.act (Cost 0))) (sym b.acts) s.acts);
  }

  left_by : (x y : Bool) (e f : Edge) (es fs : List Edge) → x ≡ y → EdgesAlike A B e f → AllEdgesAlike A B es fs
      → AllEdgesAlike A B (cond x (e ∷ es) es) (cond y (f ∷ fs) fs)
  left_by true true e f es fs s heads rest = (heads, rest)
  left_by true false e f es fs s heads rest = absurd (cc)
  left_by false true e f es fs s heads rest = absurd (cc)
  left_by false false e f es fs s heads rest = rest

  all_left : (es fs : List Edge) → AllEdgesAlike P Q es fs → AllEdgesAlike A B (filter (is_left d) es) (filter (is_left d) fs)
  all_left [] [] s = tt
  all_left [] (f ∷ fs) s = absurd s
  all_left (e ∷ es) [] s = absurd s
  all_left (e ∷ es) (f ∷ fs) s = left_by (is_left d e) (is_left d f) e f (filter (is_left d) es) (filter (is_left d) fs) (same_left e f s.0)
      (edge_alike e f s.0) (all_left es fs s.1)

  left_edges : AllEdgesAlike A B A.edges B.edges
  left_edges = subst (λ (es : List Edge). AllEdgesAlike A B es B.edges) (sym a.edges)
      (subst (λ (fs : List Edge). AllEdgesAlike A B (filter (is_left d) P.edges) fs) (sym b.edges) (all_left P.edges Q.edges same.edges))

  -- ---- lone routers

  accepts : (u preference : ℕ) → Accepts A u preference → Accepts B u preference
  accepts u preference k =
      let m = found_alike A B A.edges B.edges left_edges k.edge (in_contains A.edges k.edge k.edge_in) in
      record {
        edge = m.0;
        edge_in = contains_in B.edges m.0 m.1;
        importer = sym m.2.importer ∙ k.importer;
        comms = k.comms;
        is_set = k.is_set;
        imported = k.imported;
        accepted = sym (imports_alike (act_of A k.edge) (act_of B m.0) m.2.acts k.comms k.is_set) ∙ k.accepted;
        preferred = k.preferred;
      }

  lone_too : (u : ℕ) → IsLone A u → IsLone B u
  lone_too u k = record {
    unoriginated = sym (left_start u) ∙ k.unoriginated;
    first = k.first;
    second = k.second;
    first_accepted = accepts u k.first k.first_accepted;
    second_accepted = accepts u k.second k.second_accepted;
    differ = k.differ;
  }

  marked_too : (u : ℕ) → u < count A → is_lone A u ≡ true → is_lone B u ≡ true
  marked_too u h l = b.rules.marks.all u (subst (λ (k : ℕ). u < k) left_count h) (lone_too u (a.rules.marks.only u h l))

module _ (P Q : Problem) (same : ProblemsAlike P Q) (d : Down) (A B : Problem) (a : IsWithout P d A) (b : IsWithout Q d B) where
  left_lone : A.lone ≡ B.lone
  left_lone =
      let la = a.rules.tables.lone in
      let lb = b.rules.tables.lone in
      let k = left_count P Q same d A B a b in
      ext_get_or false A.lone B.lone (la ∙ k ∙ sym lb)
      (λ u h. both_true (is_lone A u) (is_lone B u) (marked_too P Q same d A B a b u (omega arith))
      (marked_too Q P (turned P Q same) d B A b a u (omega arith)))

  left_init : A.init ≡ B.init
  left_init =
      let la = a.rules.tables.init in
      let lb = b.rules.tables.init in
      let k = left_count P Q same d A B a b in
      ext_get_or None A.init B.init (la ∙ k ∙ sym lb) (λ u h. left_start P Q same d A B a b u)

  pub left_alike : ProblemsAlike A B
  left_alike = record {
    protocol = a.protocol ∙ same.protocol ∙ sym b.protocol;
    names = a.names ∙ same.names ∙ sym b.names;
    numbers = left_numbers P Q same d A B a b;
    init = left_init;
    lone = left_lone;
    edges = left_edges P Q same d A B a b;
  }
