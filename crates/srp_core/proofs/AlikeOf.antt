-- Public: two problems of one network and prefix are alike.
use Rattle.std.proofs.Common.{◌≡◌, ℕ, ◌<◌, Bool, true, false, All, List, [], ◌∷◌, length, refl, sym, ap, ◌∙◌, subst, inl, inr, arith, ext_get_or, Option, None}
use Rattle.std.specs.Prelude.{Contains, slice_index_or}
use Rattle.base_kit.specs.declared.protocol.Protocol.{Protocol}
use Rattle.base_kit.specs.declared.protocol.Protocol.TheVariants.{Bgp as OverBgp, Ospf as OverOspf}
use Rattle.base_kit.specs.declared.act_graph.Edge.{Edge}
use Rattle.base_kit.specs.Prefixes.{Prefix}
use Rattle.base_kit.proofs.Elements.{In, contains_in, in_contains}
use Rattle.cfg_ast.specs.declared.network.Network.{Network}
use Rattle.route_maps.specs.declared.plain.Plain.{Plain}
use Rattle.route_maps.specs.Sessions.{session_import}
use Rattle.srp_core.specs.declared.route.Act.{Act}
use Rattle.srp_core.specs.declared.route.Act.TheVariants.{Import, Cost}
use Rattle.srp_core.specs.Acts.{ActsAlike, IsActOf, import_by}
use Rattle.srp_core.specs.Alike.{EdgesAlike, AllEdgesAlike, ProblemsAlike}
use Rattle.srp_core.specs.declared.route.Route.{Route}
use Rattle.srp_core.specs.Problem.{Problem, count, is_lone, act_of, Accepts, IsLone, Precedes, AreOrdered}
use Rattle.srp_core.specs.ProblemOf.{SessionEnds, Direction, MeansLink, IsEdgeDirection, IsProblemOf}
use Rattle.srp_core.proofs.Alike.{imports_alike}
use Rattle.srp_core.proofs.GroupMatching.{alike_sym}
use Rattle.srp_core.proofs.Offers.{edge_act}

all_in : {X : Type 0} (P : X → Type 0) (xs : List X) (x : X) → All P xs → In xs x → P x
all_in P xs x all i = let c = contains_in xs x i in subst P c.2 (all c.0 x c.1)

-- both ends of a direction are determined
same_import : (n : Network) (p : Prefix) (d : Direction) (s t : SessionEnds n d) (comms : List ℕ)
    → session_import p s.exporter s.exporter_line s.importer s.importer_line comms ≡ session_import p t.exporter t.exporter_line t.importer t.importer_line
    comms
same_import n p d s t comms =
    let e : s.exporter ≡ t.exporter = cc (s.exporter_at, t.exporter_at) in
    let i : s.importer ≡ t.importer = cc (s.importer_at, t.importer_at) in
    let el : s.exporter_line ≡ t.exporter_line = cc (s.exporter_line_at, t.exporter_line_at, e) in
    let il : s.importer_line ≡ t.importer_line = cc (s.importer_line_at, t.importer_line_at, i) in
    λ j. session_import p (e j) (el j) (i j) (il j) comms

one_protocol : (q : Protocol) (out into : Plain) (sends : Bool) (cost : ℕ) → IsActOf q (Import out sends into) → IsActOf q (Cost cost) → ⊥
one_protocol OverBgp out into sends cost a b = b
one_protocol OverOspf out into sends cost a b = a

-- acts that mean the same direction act alike
pub means_alike : (n : Network) (p : Prefix) (q : Protocol) (d : Direction) (x y : Act) → IsActOf q x → IsActOf q y → MeansLink n p d x → MeansLink n p d y →
    ActsAlike x y
unfolding import_by
means_alike n p q d (Import out sends into) (Import out' sends' into') a b m m' =
    record { same = λ comms set. m.same comms set ∙ same_import n p d m.ends m'.ends comms ∙ sym (m'.same comms set) }
means_alike n p q d (Import out sends into) (Cost cost) a b m m' = one_protocol q out into sends cost a b
means_alike n p q d (Cost cost) (Import out sends into) a b m m' = one_protocol q out into sends cost b a
means_alike n p q d (Cost cost) (Cost other) a b m m' =
    let i : m.importer ≡ m'.importer = cc (m.importer_at, m'.importer_at) in
    cc (m.same, m'.same, i)

-- edges at one place of a link do not precede each other
never_before : (P Q : Problem) (d e f : Edge) → EdgesAlike P Q d f → EdgesAlike P Q e f → Precedes d e → ⊥
never_before P Q d e f a b (inl importers) = (let x = a.importer in let y = b.importer in omega arith)
never_before P Q d e f a b (inr (i, inl exporters)) = (let x = a.exporter in let y = b.exporter in omega arith)
never_before P Q d e f a b (inr (i, inr (j, links))) = (let x = a.link in let y = b.link in omega arith)

never_after : (P Q : Problem) (e f g : Edge) → EdgesAlike P Q e f → EdgesAlike P Q e g → Precedes f g → ⊥
never_after P Q e f g a b (inl importers) = (let x = a.importer in let y = b.importer in omega arith)
never_after P Q e f g a b (inr (i, inl exporters)) = (let x = a.exporter in let y = b.exporter in omega arith)
never_after P Q e f g a b (inr (i, inr (j, links))) = (let x = a.link in let y = b.link in omega arith)

-- of edges that are alike in pairs, both pairs stand in one order
no_cross : (P Q : Problem) (d e : Edge) (f g : Edge) → EdgesAlike P Q d g → EdgesAlike P Q e f → Precedes d e → Precedes f g → ⊥
no_cross P Q d e f g a b x y =
    let ai = a.importer in let ae = a.exporter in let al = a.link in
    let bi = b.importer in let be = b.exporter in let bl = b.link in
    elim x [
      | inl p ↦ elim y [ inl q ↦ omega arith | inr q ↦ (let q0 = q.0 in omega arith) ]
      | inr p ↦ (let p0 = p.0 in elim y [
        | inl q ↦ omega arith
        | inr q ↦ (let q0 = q.0 in elim p.1 [
          | inl r ↦ elim q.1 [ inl s ↦ omega arith | inr s ↦ (let s0 = s.0 in omega arith) ]
          | inr r ↦ (let r0 = r.0 in let r1 = r.1 in elim q.1 [ inl s ↦ omega arith | inr s ↦ (let s0 = s.0 in let s1 = s.1 in omega arith) ])
        ])
      ])
    ]

abbrev Forth : Problem → Problem → List Edge → List Edge → Type 0
Forth P Q es fs = (e : Edge) → In es e → (f : Edge) × In fs f × EdgesAlike P Q e f

abbrev Back : Problem → Problem → List Edge → List Edge → Type 0
Back P Q es fs = (f : Edge) → In fs f → (e : Edge) × In es e × EdgesAlike P Q e f

-- the heads of two ordered lists that match are alike
heads_alike : (P Q : Problem) (e : Edge) (es : List Edge) (f : Edge) (fs : List Edge) → AreOrdered (e ∷ es) → AreOrdered (f ∷ fs) →
    Forth P Q (e ∷ es) (f ∷ fs) → Back P Q (e ∷ es) (f ∷ fs) → EdgesAlike P Q e f
heads_alike P Q e es f fs a b forth back =
    let m = forth e (inl refl) in
    elim m.1 [
      | inl here ↦ subst (λ (x : Edge). EdgesAlike P Q e x) (sym here) m.2
      | inr there ↦
          let k = back f (inl refl) in
          elim k.1 [
            | inl here ↦ subst (λ (x : Edge). EdgesAlike P Q x f) (sym here) k.2
            | inr deep ↦ absurd (no_cross P Q e k.0 f m.0 m.2 k.2 (all_in (Precedes e) es k.0 a.0 deep) (all_in (Precedes f) fs m.0 b.0 there))
          ]
    ]

-- the match of a later edge is a later edge
later_forth : (P Q : Problem) (e : Edge) (es : List Edge) (f : Edge) (fs : List Edge) → AreOrdered (e ∷ es) → EdgesAlike P Q e f → Forth P Q (e ∷ es) (f ∷ fs) →
    Forth P Q es fs
later_forth P Q e es f fs a heads forth d i =
    let m = forth d (inr i) in
    elim m.1 [
      | inr there ↦ (m.0, there, m.2)
      | inl here ↦ absurd (never_before P Q e d f heads (subst (λ (x : Edge). EdgesAlike P Q d x) (sym here) m.2) (all_in (Precedes e) es d a.0 i))
    ]

later_back : (P Q : Problem) (e : Edge) (es : List Edge) (f : Edge) (fs : List Edge) → AreOrdered (f ∷ fs) → EdgesAlike P Q e f → Back P Q (e ∷ es) (f ∷ fs) →
    Back P Q es fs
later_back P Q e es f fs b heads back g i =
    let m = back g (inr i) in
    elim m.1 [
      | inr there ↦ (m.0, there, m.2)
      | inl here ↦ absurd (never_after P Q e f g heads (subst (λ (x : Edge). EdgesAlike P Q x g) (sym here) m.2) (all_in (Precedes f) fs g b.0 i))
    ]

-- ordered lists that match are alike one by one
lists_alike : (P Q : Problem) (es fs : List Edge) → AreOrdered es → AreOrdered fs → Forth P Q es fs → Back P Q es fs → AllEdgesAlike P Q es fs
lists_alike P Q [] [] a b forth back = tt
lists_alike P Q [] (f ∷ fs) a b forth back = (back f (inl refl)).1
lists_alike P Q (e ∷ es) [] a b forth back = (forth e (inl refl)).1
lists_alike P Q (e ∷ es) (f ∷ fs) a b forth back =
    let heads = heads_alike P Q e es f fs a b forth back in
    (heads, lists_alike P Q es fs a.1 b.1 (later_forth P Q e es f fs a heads forth) (later_back P Q e es f fs b heads back))

module _ (n : Network) (p : Prefix) (P Q : Problem) (a : IsProblemOf n p P) (b : IsProblemOf n p Q) where
  one_side : P.protocol ≡ Q.protocol
  one_side = cc (a.protocol, b.protocol)

  forth : (e : Edge) → Contains P.edges e → (f : Edge) × Contains Q.edges f × EdgesAlike P Q e f
  forth e i =
      let s = a.edges_stand e i in
      let d = s.0 in
      let t = b.edges_all d s.1.is_direction (subst (λ (q : Protocol). IsEdgeDirection q n p d) one_side s.1.is_edge) in (
        t.0,
        t.1,
        record {
          importer = s.1.importer ∙ sym t.2.importer;
          exporter = s.1.exporter ∙ sym t.2.exporter;
          link = s.1.link ∙ sym t.2.link;
          acts = means_alike n p P.protocol d (act_of P e) (act_of Q t.0) (edge_act P a.rules e i)
              (subst (λ (q : Protocol). IsActOf q (act_of Q t.0)) (sym one_side) (edge_act Q b.rules t.0 t.1)) s.1.means t.2.means;
        },
      )

  accepts : (u preference : ℕ) → Accepts P u preference → Accepts Q u preference
  accepts u preference k =
      let m = forth k.edge k.edge_in in
      record {
        edge = m.0;
        edge_in = m.1;
        importer = sym m.2.importer ∙ k.importer;
        comms = k.comms;
        is_set = k.is_set;
        imported = k.imported;
        accepted = sym (imports_alike (act_of P k.edge) (act_of Q m.0) m.2.acts k.comms k.is_set) ∙ k.accepted;
        preferred = k.preferred;
      }

  lone_too : (u : ℕ) → IsLone P u → IsLone Q u
  lone_too u k = record {
    unoriginated = ap (λ (l : List (Option Route)). slice_index_or l u None) (b.init ∙ sym a.init) ∙ k.unoriginated;
    first = k.first;
    second = k.second;
    first_accepted = accepts u k.first k.first_accepted;
    second_accepted = accepts u k.second k.second_accepted;
    differ = k.differ;
  }

  counts : count P ≡ count Q
  counts = ap length (a.numbers ∙ sym b.numbers)

  marked_too : (u : ℕ) → u < count P → is_lone P u ≡ true → is_lone Q u ≡ true
  marked_too u h l = b.rules.marks.all u (subst (λ (k : ℕ). u < k) counts h) (lone_too u (a.rules.marks.only u h l))

  forth_in : Forth P Q P.edges Q.edges
  forth_in e i = let m = forth e (contains_in P.edges e i) in (m.0, in_contains Q.edges m.0 m.1, m.2)

both_true : (b c : Bool) → (b ≡ true → c ≡ true) → (c ≡ true → b ≡ true) → b ≡ c
both_true true c there back = sym (there refl)
both_true false true there back = back refl
both_true false false there back = refl

module _ (n : Network) (p : Prefix) (P Q : Problem) (a : IsProblemOf n p P) (b : IsProblemOf n p Q) where
  back_in : Back P Q P.edges Q.edges
  back_in f i =
      let m = forth_in n p Q P b a f i in (
        m.0,
        m.1,
        record {
          importer = sym m.2.importer;
          exporter = sym m.2.exporter;
          link = sym m.2.link;
          acts =
              alike_sym (act_of Q f) (act_of P m.0) m.2.acts;
        },
      )

  one_lone : P.lone ≡ Q.lone
  one_lone =
      let la = a.rules.tables.lone in
      let lb = b.rules.tables.lone in
      let k = counts n p P Q a b in
      ext_get_or false P.lone Q.lone (la ∙ k ∙ sym lb)
      (λ u h. both_true (is_lone P u) (is_lone Q u) (marked_too n p P Q a b u (omega arith)) (marked_too n p Q P b a u (omega arith)))

  pub one_problem : ProblemsAlike P Q
  one_problem = record {
    protocol = one_side n p P Q a b;
    names = a.names ∙ sym b.names;
    numbers = a.numbers ∙ sym b.numbers;
    init = a.init ∙ sym b.init;
    lone = one_lone;
    edges = lists_alike P Q P.edges Q.edges a.rules.edges.ordered b.rules.edges.ordered (forth_in n p P Q a b) back_in;
  }
