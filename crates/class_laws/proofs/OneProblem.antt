-- A network and a prefix have only one problem in which acts are in the order of their first edges, each
-- as the lines at the ends of its first edge write it.
use Rattle.std.proofs.Common.{◌≡◌, ◌≢◌, ℕ, zero, suc, ◌<◌, Bool, List, [], ◌∷◌, map, length, Option, Some, refl, sym, ap, ◌∙◌, subst, inl, inr, arith, ext_get_or}
use Rattle.std.specs.Prelude.{Contains, slice_get, slice_index_or}
use Rattle.std.proofs.lemmas.Bool.{cases_eq}
use Rattle.std.proofs.lemmas.List.{length-map}
use Rattle.base_kit.specs.declared.protocol.Protocol.{Protocol}
use Rattle.base_kit.specs.declared.protocol.Protocol.TheVariants.{Bgp as OverBgp, Ospf as OverOspf}
use Rattle.base_kit.specs.declared.act_graph.Edge.{Edge}
use Rattle.base_kit.specs.Partition.{IsNumbered, Refines}
use Rattle.base_kit.specs.Prefixes.{Prefix}
use Rattle.base_kit.proofs.Elements.{In, contains_in, get_in}
use Rattle.cfg_ast.specs.declared.network.Network.{Network}
use Rattle.cfg_ast.specs.declared.topology.Link.{Link}
use Rattle.route_maps.specs.declared.plain.Plain.{Plain}
use Rattle.specialize.specs.Sessions.{out_map, in_map}
use Rattle.srp_core.specs.declared.route.Act.{Act}
use Rattle.srp_core.specs.declared.route.Act.TheVariants.{Import, Cost}
use Rattle.srp_core.specs.declared.route.Route.{Route}
use Rattle.srp_core.specs.Acts.{ActsAlike, IsActOf}
use Rattle.srp_core.specs.Alike.{ProblemsAlike}
use Rattle.srp_core.specs.Problem.{Problem, IsProblem, act_of}
use Rattle.srp_core.specs.ProblemOf.{Direction, low_imports, high_imports, IsDirection, MeansLink, IsProblemOf}
use Rattle.srp_core.proofs.Alike.{turned}
use Rattle.srp_core.proofs.AlikeOf.{one_problem as problems_alike}
use Rattle.srp_core.proofs.GroupMatching.{alike_sym, alike_trans}
use Rattle.srp_core.proofs.Offers.{edge_act as edge_fits}
use Rattle.srp_build.specs.ActOrder.{AreActsByFirstUse}
use Rattle.srp_build.specs.FirstActs.{IsActOfLines, IsFirstWith, HasFirstActs}
use Rattle.answer_kit.proofs.NumberedOnce.{one_numbering, one_count_of_groups}
use Rattle.class_laws.proofs.OneEdges.{same_length, same_at, edge_act, one_list}

-- ---- lists

read_acts : (edges : List Edge) (k d : ℕ) (e : Edge) → slice_get edges k ≡ Some e → slice_index_or (map edge_act edges) k d ≡ e.act
read_acts [] k d e at = absurd cc
read_acts (x ∷ xs) zero d e at = ap edge_act (let same : x ≡ e = cc in same)
read_acts (x ∷ xs) (suc k) d e at = read_acts xs k d e at

there : {X : Type 0} (xs : List X) (k : ℕ) → k < length xs → (x : X) × (slice_get xs k ≡ Some x)
there [] k h = absurd (omega arith)
there (x ∷ xs) zero h = (x, refl)
there (x ∷ xs) (suc k) h = there xs k (omega arith)

within : {X : Type 0} (xs : List X) (k : ℕ) (x : X) → slice_get xs k ≡ Some x → k < length xs
within [] k x at = absurd cc
within (y ∷ ys) zero x at = omega arith
within (y ∷ ys) (suc k) x at = let r = within ys k x at in omega arith

-- the first edge with an act
record FirstAt (edges : List Edge) (act : ℕ) : Type 0 where
  place : ℕ
  edge : Edge
  at : slice_get edges place ≡ Some edge
  same : edge.act ≡ act
  first : IsFirstWith edges place act

find_first : (edges : List Edge) (act k : ℕ) (edge : Edge) → slice_get edges k ≡ Some edge → edge.act ≡ act → FirstAt edges act
find_first [] act k edge at same = absurd cc
find_first (x ∷ xs) act zero edge at same = record {
  place = zero;
  edge = edge;
  at = at;
  same = same;
  first =
      record { first = λ earlier other less found. absurd (omega arith) };
}
find_first (x ∷ xs) act (suc k) edge at same = elim (cases_eq x.act act) [
  | inl here ↦ record { place = zero; edge = x; at = refl; same = here; first = record { first = λ earlier other less found. absurd (omega arith) } }
  | inr not_here ↦ (
      let later = find_first xs act k edge at same in
      record {
        place = suc later.place;
        edge = later.edge;
        at = later.at;
        same = later.same;
        first =
            record { first = before x xs act later.place not_here later.first };
      })
]
  where
    before : (x : Edge) (xs : List Edge) (act place : ℕ) → x.act ≢ act → IsFirstWith xs place act → (earlier : ℕ) (other : Edge) → earlier < suc place
        → slice_get (x ∷ xs) earlier ≡ Some other → other.act ≢ act
    before x xs act place not_here later zero other less found = λ e. not_here (ap edge_act (let one : x ≡ other = cc in one) ∙ e)
    before x xs act place not_here later (suc earlier) other less found = later.first earlier other (omega arith) found

-- ---- one act

one_protocol : (q : Protocol) (out into : Plain) (sends : Bool) (cost : ℕ) → IsActOf q (Import out sends into) → IsActOf q (Cost cost) → ⊥
one_protocol OverBgp out into sends cost a b = b
one_protocol OverOspf out into sends cost a b = a

one_direction : (n : Network) (d e : Direction) → IsDirection n d → IsDirection n e → d.link ≡ e.link → d.importer ≡ e.importer → d.exporter ≡ e.exporter
    → d.importer ≢ d.exporter → d ≡ e
one_direction n d e (inl a) (inl b) link importer exporter apart =
    let one : low_imports d ≡ low_imports e = cc (a, b, link) in
    λ j. made (link j) (importer j) (exporter j) (ap (λ (l : Link). l.low_item) one j) (ap (λ (l : Link). l.high_item) one j)
  where
    made : ℕ → ℕ → ℕ → ℕ → ℕ → Direction
    made link importer exporter importer_item exporter_item =
        record { link = link; importer = importer; exporter = exporter; importer_item = importer_item; exporter_item = exporter_item }
one_direction n d e (inr a) (inr b) link importer exporter apart =
    let one : high_imports d ≡ high_imports e = cc (a, b, link) in
    λ j. made (link j) (importer j) (exporter j) (ap (λ (l : Link). l.high_item) one j) (ap (λ (l : Link). l.low_item) one j)
  where
    made : ℕ → ℕ → ℕ → ℕ → ℕ → Direction
    made link importer exporter importer_item exporter_item =
        record { link = link; importer = importer; exporter = exporter; importer_item = importer_item; exporter_item = exporter_item }
one_direction n d e (inl a) (inr b) link importer exporter apart =
    let one : low_imports d ≡ high_imports e = cc (a, b, link) in
    absurd (apart (ap (λ (l : Link). l.low) one ∙ sym exporter))
one_direction n d e (inr a) (inl b) link importer exporter apart =
    let one : high_imports d ≡ low_imports e = cc (a, b, link) in
    absurd (apart (sym (ap (λ (l : Link). l.low) one ∙ sym importer)))

one_written : (n : Network) (p : Prefix) (q : Protocol) (d : Direction) (x y : Act) → IsActOf q x → IsActOf q y → IsActOfLines n p d x → IsActOfLines n p d y
    → MeansLink n p d x → MeansLink n p d y → x ≡ y
one_written n p q d (Import out sends into) (Import out' sends' into') a b w v m l =
    let e : w.ends.exporter ≡ v.ends.exporter = cc (w.ends.exporter_at, v.ends.exporter_at) in
    let i : w.ends.importer ≡ v.ends.importer = cc (w.ends.importer_at, v.ends.importer_at) in
    let el : w.ends.exporter_line ≡ v.ends.exporter_line = cc (w.ends.exporter_line_at, v.ends.exporter_line_at, e) in
    let il : w.ends.importer_line ≡ v.ends.importer_line = cc (w.ends.importer_line_at, v.ends.importer_line_at, i) in
    let outs : out ≡ out' = w.out_is ∙ (λ j. out_map p (e j) (el j)) ∙ sym v.out_is in
    let ins : into ≡ into' = w.into_is ∙ (λ j. in_map p (i j) (il j)) ∙ sym v.into_is in
    let sent : sends ≡ sends' = w.sends_is ∙ (λ j. (el j).sends) ∙ sym v.sends_is in
    λ j. Import (outs j) (sent j) (ins j)
one_written n p q d (Import out sends into) (Cost cost) a b w v m l = absurd (one_protocol q out into sends cost a b)
one_written n p q d (Cost cost) (Import out sends into) a b w v m l = absurd (one_protocol q out into sends cost b a)
one_written n p q d (Cost cost) (Cost other) a b w v m l =
    let i : m.importer ≡ l.importer = cc (m.importer_at, l.importer_at) in
    ap Cost (let same : cost ≡ other = cc (m.same, l.same, i) in same)

-- ---- one problem

module _ (P : Problem) (order : AreActsByFirstUse P) (inside : (e : Edge) → Contains P.edges e → e.act < length P.acts) where
  all_below : (edges : List Edge) → ((e : Edge) → In edges e → e.act < length P.acts) → (k d : ℕ) → k < length (map edge_act edges)
      → slice_index_or (map edge_act edges) k d < length P.acts
  all_below [] each k d h = absurd (omega arith)
  all_below (x ∷ xs) each zero d h = each x (inl refl)
  all_below (x ∷ xs) each (suc k) d h = all_below xs (λ e at. each e (inr at)) k d (omega arith)

  -- the acts of the edges are numbered by first use
  pub acts_numbered : IsNumbered (map edge_act P.edges) (length P.acts)
  acts_numbered = record {
    below = all_below P.edges (λ e at. inside e (contains_in P.edges e at));
    used = λ act less. (
        let has = order.used act less in
        let lengths = length-map P.edges edge_act in
        let bound = within P.edges has.earlier has.edge has.at in
        (has.earlier, omega arith, read_acts P.edges has.earlier act has.edge has.at ∙ has.same));
    in_order = λ v act bound less. (
        let lengths = length-map P.edges edge_act in
        let e = there P.edges v (omega arith) in
        let is = read_acts P.edges v 0 e.0 e.1 in
        let has = order.in_order v act e.0 e.1 (omega arith) in
        (has.earlier, has.before, read_acts P.edges has.earlier 0 has.edge has.at ∙ has.same));
  }

module _ (P Q : Problem) (x : IsProblem P) (y : IsProblem Q) (same : ProblemsAlike P Q) where
  -- edges with one act in the one problem have one act in the other
  pub refined : Refines (length (map edge_act P.edges)) (map edge_act P.edges) (map edge_act Q.edges)
  refined u v u_in v_in one_act =
      let lengths = length-map P.edges edge_act in
      let e = there P.edges u (omega arith) in
      let f = there P.edges v (omega arith) in
      let g = same_at P Q P.edges Q.edges u e.0 same.edges e.1 in
      let h = same_at P Q P.edges Q.edges v f.0 same.edges f.1 in
      let g_in = contains_in Q.edges g.0 (get_in Q.edges u g.0 g.1) in
      let h_in = contains_in Q.edges h.0 (get_in Q.edges v h.0 h.1) in
      let one : f.0.act ≡ e.0.act = sym (read_acts P.edges v 0 f.0 f.1) ∙ sym one_act ∙ read_acts P.edges u 0 e.0 e.1 in
      let e_alike : ActsAlike (act_of Q g.0) (act_of P e.0) = alike_sym (act_of P e.0) (act_of Q g.0) g.2.acts in
      let f_alike : ActsAlike (act_of P e.0) (act_of Q h.0) = subst (λ (k : ℕ). ActsAlike (slice_index_or P.acts k (Cost 0)) (act_of Q h.0)) one h.2.acts in
      let acts = y.acts.differ g.0.act h.0.act (y.edges.inside g.0 g_in).act_in (y.edges.inside h.0 h_in).act_in
      (alike_trans (act_of Q g.0) (act_of P e.0) (act_of Q h.0) e_alike f_alike) in
      read_acts Q.edges u 0 g.0 g.1 ∙ acts ∙ sym (read_acts Q.edges v 0 h.0 h.1)

module _ (n : Network) (p : Prefix) (P Q : Problem) (a : IsProblemOf n p P) (b : IsProblemOf n p Q) (x : AreActsByFirstUse P) (y : AreActsByFirstUse Q)
    (u : HasFirstActs n p P) (v : HasFirstActs n p Q) where
  same : ProblemsAlike P Q
  same = problems_alike n p P Q a b

  numbered_p : IsNumbered (map edge_act P.edges) (length P.acts)
  numbered_p = acts_numbered P x (λ e inside. (a.rules.edges.inside e inside).act_in)

  numbered_q : IsNumbered (map edge_act Q.edges) (length Q.acts)
  numbered_q = acts_numbered Q y (λ e inside. (b.rules.edges.inside e inside).act_in)

  same_acts_of_edges : map edge_act P.edges ≡ map edge_act Q.edges
  same_acts_of_edges =
      let lengths = same_length P Q P.edges Q.edges same.edges in
      let p_length = length-map P.edges edge_act in
      let q_length = length-map Q.edges edge_act in
      one_numbering (map edge_act P.edges) (map edge_act Q.edges) (length P.acts) (length Q.acts) (omega arith) numbered_p numbered_q
      (refined P Q a.rules b.rules same) (refined Q P b.rules a.rules (turned P Q same))

  pub one_edges : P.edges ≡ Q.edges
  one_edges = one_list P Q P.edges Q.edges same.edges same_acts_of_edges

  one_count : length P.acts ≡ length Q.acts
  one_count = one_count_of_groups (map edge_act Q.edges) (length P.acts) (length Q.acts)
      (subst (λ (l : List ℕ). IsNumbered l (length P.acts)) same_acts_of_edges numbered_p) numbered_q

  -- the act of the first edge that has it
  one_act : (k : ℕ) → k < length P.acts → slice_index_or P.acts k (Cost 0) ≡ slice_index_or Q.acts k (Cost 0)
  one_act k h =
      let used = x.used k h in
      let first = find_first P.edges k used.earlier used.edge used.at used.same in
      let e = first.edge in
      let at : slice_get Q.edges first.place ≡ Some e = ap (λ (l : List Edge). slice_get l first.place) (sym one_edges) ∙ first.at in
      let is_first = subst (λ (m : ℕ). IsFirstWith P.edges first.place m) (sym first.same) first.first in
      let w = u.each first.place e first.at is_first in
      let z = v.each first.place e at (subst (λ (l : List Edge). IsFirstWith l first.place e.act) one_edges is_first) in
      let inside = contains_in P.edges e (get_in P.edges first.place e first.at) in
      let also = contains_in Q.edges e (get_in Q.edges first.place e at) in
      let apart = (a.rules.edges.inside e inside).differ in
      let one : w.d ≡ z.d = one_direction n w.d z.d w.stands.is_direction z.stands.is_direction (sym w.stands.link ∙ z.stands.link)
      (sym w.stands.importer ∙ z.stands.importer) (sym w.stands.exporter ∙ z.stands.exporter)
      (λ equal. apart (w.stands.importer ∙ equal ∙ sym w.stands.exporter)) in
      let acts = one_written n p P.protocol w.d (act_of P e) (act_of Q e) (edge_fits P a.rules e inside)
      (subst (λ (q : Protocol). IsActOf q (act_of Q e)) (sym same.protocol) (edge_fits Q b.rules e also))
      w.act (subst (λ (d : Direction). IsActOfLines n p d (act_of Q e)) (sym one) z.act) w.stands.means
      (subst (λ (d : Direction). MeansLink n p d (act_of Q e)) (sym one) z.stands.means) in
      ap (λ (m : ℕ). slice_index_or P.acts m (Cost 0)) (sym first.same) ∙ acts ∙ ap (λ (m : ℕ). slice_index_or Q.acts m (Cost 0)) first.same

  one_acts : P.acts ≡ Q.acts
  one_acts = ext_get_or (Cost 0) P.acts Q.acts one_count one_act

  abbrev with_parts : Protocol → List (List ℕ) → List ℕ → List (Option Route) → List Bool → List Act → List Edge → Problem
  with_parts protocol names numbers init lone acts edges = record
      { protocol = protocol; names = names; numbers = numbers; init = init; lone = lone; acts = acts; edges = edges }

  pub one_problem : P ≡ Q
  one_problem = λ j. with_parts (same.protocol j) (same.names j) (same.numbers j) (same.init j) (same.lone j) (one_acts j) (one_edges j)
