-- The problem of the groups keeps the rules of a problem.
use Rattle.std.proofs.Common.{◌≡◌, ◌≢◌, ◌⊎◌, ℕ, zero, suc, ◌+◌, ◌-◌, ◌*◌, ◌^◌, ◌<◌, ◌≤◌, List, [], ◌∷◌, ◌++◌, length, Option, Some, None, refl, sym, ◌∙◌, ap, subst, arith, inl, inr}
use Rattle.std.specs.Prelude.{Contains, flat_map, nat_eq, slice_get, slice_index}
use Rattle.std.specs.List.{enumerate_from, range_with_len}
use Rattle.std.specs.Option.{option_map}
use Rattle.std.proofs.lemmas.Bool.{cases_lt}
use Rattle.std.proofs.lemmas.List.{length-map, length-append}
use Rattle.std.proofs.lemmas.List.FromFn.{length-range_with_len}
use Rattle.std.proofs.lemmas.Option.{slice_get_within, get_or_from_slice_get}
use Rattle.base_kit.specs.declared.protocol.Protocol.{Protocol}
use Rattle.base_kit.specs.declared.act_graph.Edge.{Edge}
use Rattle.base_kit.specs.Partition.{IsNumbered}
use Rattle.base_kit.proofs.Elements.{In, contains_in, in_contains, in_get, flat_map_in, enumerate_in, append_in}
use Rattle.by_key.specs.ByKey.{with_key, by_key}
use Rattle.by_key.proofs.KeyedItems.{all_from, key_is, length_by_key}
use Rattle.by_key.proofs.OrderedByKey.{IsOrdered, ordered_append, ordered_as, ordered_filter, ordered_keys}
use Rattle.abstract_net.specs.declared.qlink.QLink.{QLink}
use Rattle.abstract_net.specs.Carried.{IsJoined}
use Rattle.abstract_net.specs.Links.{quotient_links}
use Rattle.srp_core.specs.Problem.{Problem, IsEdgeOf, Precedes, AreOrdered, HasTables, IsProblem}
use Rattle.srp_core.specs.Quotient.{IsAdmissible, KeepsTables}
use Rattle.srp_quotient.specs.Groups.{edge_into, lower_edge, listed, edges_of_link, importer_of, exporter_of, quotient_edges, quotient_problem, small_of}
use Rattle.srp_quotient.proofs.Quotient.{into_real, listed_in, of_link, carries, size}

-- ---- how many

one_more : (groups : List ℕ) (count : ℕ) → IsNumbered groups count → (n v : ℕ) → v < n → v < length groups → slice_index groups v ≤ v
one_more groups count numbered zero v low inside = absurd (omega arith)
one_more groups count numbered (suc n) v low inside = elim (cases_lt v (slice_index groups v)) [
  | inr le ↦ omega arith
  | inl more ↦
      let u = numbered.in_order v (slice_index groups v - 1) inside (omega arith) in
      let less = u.1 in let is = u.2 in
      let small = one_more groups count numbered n u.0 (omega arith) (omega arith) in
      absurd (omega arith)
]

few_groups : (groups : List ℕ) (count : ℕ) → IsNumbered groups count → count ≤ length groups
few_groups groups zero numbered = omega arith
few_groups groups (suc n) numbered =
    let at = in_get groups n (in_contains groups n (numbered.used n (omega arith))) in
    let inside = slice_get_within groups at.0 n at.1 in
    let is = get_or_from_slice_get groups at.0 n 0 at.1 in
    let small = one_more groups (suc n) numbered (suc at.0) at.0 (omega arith) inside in
    omega arith

listed_few : (o : Option Edge) → length (listed o) ≤ 1
listed_few None = omega arith
listed_few (Some e) = omega arith

few_edges : (q : Protocol) (es : List Edge) (links : List QLink) (m : ℕ) (ls : List QLink) →
    length (flat_map (edges_of_link q es links) (enumerate_from m ls)) ≤ 2 * length ls
few_edges q es links m [] = omega arith
few_edges q es links m (l ∷ ls) =
    let low = listed (option_map (lower_edge es m l.low l.high) (edge_into q links l.low l)) in
    let high = listed (option_map (lower_edge es m l.high l.low) (edge_into q links l.high l)) in
    let a = listed_few (option_map (lower_edge es m l.low l.high) (edge_into q links l.low l)) in
    let b = listed_few (option_map (lower_edge es m l.high l.low) (edge_into q links l.high l)) in
    let c = few_edges q es links (m + 1) ls in
    let d = length-append (low ++ high) (flat_map (edges_of_link q es links) (enumerate_from (m + 1) ls)) in
    let e = length-append low high in
    omega arith

few_small_edges : (q : Protocol) (es : List Edge) (count : ℕ) (links : List QLink) → length (quotient_edges q es count links) ≤ 2 * length links
unfolding quotient_edges
few_small_edges q es count links =
    let all = flat_map (edges_of_link q es links) (enumerate_from 0 links) in
    let a = length_by_key importer_of count (by_key exporter_of count all) in
    let b = length_by_key exporter_of count all in
    let c = few_edges q es links 0 links in
    omega arith

-- ---- their order

ordered_edges : (edges : List Edge) → IsOrdered Precedes edges → AreOrdered edges
ordered_edges [] o = tt
ordered_edges (e ∷ es) o = (all_from (Precedes e) es o.0, ordered_edges es o.1)

-- of two edges with the same ends the first has the lesser link
abbrev ByLink : Edge → Edge → Type 0
ByLink x y = x.importer ≡ y.importer → x.exporter ≡ y.exporter → x.link < y.link

abbrev ByExporter : Edge → Edge → Type 0
ByExporter x y = x.importer ≡ y.importer → (x.exporter < y.exporter) ⊎ ((x.exporter ≡ y.exporter) × (x.link < y.link))

record IsOfPlace (m : ℕ) (n : ℕ) (e : Edge) : Type 0 where
  low : m ≤ e.link
  high : e.link < n

module _ (q : Protocol) (es : List Edge) (links : List QLink) where
  place_of : (m : ℕ) (l : QLink) (e : Edge) → In (edges_of_link q es links (m, l)) e → ((e.importer ≡ l.low) ⊎ (e.importer ≡ l.high)) × (e.link ≡ m)
  place_of m l e at = elim (append_in (listed (option_map (lower_edge es m l.low l.high) (edge_into q links l.low l)))
      (listed (option_map (lower_edge es m l.high l.low) (edge_into q links l.high l))) e at) [
        | inl a ↦ (let k = listed_in (edge_into q links l.low l) (lower_edge es m l.low l.high) e a in
            (inl (sym (ap (λ (x : Edge). x.importer) k.2)), sym (ap (λ (x : Edge). x.link) k.2)))
        | inr b ↦ (let k = listed_in (edge_into q links l.high l) (lower_edge es m l.high l.low) e b in
            (inr (sym (ap (λ (x : Edge). x.importer) k.2)), sym (ap (λ (x : Edge). x.link) k.2)))
      ]

  link_from : (m : ℕ) (ls : List QLink) (e : Edge) → In (flat_map (edges_of_link q es links) (enumerate_from m ls)) e → m ≤ e.link
  link_from m ls e at =
      let t = flat_map_in (edges_of_link q es links) (enumerate_from m ls) e at in
      let n = enumerate_in ls m t.0.0 t.0.1 t.1 in
      let p = (place_of t.0.0 t.0.1 e t.2).1 in
      let from = n.1 in
      omega arith

  one_listed : (o : Option ℕ) (f : ℕ → Edge) → IsOrdered ByLink (listed (option_map f o))
  one_listed None f = tt
  one_listed (Some k) f = ((λ y none. absurd none), tt)

  both_ordered : (m : ℕ) (l : QLink) → l.low < l.high → IsOrdered ByLink (edges_of_link q es links (m, l))
  both_ordered m l less =
      ordered_append ByLink (listed (option_map (lower_edge es m l.low l.high) (edge_into q links l.low l)))
      (listed (option_map (lower_edge es m l.high l.low) (edge_into q links l.high l)))
      (one_listed (edge_into q links l.low l) (lower_edge es m l.low l.high)) (one_listed (edge_into q links l.high l) (lower_edge es m l.high l.low))
      (λ x y i j same other.
      (let a = listed_in (edge_into q links l.low l) (lower_edge es m l.low l.high) x i in
      let b = listed_in (edge_into q links l.high l) (lower_edge es m l.high l.low) y j in
      let ax = ap (λ (e : Edge). e.importer) a.2 in
      let by = ap (λ (e : Edge). e.importer) b.2 in
      absurd (omega arith)))

  by_links : (m : ℕ) (ls : List QLink) → ((l : QLink) → In ls l → l.low < l.high) → IsOrdered ByLink (flat_map (edges_of_link q es links) (enumerate_from m ls))
  by_links m [] apart = tt
  by_links m (l ∷ ls) apart =
      ordered_append ByLink (edges_of_link q es links (m, l)) (flat_map (edges_of_link q es links) (enumerate_from (m + 1) ls))
      (both_ordered m l (apart l (inl refl))) (by_links (m + 1) ls (λ k at. apart k (inr at)))
      (λ x y i j same other. (let a = (place_of m l x i).1 in let b = link_from (m + 1) ls y j in omega arith))

  stand : (count : ℕ) → ((l : QLink) → In links l → l.low < l.high) → AreOrdered (quotient_edges q es count links)
  unfolding quotient_edges
  stand count apart =
      let all = flat_map (edges_of_link q es links) (enumerate_from 0 links) in
      let exporters : IsOrdered ByExporter (by_key exporter_of count all) =
      ordered_keys exporter_of ByExporter all
      (λ v. ordered_as ByLink ByExporter (with_key exporter_of all v)
      (λ x y i j less same. (let a = (key_is exporter_of all v x i).1 in let b = (key_is exporter_of all v y j).1 in let equal : x.exporter ≡ y.exporter =
      omega arith in inr (equal, less same equal)))
      (ordered_filter ByLink (λ (e : Edge). nat_eq e.exporter v) all (by_links 0 links apart)))
      (λ x y less same. inl less) 0 count in
      ordered_edges (by_key importer_of count (by_key exporter_of count all))
      (ordered_keys importer_of Precedes (by_key exporter_of count all)
      (λ v. ordered_as ByExporter Precedes (with_key importer_of (by_key exporter_of count all) v)
      (λ x y i j less. (let a = (key_is importer_of (by_key exporter_of count all) v x i).1 in let b =
      (key_is importer_of (by_key exporter_of count all) v y j).1 in let equal : x.importer ≡ y.importer = omega arith in inr (equal, less equal)))
      (ordered_filter ByExporter (λ (e : Edge). nat_eq e.importer v) (by_key exporter_of count all) exporters))
      (λ x y less. inl less) 0 count)

-- ---- the rules

below_ends : (l : QLink) (g h count : ℕ) → l.low < l.high → l.high < count → IsJoined l g h → (g < count) × (h < count) × (g ≢ h)
below_ends l g h count less inside (inl j) = let a = j.0 in let b = j.1 in (omega arith, omega arith, λ e. absurd (omega arith))
below_ends l g h count less inside (inr j) = let a = j.0 in let b = j.1 in (omega arith, omega arith, λ e. absurd (omega arith))

act_fits : {n : ℕ} (a b : ℕ) → a ≡ b → a < n → b < n
act_fits a b e h = omega arith

one_other_end : (l : QLink) (g h k : ℕ) → l.low < l.high → IsJoined l g h → IsJoined l g k → h ≡ k
one_other_end l g h k less (inl a) (inl b) = sym a.1 ∙ b.1
one_other_end l g h k less (inr a) (inr b) = sym a.1 ∙ b.1
one_other_end l g h k less (inl a) (inr b) = absurd (let x = a.0 in let y = b.0 in omega arith)
one_other_end l g h k less (inr a) (inl b) = absurd (let x = a.0 in let y = b.0 in omega arith)

module _ (S : Problem) (groups : List ℕ) (count : ℕ) (good : IsProblem S) (adm : IsAdmissible S groups) (numbered : IsNumbered groups count)
    (few : length (quotient_links S.edges groups count) < 2 ^ 31) where
  tables : HasTables (small_of S groups count)
  unfolding quotient_problem
  tables =
      let s = size S groups count good adm numbered in
      let g = few_groups groups count numbered in
      let t = adm.total in
      let r = good.tables.few_routers in
      let range = length-range_with_len 0 count in
      let e = few_small_edges S.protocol S.edges count (quotient_links S.edges groups count) in
      record {
        few_routers = omega arith;
        few_edges = omega arith;
        names = length-map (range_with_len 0 count) _ ∙ sym (length-map (range_with_len 0 count) _);
        init = length-map (range_with_len 0 count) _ ∙ sym (length-map (range_with_len 0 count) _);
        lone = length-map (range_with_len 0 count) _ ∙ sym (length-map (range_with_len 0 count) _);
      }

  edge_of : (lower : Edge) → Contains (small_of S groups count).edges lower → IsEdgeOf (small_of S groups count) lower
  unfolding quotient_problem
  edge_of lower has =
      let o = of_link S groups count good adm numbered lower (in_contains (small_of S groups count).edges lower has) in
      let c = carries S groups count good adm numbered in
      let s = size S groups count good adm numbered in
      let b = c.below o.l o.l_in in
      let ends = below_ends o.l o.g o.h count b.ordered b.inside o.joined in
      let d = (into_real S.protocol S.edges groups count (quotient_links S.edges groups count) c o.l o.g o.h o.k o.l_in o.joined o.into).between in
      let inside = (good.edges.inside d.edge d.has).act_in in
      let act = d.does in
      let importer = ap (λ (e : Edge). e.importer) o.is in
      let exporter = ap (λ (e : Edge). e.exporter) o.is in
      let acts = ap (λ (e : Edge). e.act) o.is in
      record {
        importer_in = (let x = ends.0 in omega arith);
        exporter_in = (let x = ends.1 in omega arith);
        differ =
            (λ e. ends.2 (importer ∙ e ∙ sym exporter));
        act_in = act_fits d.edge.act lower.act (act ∙ acts) inside;
      }

  one_edge : (lower other : Edge) → Contains (small_of S groups count).edges lower → Contains (small_of S groups count).edges other →
      lower.importer ≡ other.importer → lower.link ≡ other.link → lower ≡ other
  one_edge lower other has also same link =
      let a = of_link S groups count good adm numbered lower (in_contains (small_of S groups count).edges lower has) in
      let b = of_link S groups count good adm numbered other (in_contains (small_of S groups count).edges other also) in
      let c = carries S groups count good adm numbered in
      let place : a.place ≡ b.place = ap (λ (e : Edge). e.link) a.is ∙ link ∙ sym (ap (λ (e : Edge). e.link) b.is) in
      let importer : a.g ≡ b.g = ap (λ (e : Edge). e.importer) a.is ∙ same ∙ sym (ap (λ (e : Edge). e.importer) b.is) in
      let one : Some a.l ≡ Some b.l = sym a.l_at ∙ ap (slice_get (quotient_links S.edges groups count)) place ∙ b.l_at in
      let l : a.l ≡ b.l = cc in
      let less = (c.below b.l b.l_in).ordered in
      let joined : IsJoined b.l b.g a.h = subst (λ (n : ℕ). IsJoined b.l n a.h) importer (subst (λ (m : QLink). IsJoined m a.g a.h) l a.joined) in
      let exporter = one_other_end b.l b.g a.h b.h less joined b.joined in
      let into : edge_into S.protocol (quotient_links S.edges groups count) b.g b.l ≡ Some a.k =
      (λ i. edge_into S.protocol (quotient_links S.edges groups count) (sym importer i) (sym l i)) ∙ a.into in
      let k : a.k ≡ b.k = (let e : Some a.k ≡ Some b.k = sym into ∙ b.into in cc) in
      sym a.is ∙ (λ i. lower_edge S.edges (place i) (importer i) (exporter i) (k i)) ∙ b.is

  pub keeps_tables : KeepsTables S (small_of S groups count)
  unfolding quotient_problem
  keeps_tables = record {
    tables = tables;
    edges = record {
      inside = edge_of;
      ordered = stand S.protocol S.edges (quotient_links S.edges groups count) count
          (λ l at. ((carries S groups count good adm numbered).below l (contains_in (quotient_links S.edges groups count) l at)).ordered);
      one_of_link = one_edge;
    };
    acts = refl;
  }
