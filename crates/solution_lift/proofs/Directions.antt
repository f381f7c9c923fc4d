-- Both directions of all links, and their order.
use Rattle.std.proofs.Common.{◌≡◌, ℕ, ◌+◌, ◌<◌, List, ◌∷◌, ◌++◌, length, drop, get_or, Option, Some, None, sym, ◌∙◌, ap, subst, arith, inl, inr, append_assoc}
use Rattle.std.specs.Prelude.{All, flat_map}
use Rattle.std.specs.List.{enumerate_from}
use Rattle.std.specs.Option.{option_map}
use Rattle.std.proofs.lemmas.List.{drop_more}
use Rattle.std.proofs.lemmas.List.Elements.{All-contains}
use Rattle.base_kit.specs.declared.protocol.Protocol.{Protocol}
use Rattle.base_kit.specs.declared.act_graph.Edge.{Edge}
use Rattle.base_kit.proofs.Elements.{In, contains_in, get_in, flat_map_in, enumerate_in, append_in}
use Rattle.by_key.specs.ByKey.{by_key}
use Rattle.by_key.proofs.KeyedItems.{all_from, by_key_in}
use Rattle.abstract_net.specs.declared.qlink.QLink.{QLink}
use Rattle.srp_quotient.specs.Groups.{edge_into, lower_edge, listed, edges_of_link, importer_of, exporter_of, quotient_edges}
use Rattle.abstract_net.specs.Carried.{IsBelow}

module _ (q : Protocol) (es : List Edge) (links : List QLink) where
  pub link_more : (found first second whole : List Edge) (place : ℕ) (l : QLink) (low high : Option ℕ) → place < length links → l ≡ get_or links place l
      → found ++ flat_map (edges_of_link q es links) (enumerate_from place (drop place links)) ≡ whole
      → first ≡ found ++ listed (option_map (lower_edge es place l.low l.high) low) → low ≡ edge_into q links l.low l
      → second ≡ first ++ listed (option_map (lower_edge es place l.high l.low) high) → high ≡ edge_into q links l.high l
      → second ++ flat_map (edges_of_link q es links) (enumerate_from (place + 1) (drop (place + 1) links)) ≡ whole
  link_more found first second whole place l low high inside at before a lows b highs =
      let rest = flat_map (edges_of_link q es links) (enumerate_from (place + 1) (drop (place + 1) links)) in
      let into_low = listed (option_map (lower_edge es place l.low l.high) (edge_into q links l.low l)) in
      let into_high = listed (option_map (lower_edge es place l.high l.low) (edge_into q links l.high l)) in
      let now : second ≡ (found ++ into_low) ++ into_high =
      b ∙ (λ i. (a ∙ ap (λ (o : Option ℕ). found ++ listed (option_map (lower_edge es place l.low l.high) o)) lows) i
      ++ listed (option_map (lower_edge es place l.high l.low) (highs i))) in
      let next : drop place links ≡ l ∷ drop (place + 1) links = drop_more links place l inside ∙ ap (λ (m : QLink). m ∷ drop (place + 1) links) (sym at) in
      ap (λ (xs : List Edge). xs ++ rest) (now ∙ append_assoc found into_low into_high)
      ∙ append_assoc found (into_low ++ into_high) rest
      ∙ ap (λ (ls : List QLink). found ++ flat_map (edges_of_link q es links) (enumerate_from place ls)) (sym next)
      ∙ before

  record IsInside (count : ℕ) (e : Edge) : Type 0 where
    importer : e.importer < count
    exporter : e.exporter < count

  one_inside : (count m : ℕ) (l : QLink) (e : Edge) → IsBelow count l → In (edges_of_link q es links (m, l)) e → IsInside count e
  one_inside count m l e within at =
      let less = within.ordered in
      let high = within.inside in
      elim (append_in (listed (option_map (lower_edge es m l.low l.high) (edge_into q links l.low l)))
      (listed (option_map (lower_edge es m l.high l.low) (edge_into q links l.high l))) e at) [
        | inl a ↦ (let x = is_lower (edge_into q links l.low l) l.low l.high a in let i = x.0 in let j = x.1 in
            record { importer = omega arith; exporter = omega arith })
        | inr b ↦ (let x = is_lower (edge_into q links l.high l) l.high l.low b in let i = x.0 in let j = x.1 in
            record { importer = omega arith; exporter = omega arith })
      ]
    where
      is_lower : (o : Option ℕ) (g h : ℕ) → In (listed (option_map (lower_edge es m g h) o)) e → (e.importer ≡ g) × (e.exporter ≡ h)
      is_lower None g h at' = absurd at'
      is_lower (Some k) g h (inl same) = (sym (ap (λ (x : Edge). x.importer) same), sym (ap (λ (x : Edge). x.exporter) same))
      is_lower (Some k) g h (inr none) = absurd none

  inside : (count : ℕ) → All (IsBelow count) links → (e : Edge) → In (flat_map (edges_of_link q es links) (enumerate_from 0 links)) e → IsInside count e
  inside count within e at =
      let t = flat_map_in (edges_of_link q es links) (enumerate_from 0 links) e at in
      let n = enumerate_in links 0 t.0.0 t.0.1 t.1 in
      one_inside count t.0.0 t.0.1 e (All-contains (IsBelow count) links t.0.1 within (contains_in links t.0.1 (get_in links n.0 t.0.1 n.2))) t.2

  -- what two stable sorts make of them
  pub sorted_are : (found by_exporters by_importers : List Edge) (count : ℕ) → All (IsBelow count) links →
      found ≡ flat_map (edges_of_link q es links) (enumerate_from 0 links) →
      ((n : ℕ) → All (λ (e : Edge). e.exporter < n) found → by_exporters ≡ by_key exporter_of n found)
      → ((n : ℕ) → All (λ (e : Edge). e.importer < n) by_exporters → by_importers ≡ by_key importer_of n by_exporters) →
      by_importers ≡ quotient_edges q es count links
  unfolding quotient_edges
  sorted_are found by_exporters by_importers count within is sort_exporters sort_importers =
      let all = flat_map (edges_of_link q es links) (enumerate_from 0 links) in
      let exporters = all_from (λ (e : Edge). e.exporter < count) all (λ e at. (inside count within e at).exporter) in
      let first : by_exporters ≡ by_key exporter_of count all = sort_exporters count (subst (All (λ (e : Edge). e.exporter < count)) (sym is) exporters)
      ∙ ap (by_key exporter_of count) is in
      let importers = all_from (λ (e : Edge). e.importer < count) (by_key exporter_of count all)
      (λ e at. (inside count within e (by_key_in exporter_of count all e at)).importer) in
      sort_importers count (subst (All (λ (e : Edge). e.importer < count)) (sym first) importers) ∙ ap (by_key importer_of count) first
