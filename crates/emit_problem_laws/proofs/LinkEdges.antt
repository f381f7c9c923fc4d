-- The edges of the problem of the groups are those of its links.
use Rattle.std.proofs.Common.{◌≡◌, ℕ, ◌+◌, ◌<◌, List, inl, inr, Option, Some, refl, sym, ◌∙◌, ap, subst, arith}
use Rattle.std.specs.Prelude.{slice_get, flat_map}
use Rattle.std.specs.Option.{option_map}
use Rattle.std.specs.List.{enumerate_from}
use Rattle.base_kit.specs.declared.act_graph.Edge.{Edge}
use Rattle.base_kit.specs.declared.protocol.Protocol.{Protocol}
use Rattle.base_kit.proofs.Elements.{In, in_left, in_right, append_in, in_flat_map, flat_map_in, in_enumerate, enumerate_in, get_in}
use Rattle.by_key.specs.ByKey.{by_key}
use Rattle.by_key.proofs.KeyedItems.{by_key_in, in_by_key}
use Rattle.abstract_net.specs.Carried.{IsJoined}
use Rattle.abstract_net.specs.declared.qlink.QLink.{QLink}
use Rattle.srp_quotient.specs.Groups.{edge_into, lower_edge, listed, edges_of_link, importer_of, exporter_of, quotient_edges}
use Rattle.srp_quotient.proofs.Quotient.{listed_in}
use Rattle.emit_link_laws.proofs.PairedLinks.{AreBetween}

-- the edge that a link has into g from h
pub record IsLinkEdge (q : Protocol) (es : List Edge) (links : List QLink) (edge : Edge) : Type 0 where
  pub place : ℕ
  pub link : QLink
  pub at : slice_get links place ≡ Some link
  pub to : ℕ
  pub from : ℕ
  pub k : ℕ
  pub joined : IsJoined link to from
  pub into : edge_into q links to link ≡ Some k
  pub is : lower_edge es place to from k ≡ edge

pub of_edge : (q : Protocol) (es : List Edge) (count : ℕ) (links : List QLink) (edge : Edge) → In (quotient_edges q es count links) edge →
    IsLinkEdge q es links edge
unfolding quotient_edges
of_edge q es count links edge at =
    let all = flat_map (edges_of_link q es links) (enumerate_from 0 links) in
    let inner = by_key_in exporter_of count all edge (by_key_in importer_of count (by_key exporter_of count all) edge at) in
    let t = flat_map_in (edges_of_link q es links) (enumerate_from 0 links) edge inner in
    let n = enumerate_in links 0 t.0.0 t.0.1 t.1 in
    let at_place : slice_get links t.0.0 ≡ Some t.0.1 =
    (let same : n.0 ≡ t.0.0 = (let e = n.1 in omega arith) in subst (λ (p : ℕ). slice_get links p ≡ Some t.0.1) same n.2) in
    elim (append_in (listed (option_map (lower_edge es t.0.0 t.0.1.low t.0.1.high) (edge_into q links t.0.1.low t.0.1)))
    (listed (option_map (lower_edge es t.0.0 t.0.1.high t.0.1.low) (edge_into q links t.0.1.high t.0.1))) edge t.2) [
      | inl a ↦ (let k = listed_in (edge_into q links t.0.1.low t.0.1) (lower_edge es t.0.0 t.0.1.low t.0.1.high) edge a in
          record { place = t.0.0; link = t.0.1; at = at_place; to = t.0.1.low; from = t.0.1.high; k = k.0; joined = inl (refl, refl); into = k.1; is = k.2 })
      | inr b ↦ (let k = listed_in (edge_into q links t.0.1.high t.0.1) (lower_edge es t.0.0 t.0.1.high t.0.1.low) edge b in
          record { place = t.0.0; link = t.0.1; at = at_place; to = t.0.1.high; from = t.0.1.low; k = k.0; joined = inr (refl, refl); into = k.1; is = k.2 })
    ]

in_listed : (o : Option ℕ) (f : ℕ → Edge) (k : ℕ) → o ≡ Some k → In (listed (option_map f o)) (f k)
in_listed o f k e = subst (λ (p : Option ℕ). In (listed (option_map f p)) (f k)) (sym e) (inl refl)

at_link : (q : Protocol) (es : List Edge) (links : List QLink) (place : ℕ) (l : QLink) (g h k : ℕ) → IsJoined l g h → edge_into q links g l ≡ Some k →
    In (edges_of_link q es links (place, l)) (lower_edge es place g h k)
at_link q es links place l g h k (inl j) e =
    let P : ℕ → ℕ → Type 0 = λ x y. In (edges_of_link q es links (place, l)) (lower_edge es place x y k) in
    let f : edge_into q links l.low l ≡ Some k = ap (λ (x : ℕ). edge_into q links x l) j.0 ∙ e in
    subst (P g) j.1 (subst (λ (x : ℕ). P x l.high) j.0 (in_left _ _ _ (in_listed (edge_into q links l.low l) (lower_edge es place l.low l.high) k f)))
at_link q es links place l g h k (inr j) e =
    let P : ℕ → ℕ → Type 0 = λ x y. In (edges_of_link q es links (place, l)) (lower_edge es place x y k) in
    let f : edge_into q links l.high l ≡ Some k = ap (λ (x : ℕ). edge_into q links x l) j.0 ∙ e in
    subst (P g) j.1 (subst (λ (x : ℕ). P x l.low) j.0 (in_right _ _ _ (in_listed (edge_into q links l.high l) (lower_edge es place l.high l.low) k f)))

pub ends_below : (links : List QLink) (count : ℕ) (l : QLink) (g h : ℕ) → AreBetween links count → In links l → IsJoined l g h → (g < count) × (h < count)
ends_below links count l g h between at (inl j) = let less = between.low l at in let few = between.high l at in let a = j.0 in let b = j.1 in
    (omega arith, omega arith)
ends_below links count l g h between at (inr j) = let less = between.low l at in let few = between.high l at in let a = j.0 in let b = j.1 in
    (omega arith, omega arith)

pub to_edge : (q : Protocol) (es : List Edge) (count : ℕ) (links : List QLink) → AreBetween links count → (place : ℕ) (l : QLink) (g h k : ℕ) →
    slice_get links place ≡ Some l → IsJoined l g h → edge_into q links g l ≡ Some k → In (quotient_edges q es count links) (lower_edge es place g h k)
unfolding quotient_edges
to_edge q es count links between place l g h k at joined into =
    let all = flat_map (edges_of_link q es links) (enumerate_from 0 links) in
    let same : 0 + place ≡ place = omega arith in
    let numbered : In (enumerate_from 0 links) (place, l) = subst (λ m. In (enumerate_from 0 links) (m, l)) same (in_enumerate links 0 place l at) in
    let outer : In all (lower_edge es place g h k) =
    in_flat_map (edges_of_link q es links) (enumerate_from 0 links) (place, l) (lower_edge es place g h k) numbered
    (at_link q es links place l g h k joined into) in
    let ends = ends_below links count l g h between (get_in links place l at) joined in
    in_by_key importer_of count (by_key exporter_of count all) (lower_edge es place g h k)
    (in_by_key exporter_of count all (lower_edge es place g h k) outer ends.1) ends.0
