-- The links between groups ascend by their lesser ends.
use Rattle.std.proofs.Common.{◌≡◌, ℕ, zero, suc, ◌+◌, ◌-◌, ◌<◌, ◌≤◌, List, [], ◌∷◌, ◌++◌, length, inl, inr, refl, sym, ap, arith}
use Rattle.std.specs.Prelude.{flat_map, max}
use Rattle.std.specs.List.{range_with_len}
use Rattle.base_kit.proofs.Elements.{In, append_in, flat_map_in, map_in, range_in}
use Rattle.base_kit.specs.declared.act_graph.Edge.{Edge}
use Rattle.by_key.proofs.SortedByKey.{Rises}
use Rattle.abstract_net.specs.declared.qlink.QLink.{QLink}
use Rattle.abstract_net.specs.Links.{group_link, acts_into, links_of_pair, group_links_from, quotient_links}
use Rattle.emit_link_laws.proofs.PairedLinks.{AreBetween}

abbrev low_end : QLink → ℕ
low_end l = l.low

range_from : (a n m : ℕ) → In (range_with_len a n) m → a ≤ m
range_from a zero m h = absurd h
range_from a (suc n) m (inl e) = omega arith
range_from a (suc n) m (inr h) = let r = range_from (a + 1) n m h in omega arith

rises_append : (xs ys : List QLink) → Rises low_end xs → Rises low_end ys → ((x y : QLink) → In xs x → In ys y → x.low ≤ y.low) → Rises low_end (xs ++ ys)
rises_append [] ys a b h = b
rises_append (x ∷ xs) ys a b h = (
  (λ z at. elim (append_in xs ys z at) [ inl before ↦ a.0 z before | inr behind ↦ h x z (inl refl) behind ]),
  rises_append xs ys a.1 b (λ z w i j. h z w (inr i) j),
)

rises_at_one : (g : ℕ) (xs : List QLink) → ((x : QLink) → In xs x → x.low ≡ g) → Rises low_end xs
rises_at_one g [] same = tt
rises_at_one g (x ∷ xs) same = ((λ z at. let a = same x (inl refl) in let b = same z (inr at) in omega arith), rises_at_one g xs (λ z at. same z (inr at)))

record IsOfPair (count g : ℕ) (l : QLink) : Type 0 where
  low : l.low ≡ g
  high : g < l.high
  inside : l.high < count

of_pair : (es : List Edge) (groups : List ℕ) (count g : ℕ) (l : QLink) → In (group_links_from es groups count g) l → IsOfPair count g l
of_pair es groups count g l at =
    let pair = flat_map_in (links_of_pair es groups g) (range_with_len (g + 1) (count - (g + 1))) l at in
    let made = map_in (group_link g pair.0 (acts_into es groups g pair.0) (acts_into es groups pair.0 g))
    (range_with_len 0 (max (length (acts_into es groups g pair.0)) (length (acts_into es groups pair.0 g)))) l pair.2 in
    let high : pair.0 ≡ l.high = ap (λ (m : QLink). m.high) made.2 in
    let more = range_from (g + 1) (count - (g + 1)) pair.0 pair.1 in
    let less = range_in (g + 1) (count - (g + 1)) pair.0 pair.1 in
    record { low = sym (ap (λ (m : QLink). m.low) made.2); high = omega arith; inside = omega arith }

rises_from : (es : List Edge) (groups : List ℕ) (count a n : ℕ) → Rises low_end (flat_map (group_links_from es groups count) (range_with_len a n))
rises_from es groups count a zero = tt
rises_from es groups count a (suc n) =
    rises_append (group_links_from es groups count a) (flat_map (group_links_from es groups count) (range_with_len (a + 1) n))
    (rises_at_one a (group_links_from es groups count a) (λ l at. (of_pair es groups count a l at).low))
    (rises_from es groups count (a + 1) n)
    (λ l m at also.
    let first = of_pair es groups count a l at in
    let from = flat_map_in (group_links_from es groups count) (range_with_len (a + 1) n) m also in
    let second = of_pair es groups count from.0 m from.2 in
    let behind = range_from (a + 1) n from.0 from.1 in
    let low = first.low in
    let other = second.low in
    omega arith)

pub quotient_between : (es : List Edge) (groups : List ℕ) (count : ℕ) → AreBetween (quotient_links es groups count) count
unfolding quotient_links
quotient_between es groups count = record {
  low = λ l at. let from = flat_map_in (group_links_from es groups count) (range_with_len 0 count) l at in let pair = of_pair es groups count from.0 l from.2 in
      let low = pair.low in let high = pair.high in omega arith;
  high = λ l at. let from = flat_map_in (group_links_from es groups count) (range_with_len 0 count) l at in (of_pair es groups count from.0 l from.2).inside;
  rises = rises_from es groups count 0 count;
}
