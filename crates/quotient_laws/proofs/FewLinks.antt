-- The links of the groups are no more than those of the network: of each link at most one edge leads from one group to
-- another one.
use Rattle.std.proofs.Common.{◌≡◌, ◌≢◌, ◌⊎◌, inl, inr, ℕ, zero, suc, ◌+◌, ◌<◌, ◌≤◌, max, Bool, true, false, ◌&&◌, ◌||◌, List, [], ◌∷◌, map, length, Option, Some, refl, sym, ap, ◌∙◌, subst, arith, nat_eq}
use Rattle.std.specs.Prelude.{Contains, filter, slice_get, slice_index}
use Rattle.std.specs.Option.{option_map, option_map_or}
use Rattle.std.specs.List.{fold, range_with_len}
use Rattle.std.proofs.lemmas.Bool.Decides.{nat_tests}
use Rattle.std.proofs.lemmas.List.Elements.{All-contains}
use Rattle.std.proofs.lemmas.Option.{slice_get-map, get_or_from_slice_get, slice_get_within}
use Rattle.base_kit.specs.declared.act_graph.Edge.{Edge}
use Rattle.base_kit.specs.Prefixes.{Prefix}
use Rattle.base_kit.specs.Sets.{AllAbove, IsAscending}
use Rattle.base_kit.proofs.Elements.{In, contains_in, filter_in, range_in, get_in}
use Rattle.base_kit.proofs.SetFacts.{ascending_filter, same_number}
use Rattle.cfg_ast.specs.declared.network.Network.{Network}
use Rattle.cfg_ast.specs.declared.topology.Link.{Link}
use Rattle.cfg_ast.specs.meaning.Topology.{links_of}
use Rattle.abstract_net.specs.Links.{link_at, importer_at, exporter_at, goes, on_link, is_pair, one_if, HasEnds, NoMoreLinks}
use Rattle.srp_core.specs.Problem.{Problem, Precedes, AreOrdered}
use Rattle.srp_core.specs.ProblemOf.{IsProblemOf}
use Rattle.quotient_laws.specs.Links.{QuotientHasNoMoreLinks}

-- ---- lists

and_parts : (a b : Bool) → (a && b) ≡ true → (a ≡ true) × (b ≡ true)
and_parts true b e = (refl, e)
and_parts false b e = absurd cc

one_number : (m n : ℕ) → nat_eq m n ≡ true → m ≡ n
one_number m n e = grind (arith, nat_tests)

range_above : (n a k : ℕ) → n < a → AllAbove n (range_with_len a k)
range_above n a zero less = tt
range_above n a (suc k) less = (less, range_above n (a + 1) k (omega (arith, less)))

range_ascends : (a k : ℕ) → IsAscending (range_with_len a k)
range_ascends a zero = tt
range_ascends a (suc k) = (range_above a (a + 1) k (omega arith), range_ascends (a + 1) k)

at_most_one : (ks : List ℕ) → IsAscending ks → ((x y : ℕ) → In ks x → In ks y → x ≡ y) → length ks ≤ 1
at_most_one [] up same = omega arith
at_most_one (k ∷ []) up same = omega arith
at_most_one (k ∷ j ∷ ks) up same = absurd (let less = up.0.0 in let one = same k j (inl refl) (inr (inl refl)) in omega (arith, less, one))

fold_most : (bound m : ℕ) (es : List Edge) → m ≤ bound → ((edge : Edge) → In es edge → edge.link < bound)
    → fold (λ (k : ℕ) (edge : Edge). max k (edge.link + 1)) m es ≤ bound
fold_most bound m [] low below = low
fold_most bound m (edge ∷ es) low below =
    fold_most bound (max m (edge.link + 1)) es (let here = below edge (inl refl) in omega (arith, here, low)) (λ other h. below other (inr h))

at_place : (f : Edge → ℕ) (es : List Edge) (k : ℕ) (edge : Edge) → slice_get es k ≡ Some edge → slice_index (map f es) k ≡ f edge
at_place f es k edge at = get_or_from_slice_get (map f es) k (f edge) 0 (slice_get-map f es k ∙ ap (option_map f) at)

get_at : {X : Type 0} (xs : List X) (k : ℕ) → k < length xs → (x : X) × (slice_get xs k ≡ Some x)
get_at [] k h = absurd (omega (arith, h))
get_at (x ∷ xs) zero h = (x, refl)
get_at (x ∷ xs) (suc k) h = get_at xs k (omega (arith, h))

-- ---- an edge stands once

not_before_itself : (x : Edge) → Precedes x x → ⊥
not_before_itself x (inl less) = absurd (omega (arith, less))
not_before_itself x (inr (same, inl less)) = absurd (omega (arith, less))
not_before_itself x (inr (same, inr (also, less))) = absurd (omega (arith, less))

stands_once : (es : List Edge) → AreOrdered es → (k j : ℕ) (x : Edge) → slice_get es k ≡ Some x → slice_get es j ≡ Some x → k ≡ j
stands_once [] up k j x at to = absurd cc
stands_once (y ∷ ys) up zero zero x at to = refl
stands_once (y ∷ ys) up zero (suc j) x at to =
    absurd (let same : y ≡ x = cc in not_before_itself x
    (subst (λ (z : Edge). Precedes z x) same (All-contains (Precedes y) ys x up.0 (contains_in ys x (get_in ys j x to)))))
stands_once (y ∷ ys) up (suc k) zero x at to =
    absurd (let same : y ≡ x = cc in not_before_itself x
    (subst (λ (z : Edge). Precedes z x) same (All-contains (Precedes y) ys x up.0 (contains_in ys x (get_in ys k x at)))))
stands_once (y ∷ ys) up (suc k) (suc j) x at to = ap (λ i. suc i) (stands_once ys up.1 k j x at to)

-- ---- the ends of a link

abbrev low_of : Network → ℕ → ℕ
low_of n l = option_map_or (λ (link : Link). link.low) (slice_get (links_of n) l) 0

abbrev high_of : Network → ℕ → ℕ
high_of n l = option_map_or (λ (link : Link). link.high) (slice_get (links_of n) l) 0

-- an edge goes from one end of its link to the other
abbrev HasEndsOf : Network → Edge → Type 0
HasEndsOf n edge =
    ((low_of n edge.link ≡ edge.importer) × (high_of n edge.link ≡ edge.exporter)) ⊎
    ((low_of n edge.link ≡ edge.exporter) × (high_of n edge.link ≡ edge.importer))

record IsOnLink (n : Network) (edge : Edge) : Type 0 where
  inside : edge.link < length (links_of n)
  ends : HasEndsOf n edge

module _ (n : Network) (p : Prefix) (P : Problem) (of : IsProblemOf n p P) (groups : List ℕ) where
  on_its_link : (edge : Edge) → Contains P.edges edge → IsOnLink n edge
  on_its_link edge has =
      let stood = of.edges_stand edge has in
      let d = stood.0 in
      let s = stood.1 in
      let links = links_of n in
      let moved : (link : Link) → slice_get links d.link ≡ Some link → slice_get links edge.link ≡ Some link =
      λ link at. subst (λ k. slice_get links k ≡ Some link) (sym s.link) at in
      let low_at : Option Link → ℕ = λ o. option_map_or (λ (link : Link). link.low) o 0 in
      let high_at : Option Link → ℕ = λ o. option_map_or (λ (link : Link). link.high) o 0 in
      elim s.is_direction [
        | inl at ↦ (
            let here = moved _ at in
            record { inside = slice_get_within links edge.link _ here; ends = inl (ap low_at here ∙ sym s.importer, ap high_at here ∙ sym s.exporter) })
        | inr at ↦ (
            let here = moved _ at in
            record { inside = slice_get_within links edge.link _ here; ends = inr (ap low_at here ∙ sym s.exporter, ap high_at here ∙ sym s.importer) })
      ]

  -- an edge by its place
  record IsOn (g h l k : ℕ) : Type 0 where
    edge : Edge
    at : slice_get P.edges k ≡ Some edge
    link : edge.link ≡ l
    importer : slice_index groups edge.importer ≡ g
    exporter : slice_index groups edge.exporter ≡ h

  on_place : (g h l k : ℕ) → In (filter (goes P.edges groups g h) (on_link P.edges l)) k → IsOn g h l k
  on_place g h l k has =
      let es = P.edges in
      let f = filter_in (goes es groups g h) (on_link es l) k has in
      let o = filter_in (λ j. nat_eq (link_at es j) l) (range_with_len 0 (length es)) k f.0 in
      let below = range_in 0 (length es) k o.0 in
      let edge = get_at es k (omega (arith, below)) in
      let both = and_parts (nat_eq (importer_at es groups k) g) (nat_eq (exporter_at es groups k) h) f.1 in
      record {
        edge = edge.0;
        at = edge.1;
        link = sym (at_place (λ (x : Edge). x.link) es k edge.0 edge.1) ∙ one_number (link_at es k) l o.1;
        importer = sym (at_place (λ (x : Edge). slice_index groups x.importer) es k edge.0 edge.1) ∙ one_number (importer_at es groups k) g both.0;
        exporter = sym (at_place (λ (x : Edge). slice_index groups x.exporter) es k edge.0 edge.1) ∙ one_number (exporter_at es groups k) h both.1;
      }

  has_edge : (g h l k : ℕ) → (on : IsOn g h l k) → Contains P.edges on.edge
  has_edge g h l k on = contains_in P.edges on.edge (get_in P.edges k on.edge on.at)

  -- where the edge goes, by the groups of the ends of its link
  abbrev Goes : ℕ → ℕ → ℕ → ℕ → Type 0
  Goes importer g h l =
      ((low_of n l ≡ importer) × (slice_index groups (low_of n l) ≡ g) × (slice_index groups (high_of n l) ≡ h))
      ⊎ ((high_of n l ≡ importer) × (slice_index groups (low_of n l) ≡ h) × (slice_index groups (high_of n l) ≡ g))

  goes_over : (g h l k : ℕ) → (on : IsOn g h l k) → Goes on.edge.importer g h l
  goes_over g h l k on =
      let o = on_its_link on.edge (has_edge g h l k on) in
      subst (λ t. Goes on.edge.importer g h t) on.link
      (elim o.ends [
        | inl low ↦ inl (low.0, ap (slice_index groups) low.0 ∙ on.importer, ap (slice_index groups) low.1 ∙ on.exporter)
        | inr high ↦ inr (high.1, ap (slice_index groups) high.0 ∙ on.exporter, ap (slice_index groups) high.1 ∙ on.importer)
      ])

  one_place : (g h l : ℕ) → g ≢ h → (k j : ℕ) → IsOn g h l k → IsOn g h l j → k ≡ j
  one_place g h l other k j on to = elim (goes_over g h l k on) [
    | inl a ↦ elim (goes_over g h l j to) [ inl b ↦ same (sym a.0 ∙ b.0) | inr b ↦ absurd (other (sym a.1 ∙ b.1)) ]
    | inr a ↦ elim (goes_over g h l j to) [ inl b ↦ absurd (other (sym b.1 ∙ a.1)) | inr b ↦ same (sym a.0 ∙ b.0) ]
  ]
    where
      same : on.edge.importer ≡ to.edge.importer → k ≡ j
      same importers =
          let edges = of.rules.edges in
          let one = edges.one_of_link on.edge to.edge (has_edge g h l k on) (has_edge g h l j to) importers (on.link ∙ sym to.link) in
          stands_once P.edges edges.ordered k j on.edge on.at (subst (λ (x : Edge). slice_get P.edges j ≡ Some x) (sym one) to.at)

  pair_of : (i g h l : ℕ) → Goes i g h l → is_pair (slice_index groups (low_of n l)) (slice_index groups (high_of n l)) g h ≡ true
  pair_of i g h l (inl a) = rw (same_number (slice_index groups (low_of n l)) g a.1, same_number (slice_index groups (high_of n l)) h a.2) refl
  pair_of i g h l (inr a) =
      or_true (nat_eq (slice_index groups (low_of n l)) g && nat_eq (slice_index groups (high_of n l)) h) _
      (rw (same_number (slice_index groups (low_of n l)) h a.1, same_number (slice_index groups (high_of n l)) g a.2) refl)
    where
      or_true : (a b : Bool) → b ≡ true → (a || b) ≡ true
      or_true true b is = refl
      or_true false b is = is

  once : (g h l : ℕ) → g ≢ h
      → length (filter (goes P.edges groups g h) (on_link P.edges l)) ≤ one_if
      (is_pair (slice_index groups (low_of n l)) (slice_index groups (high_of n l)) g h)
  once g h l other =
      step (filter (goes P.edges groups g h) (on_link P.edges l)) (λ k has. on_place g h l k has)
      (at_most_one (filter (goes P.edges groups g h) (on_link P.edges l))
      (ascending_filter (goes P.edges groups g h) (on_link P.edges l)
      (ascending_filter (λ j. nat_eq (link_at P.edges j) l) (range_with_len 0 (length P.edges)) (range_ascends 0 (length P.edges))))
      (λ k j has has'. one_place g h l other k j (on_place g h l k has) (on_place g h l j has')))
    where
      step : (ks : List ℕ) → ((k : ℕ) → In ks k → IsOn g h l k) → length ks ≤ 1
          → length ks ≤ one_if (is_pair (slice_index groups (low_of n l)) (slice_index groups (high_of n l)) g h)
      step [] on few = omega arith
      step (k ∷ ks) on few =
          let here = on k (inl refl) in
          let Few : Bool → Type 0 = λ b. suc (length ks) ≤ one_if b in
          subst Few (sym (pair_of here.edge.importer g h l (goes_over g h l k here))) few

  ends_of_links : HasEnds P.edges groups (length (links_of n)) (λ l. slice_index groups (low_of n l)) (λ l. slice_index groups (high_of n l))
  ends_of_links = record {
    bounded = fold_most (length (links_of n)) 0 P.edges (omega arith) (λ edge h. (on_its_link edge (contains_in P.edges edge h)).inside);
    once = once;
  }

pub no_more_links : NoMoreLinks → QuotientHasNoMoreLinks
no_more_links law n p P groups count of =
    law P.edges groups count (length (links_of n)) (λ l. slice_index groups (low_of n l)) (λ l. slice_index groups (high_of n l))
    (ends_of_links n p P of groups)
