-- The links of the groups are no more than those of the network read. Public: the laws of the network that is written cite it.
use Rattle.std.proofs.Common.{
  ◌≡◌,
  ◌≢◌,
  ℕ,
  zero,
  suc,
  ◌+◌,
  ◌<◌,
  ◌≤◌,
  max,
  Bool,
  true,
  false,
  cond,
  ◌&&◌,
  ◌||◌,
  List,
  [],
  ◌∷◌,
  map,
  length,
  ◌⊎◌,
  inl,
  inr,
  Option,
  Some,
  refl,
  sym,
  ◌∙◌,
  ap,
  subst,
  arith,
  nat_eq,
}
use Rattle.std.specs.Prelude.{All, Contains, filter, slice_get, slice_index}
use Rattle.std.specs.Option.{option_map, option_map_or}
use Rattle.std.specs.List.{AllByRecursion, fold, enumerate_from, range_with_len}
use Rattle.std.proofs.lemmas.Bool.Decides.{nat_tests}
use Rattle.std.proofs.lemmas.List.Elements.{All-contains, All-from_recursion}
use Rattle.std.proofs.lemmas.Option.{slice_get-map, get_or_from_slice_get, slice_get_within}
use Rattle.base_kit.specs.Prefixes.{Prefix}
use Rattle.base_kit.specs.declared.act_graph.Edge.{Edge}
use Rattle.base_kit.proofs.Elements.{In, contains_in, in_contains, map_in, filter_in, in_filter, enumerate_in, range_in, get_in}
use Rattle.base_kit.proofs.SetFacts.{same_number}
use Rattle.cfg_ast.specs.declared.classes.DestClass.{DestClass}
use Rattle.cfg_ast.specs.declared.network.Network.{Network}
use Rattle.cfg_ast.specs.declared.topology.Link.{Link}
use Rattle.cfg_ast.specs.meaning.Classes.{originated, is_same_class, is_least, class_of, classes_of}
use Rattle.cfg_ast.specs.meaning.Topology.{links_of}
use Rattle.cfg_ast.proofs.ClassFacts.{is_one_class}
use Rattle.abstract_net.specs.Links.{link_at, importer_at, exporter_at, goes, on_link, is_pair, one_if, HasEnds, NoMoreLinks, quotient_links}
use Rattle.abstract_net.specs.declared.qlink.QLink.{QLink}
use Rattle.srp_core.specs.Problem.{Precedes, AreOrdered}
use Rattle.srp_core.specs.ProblemOf.{IsProblemOf}
use Rattle.config_emit.specs.ActLinks.{act_link}
use Rattle.config_emit.specs.Interfaces.{is_at, links_at}
use Rattle.config_emit.specs.Plan.{Plan}
use Rattle.config_emit.specs.declared.act_links.ActLink.{ActLink}

-- ---- the ends of a link

abbrev low_of : Network → ℕ → ℕ
low_of n l = option_map_or (λ (link : Link). link.low) (slice_get (links_of n) l) 0

abbrev high_of : Network → ℕ → ℕ
high_of n l = option_map_or (λ (link : Link). link.high) (slice_get (links_of n) l) 0

-- an edge goes from one end of its link to the other
abbrev HasEndsOf : Network → Edge → Type 0
HasEndsOf n edge =
    ((low_of n edge.link ≡ edge.importer) × (high_of n edge.link ≡ edge.exporter))
    ⊎ ((low_of n edge.link ≡ edge.exporter) × (high_of n edge.link ≡ edge.importer))

record IsOnLink (n : Network) (edge : Edge) : Type 0 where
  inside : edge.link < length (links_of n)
  ends : HasEndsOf n edge

on_its_link : (e : Plan) (p : Prefix) → IsProblemOf e.network p e.problem → (edge : Edge) → Contains e.problem.edges edge → IsOnLink e.network edge
on_its_link e p problem edge has =
    let stood = problem.edges_stand edge has in
    let d = stood.0 in
    let s = stood.1 in
    let links = links_of e.network in
    let moved : (link : Link) → slice_get links d.link ≡ Some link → slice_get links edge.link ≡ Some link =
    λ link at. subst (λ k. slice_get links k ≡ Some link) (sym s.link) at in
    let low : Option Link → ℕ = λ o. option_map_or (λ (link : Link). link.low) o 0 in
    let high : Option Link → ℕ = λ o. option_map_or (λ (link : Link). link.high) o 0 in
    elim s.is_direction [
      | inl at ↦ (
          let here = moved _ at in
          record { inside = slice_get_within links edge.link _ here; ends = inl (ap low here ∙ sym s.importer, ap high here ∙ sym s.exporter) })
      | inr at ↦ (
          let here = moved _ at in
          record { inside = slice_get_within links edge.link _ here; ends = inr (ap low here ∙ sym s.exporter, ap high here ∙ sym s.importer) })
    ]

fold_most : (bound m : ℕ) (es : List Edge) → m ≤ bound → ((edge : Edge) → In es edge → edge.link < bound)
    → fold (λ (k : ℕ) (edge : Edge). max k (edge.link + 1)) m es ≤ bound
fold_most bound m [] low below = low
fold_most bound m (edge ∷ es) low below =
    fold_most bound (max m (edge.link + 1)) es (let here = below edge (inl refl) in omega arith) (λ other h. below other (inr h))

-- ---- an edge by its place

get_at : {X : Type 0} (xs : List X) (k : ℕ) → k < length xs → (x : X) × (slice_get xs k ≡ Some x)
get_at [] k h = absurd (omega arith)
get_at (x ∷ xs) zero h = (x, refl)
get_at (x ∷ xs) (suc k) h = get_at xs k (omega arith)

record IsOn (e : Plan) (g h l k : ℕ) : Type 0 where
  edge : Edge
  at : slice_get e.problem.edges k ≡ Some edge
  link : edge.link ≡ l
  importer : slice_index e.groups edge.importer ≡ g
  exporter : slice_index e.groups edge.exporter ≡ h

and_parts : (a b : Bool) → (a && b) ≡ true → (a ≡ true) × (b ≡ true)
and_parts true b e = (refl, e)
and_parts false b e = absurd cc

one_number : (m n : ℕ) → nat_eq m n ≡ true → m ≡ n
one_number m n e = grind (arith, nat_tests)

at_place : (f : Edge → ℕ) (es : List Edge) (k : ℕ) (edge : Edge) → slice_get es k ≡ Some edge → slice_index (map f es) k ≡ f edge
at_place f es k edge at = get_or_from_slice_get (map f es) k (f edge) 0 (slice_get-map f es k ∙ ap (option_map f) at)

on_place : (e : Plan) (g h l k : ℕ) → In (filter (goes e.problem.edges e.groups g h) (on_link e.problem.edges l)) k → IsOn e g h l k
on_place e g h l k has =
    let es = e.problem.edges in
    let f = filter_in (goes es e.groups g h) (on_link es l) k has in
    let o = filter_in (λ j. nat_eq (link_at es j) l) (range_with_len 0 (length es)) k f.0 in
    let below = range_in 0 (length es) k o.0 in
    let edge = get_at es k (omega arith) in
    let both = and_parts (nat_eq (importer_at es e.groups k) g) (nat_eq (exporter_at es e.groups k) h) f.1 in
    record {
      edge = edge.0;
      at = edge.1;
      link = sym (at_place (λ (x : Edge). x.link) es k edge.0 edge.1) ∙ one_number (link_at es k) l o.1;
      importer = sym (at_place (λ (x : Edge). slice_index e.groups x.importer) es k edge.0 edge.1) ∙ one_number (importer_at es e.groups k) g both.0;
      exporter = sym (at_place (λ (x : Edge). slice_index e.groups x.exporter) es k edge.0 edge.1) ∙ one_number (exporter_at es e.groups k) h both.1;
    }

has_edge : (e : Plan) (g h l k : ℕ) → (on : IsOn e g h l k) → Contains e.problem.edges on.edge
has_edge e g h l k on = contains_in e.problem.edges on.edge (get_in e.problem.edges k on.edge on.at)

-- where the edge goes, by the groups of the ends of its link
abbrev Goes : Plan → ℕ → ℕ → ℕ → ℕ → Type 0
Goes e importer g h l =
    ((low_of e.network l ≡ importer) × (slice_index e.groups (low_of e.network l) ≡ g) × (slice_index e.groups (high_of e.network l) ≡ h))
    ⊎ ((high_of e.network l ≡ importer) × (slice_index e.groups (low_of e.network l) ≡ h) × (slice_index e.groups (high_of e.network l) ≡ g))

goes_over : (e : Plan) (p : Prefix) → IsProblemOf e.network p e.problem → (g h l k : ℕ) → (on : IsOn e g h l k) → Goes e on.edge.importer g h l
goes_over e p problem g h l k on =
    let of = on_its_link e p problem on.edge (has_edge e g h l k on) in
    subst (λ t. Goes e on.edge.importer g h t) on.link
    (elim of.ends [
      | inl low ↦ inl (low.0, ap (slice_index e.groups) low.0 ∙ on.importer, ap (slice_index e.groups) low.1 ∙ on.exporter)
      | inr high ↦ inr (high.1, ap (slice_index e.groups) high.0 ∙ on.exporter, ap (slice_index e.groups) high.1 ∙ on.importer)
    ])

-- ---- an edge stands once

not_before_itself : (x : Edge) → Precedes x x → ⊥
not_before_itself x (inl less) = absurd (omega arith)
not_before_itself x (inr (same, inl less)) = absurd (omega arith)
not_before_itself x (inr (same, inr (also, less))) = absurd (omega arith)

later_not_first : (y x : Edge) (ys : List Edge) → All (Precedes y) ys → y ≡ x → In ys x → ⊥
later_not_first y x ys before same has =
    not_before_itself x (subst (λ (z : Edge). Precedes z x) same (All-contains (Precedes y) ys x before (contains_in ys x has)))

stands_once : (es : List Edge) → AreOrdered es → (k j : ℕ) (x : Edge) → slice_get es k ≡ Some x → slice_get es j ≡ Some x → k ≡ j
stands_once [] up k j x at to = absurd cc
stands_once (y ∷ ys) up zero zero x at to = refl
stands_once (y ∷ ys) up zero (suc j) x at to = absurd (let same : y ≡ x = cc in later_not_first y x ys up.0 same (get_in ys j x to))
stands_once (y ∷ ys) up (suc k) zero x at to = absurd (let same : y ≡ x = cc in later_not_first y x ys up.0 same (get_in ys k x at))
stands_once (y ∷ ys) up (suc k) (suc j) x at to = ap (λ i. suc i) (stands_once ys up.1 k j x at to)

one_place : (e : Plan) (p : Prefix) → IsProblemOf e.network p e.problem → (g h l : ℕ) → g ≢ h → (k j : ℕ) → IsOn e g h l k → IsOn e g h l j → k ≡ j
one_place e p problem g h l other k j on to = elim (goes_over e p problem g h l k on) [
  | inl a ↦ elim (goes_over e p problem g h l j to) [ inl b ↦ same (sym a.0 ∙ b.0) | inr b ↦ absurd (other (sym a.1 ∙ b.1)) ]
  | inr a ↦ elim (goes_over e p problem g h l j to) [ inl b ↦ absurd (other (sym b.1 ∙ a.1)) | inr b ↦ same (sym a.0 ∙ b.0) ]
]
  where
    same : on.edge.importer ≡ to.edge.importer → k ≡ j
    same importers =
        let edges = problem.rules.edges in
        let one = edges.one_of_link on.edge to.edge (has_edge e g h l k on) (has_edge e g h l j to) importers (on.link ∙ sym to.link) in
        stands_once e.problem.edges edges.ordered k j on.edge on.at (subst (λ (x : Edge). slice_get e.problem.edges j ≡ Some x) (sym one) to.at)

-- numbers that ascend from a number on
abbrev AscendFrom : ℕ → List ℕ → Type 0
AscendFrom m [] = Unit {0}
AscendFrom m (k ∷ ks) = (m ≤ k) × AscendFrom (suc k) ks

from_less : (m n : ℕ) (ks : List ℕ) → m ≤ n → AscendFrom n ks → AscendFrom m ks
from_less m n [] less up = tt
from_less m n (k ∷ ks) less up = (let least = up.0 in omega arith, up.1)

range_ascends : (a n : ℕ) → AscendFrom a (range_with_len a n)
range_ascends a zero = tt
range_ascends a (suc n) = (omega arith, subst (λ m. AscendFrom m (range_with_len (a + 1) n)) (omega arith) (range_ascends (a + 1) n))

filter_ascends : (p : ℕ → Bool) (m : ℕ) (ks : List ℕ) → AscendFrom m ks → AscendFrom m (filter p ks)
filter_ascends p m [] up = tt
filter_ascends p m (k ∷ ks) up = step (p k) (filter_ascends p (suc k) ks up.1)
  where
    step : (b : Bool) → AscendFrom (suc k) (filter p ks) → AscendFrom m (cond b (k ∷ filter p ks) (filter p ks))
    step true rest = (up.0, rest)
    step false rest = from_less m (suc k) (filter p ks) (let least = up.0 in omega arith) rest

at_most_one : (m : ℕ) (ks : List ℕ) → AscendFrom m ks → ((x y : ℕ) → In ks x → In ks y → x ≡ y) → length ks ≤ 1
at_most_one m [] up same = omega arith
at_most_one m (k ∷ []) up same = omega arith
at_most_one m (k ∷ j ∷ ks) up same = absurd (let less = up.1.0 in let one = same k j (inl refl) (inr (inl refl)) in omega arith)

-- the groups of the ends of a link
abbrev low_group : Plan → ℕ → ℕ
low_group e l = slice_index e.groups (low_of e.network l)

abbrev high_group : Plan → ℕ → ℕ
high_group e l = slice_index e.groups (high_of e.network l)

pair_of : (e : Plan) (i g h l : ℕ) → Goes e i g h l → is_pair (low_group e l) (high_group e l) g h ≡ true
pair_of e i g h l (inl a) = rw (same_number (low_group e l) g a.1, same_number (high_group e l) h a.2) refl
pair_of e i g h l (inr a) = or_true (nat_eq (slice_index e.groups (low_of e.network l)) g && nat_eq (slice_index e.groups (high_of e.network l)) h) _
    (rw (same_number (slice_index e.groups (low_of e.network l)) h a.1, same_number (slice_index e.groups (high_of e.network l)) g a.2) refl)
  where
    or_true : (a b : Bool) → b ≡ true → (a || b) ≡ true
    or_true true b is = refl
    or_true false b is = is

once : (e : Plan) (p : Prefix) → IsProblemOf e.network p e.problem → (g h l : ℕ) → g ≢ h
    → length (filter (goes e.problem.edges e.groups g h) (on_link e.problem.edges l)) ≤ one_if (is_pair (low_group e l) (high_group e l) g h)
once e p problem g h l other =
    step (filter (goes e.problem.edges e.groups g h) (on_link e.problem.edges l)) (λ k has. on_place e g h l k has)
    (at_most_one 0 (filter (goes e.problem.edges e.groups g h) (on_link e.problem.edges l))
    (filter_ascends (goes e.problem.edges e.groups g h) 0 (on_link e.problem.edges l)
    (filter_ascends (λ j. nat_eq (link_at e.problem.edges j) l) 0 (range_with_len 0 (length e.problem.edges)) (range_ascends 0 (length e.problem.edges))))
    (λ k j has has'. one_place e p problem g h l other k j (on_place e g h l k has) (on_place e g h l j has')))
  where
    step : (ks : List ℕ) → ((k : ℕ) → In ks k → IsOn e g h l k) → length ks ≤ 1 → length ks ≤ one_if (is_pair (low_group e l) (high_group e l) g h)
    step [] on few = omega arith
    step (k ∷ ks) on few =
        let here = on k (inl refl) in
        let P : Bool → Type 0 = λ b. suc (length ks) ≤ one_if b in
        subst P (sym (pair_of e here.edge.importer g h l (goes_over e p problem g h l k here))) few

pub no_more_links : NoMoreLinks → (e : Plan) (p : Prefix) → IsProblemOf e.network p e.problem → e.links ≡ quotient_links e.problem.edges e.groups e.count
    → length e.links ≤ length (links_of e.network)
no_more_links law e p problem links =
    let es = e.problem.edges in
    let ends : HasEnds es e.groups (length (links_of e.network)) (low_group e) (high_group e) = record {
      bounded = fold_most (length (links_of e.network)) 0 es (omega arith) (λ edge h. (on_its_link e p problem edge (contains_in es edge h)).inside);
      once = once e p problem;
    } in
    subst (λ (ls : List QLink). length ls ≤ length (links_of e.network)) (sym links)
    (law es e.groups e.count (length (links_of e.network)) (low_group e) (high_group e) ends)

-- a class has a prefix, that of which it is the class
pub has_prefix : (n : Network) (class : DestClass) → Contains (classes_of n) class → (p : Prefix) × Contains class.prefixes p
unfolding classes_of
has_prefix n class has =
    let (p, least, is) = map_in (class_of n) (filter (is_least n) (originated n)) class (in_contains (classes_of n) class has) in
    let among = (filter_in (is_least n) (originated n) p least).0 in
    let own = in_filter (is_same_class n p) (originated n) p among (is_one_class n p p (record { origins = refl; answers = refl })) in
    (p, subst (λ (c : DestClass). Contains c.prefixes p) is (contains_in (class_of n p).prefixes p own))

-- ---- the numbers of the links of a group

abbrev IsSmall : ActLink → Type 0
IsSmall l = l.number < 1048576

drawn_below : (draw : ℕ × QLink → ActLink) (ls : List (ℕ × QLink)) → ((l : ℕ × QLink) → In ls l → IsSmall (draw l)) → AllByRecursion IsSmall (map draw ls)
drawn_below draw [] each = tt
drawn_below draw (l ∷ ls) each = (each l (inl refl), drawn_below draw ls (λ m h. each m (inr h)))

pub numbers_below : (e : Plan) (g : ℕ) (links : List ActLink) → length e.links ≤ 1048576
    → links ≡ map (act_link e.problem.protocol e.problem.edges e.links) (links_at e g) → All (λ (l : ActLink). l.number < 1048576) links
unfolding links_at
numbers_below e g links few are =
    let draw = act_link e.problem.protocol e.problem.edges e.links in
    subst (λ (ls : List ActLink). All IsSmall ls) (sym are) (All-from_recursion IsSmall (map draw (links_at e g)) (drawn_below draw (links_at e g) below))
  where
    below : (l : ℕ × QLink) → In (filter (is_at g) (enumerate_from 0 e.links)) l → (act_link e.problem.protocol e.problem.edges e.links l).number < 1048576
    below (t, l) h =
        let (k, is, at) = enumerate_in e.links 0 t l (filter_in (is_at g) (enumerate_from 0 e.links) (t, l) h).0 in
        let inside = slice_get_within e.links k l at in
        omega arith
