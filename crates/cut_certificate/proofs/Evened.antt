-- The test of blocks that mirror each other's edges is that of admissible partitions.
use Rattle.std.proofs.Common.{◌≡◌, ◌≢◌, ℕ, zero, suc, ◌+◌, ◌<◌, ◌≤◌, Bool, true, false, ◌||◌, not, nat_eq, List, [], ◌∷◌, length, map, get_or, slice_index_or, refl, sym, ap, ◌∙◌, subst, arith, inl, inr}
use Rattle.std.specs.Prelude.{slice_index}
use Rattle.std.specs.List.{list_all, range_with_len}
use Rattle.std.proofs.lemmas.Bool.{cases_eq}
use Rattle.std.proofs.lemmas.List.Sums.{AllPass-from_list_all, list_all-from_AllPass}
use Rattle.base_kit.specs.declared.act_graph.Edge.{Edge}
use Rattle.base_kit.specs.declared.act_graph.ActGraph.{ActGraph}
use Rattle.base_kit.specs.Partition.{color, HasTwinIfOutgoing, IsMirroredAt, IsAdmissibleOn, members_of}
use Rattle.base_kit.proofs.Elements.{In, in_at, in_map, in_filter, filter_in, map_in}
use Rattle.base_kit.proofs.Mirrors.{mirrored_refl, mirrored_trans}
use Rattle.cut_certificate.specs.Blocks.{distinct, place_among, groups_of, reaches}
use Rattle.cut_certificate.specs.Evenness.{is_matched, is_matched_if_own, is_mirrored, mirror_each_other, is_even, are_even}
use Rattle.cut_certificate.proofs.Seen.{same_test, other_test, test_same, at_place, place_below, distinct_has, or_true}
use Rattle.cut_certificate.proofs.Reached.{reaches_by, reaches_if, and_first, and_second, both}

matched_by : (edges : List Edge) (numbers : List ℕ) (u v : ℕ) (edge : Edge) → is_matched_if_own edges numbers u v edge ≡ true → edge.importer ≡ u
    → slice_index numbers edge.exporter ≢ slice_index numbers u → reaches edges numbers (slice_index numbers edge.exporter) edge.act v ≡ true
matched_by edges numbers u v edge e importer leaves =
    let own : nat_eq edge.importer u ≡ true = same_test _ _ importer in
    let out : nat_eq (slice_index numbers edge.exporter) (slice_index numbers u) ≡ false = other_test _ _ leaves in
    sym (ap (λ a. not a || is_matched edges numbers u v edge) own ∙ ap (λ b. b || reaches edges numbers (slice_index numbers edge.exporter) edge.act v) out) ∙ e

pub mirrored_by : (edges : List Edge) (numbers : List ℕ) (u v : ℕ) → is_mirrored edges numbers u v ≡ true → IsMirroredAt edges numbers u v
unfolding is_mirrored IsMirroredAt
mirrored_by edges numbers u v e k d inside = record {
  twin = λ importer leaves.
      let edge = slice_index_or edges k d in
      let passes = AllPass-from_list_all (is_matched_if_own edges numbers u v) edges e k d inside in
      let l = reaches_by edges numbers (slice_index numbers edge.exporter) edge.act v (matched_by edges numbers u v edge passes importer leaves) in
      (l.place, l.edge, l.inside, l.at, (l.importer, l.acts, l.into));
}

matched_if : (edges : List Edge) (numbers : List ℕ) (u v : ℕ) (edge : Edge) → HasTwinIfOutgoing edges numbers u v edge
    → is_matched_if_own edges numbers u v edge ≡ true
matched_if edges numbers u v edge has = elim (cases_eq edge.importer u) [
  | inl importer ↦ elim (cases_eq (slice_index numbers edge.exporter) (slice_index numbers u)) [
    | inl stays ↦ ap (λ b. not (nat_eq edge.importer u) || (b || reaches edges numbers (slice_index numbers edge.exporter) edge.act v)) (same_test _ _ stays)
        ∙ or_true (not (nat_eq edge.importer u))
    | inr leaves ↦
        let (k, twin, inside, at, facts) = has.twin importer leaves in
        let r = reaches_if edges numbers (slice_index numbers edge.exporter) edge.act v (k, twin, inside, at, facts) in
        ap (λ b. not (nat_eq edge.importer u) || (nat_eq (slice_index numbers edge.exporter) (slice_index numbers u) || b)) r
        ∙ ap (λ b. not (nat_eq edge.importer u) || b) (or_true (nat_eq (slice_index numbers edge.exporter) (slice_index numbers u)))
        ∙ or_true (not (nat_eq edge.importer u))
  ]
  | inr other ↦ ap (λ a. not a || is_matched edges numbers u v edge) (other_test _ _ other)
]

pub mirrored_if : (edges : List Edge) (numbers : List ℕ) (u v : ℕ) → IsMirroredAt edges numbers u v → is_mirrored edges numbers u v ≡ true
unfolding is_mirrored IsMirroredAt
mirrored_if edges numbers u v mirrored = list_all-from_AllPass (is_matched_if_own edges numbers u v) edges
    (λ k d inside. matched_if edges numbers u v (slice_index_or edges k d) (mirrored k d inside))

-- ---- lists

all_in : {X : Type 0} (test : X → Bool) (xs : List X) → list_all test xs ≡ true → (x : X) → In xs x → test x ≡ true
all_in test [] e x h = absurd h
all_in test (y ∷ ys) e x (inl same) = ap test (sym same) ∙ and_first (test y) (list_all test ys) e
all_in test (y ∷ ys) e x (inr h) = all_in test ys (and_second (test y) (list_all test ys) e) x h

in_all : {X : Type 0} (test : X → Bool) (xs : List X) → ((x : X) → In xs x → test x ≡ true) → list_all test xs ≡ true
in_all test [] each = refl
in_all test (x ∷ xs) each = both (test x) (list_all test xs) (each x (inl refl)) (in_all test xs (λ y h. each y (inr h)))

in_range : (a n u : ℕ) → a ≤ u → u < a + n → In (range_with_len a n) u
in_range a zero u low high = absurd (omega arith)
in_range a (suc n) u low high = elim (cases_eq a u) [
  | inl e ↦ inl e
  | inr ne ↦ inr (in_range (a + 1) n u (omega arith) (omega arith))
]

range_in : (a n u : ℕ) → In (range_with_len a n) u → (a ≤ u) × (u < a + n)
range_in a zero u h = absurd h
range_in a (suc n) u (inl e) = (omega arith, omega arith)
range_in a (suc n) u (inr h) = let r = range_in (a + 1) n u h in (omega (arith, r.0), omega (arith, r.1))

pub is_member : (numbers : List ℕ) (block u : ℕ) → u < length numbers → slice_index numbers u ≡ block → In (members_of numbers block) u
is_member numbers block u hu is = in_filter (λ router. nat_eq (slice_index numbers router) block) (range_with_len 0 (length numbers)) u
    (in_range 0 (length numbers) u (omega arith) (omega arith)) (same_test _ _ is)

member_is : (numbers : List ℕ) (block u : ℕ) → In (members_of numbers block) u → (u < length numbers) × (slice_index numbers u ≡ block)
member_is numbers block u h =
    let r = filter_in (λ router. nat_eq (slice_index numbers router) block) (range_with_len 0 (length numbers)) u h in
    let b = range_in 0 (length numbers) u r.0 in
    (omega (arith, b.1), test_same _ _ r.1)

own_group : (numbers : List ℕ) (u : ℕ) → u < length numbers → In (groups_of numbers) (members_of numbers (slice_index numbers u))
unfolding groups_of
own_group numbers u hu =
    let has = distinct_has numbers u hu in
    in_map (members_of numbers) (distinct numbers) (slice_index numbers u)
    (in_at (distinct numbers) (slice_index numbers u) (place_among (distinct numbers) (slice_index numbers u))
    (place_below (distinct numbers) (slice_index numbers u) has)
    (any_default (distinct numbers) (place_among (distinct numbers) (slice_index numbers u)) (slice_index numbers u) 0
    (place_below (distinct numbers) (slice_index numbers u) has) ∙ at_place (distinct numbers) (slice_index numbers u) has))
  where
    any_default : (xs : List ℕ) (j d e : ℕ) → j < length xs → get_or xs j d ≡ get_or xs j e
    any_default [] j d e lt = absurd (omega arith)
    any_default (x ∷ xs) zero d e lt = refl
    any_default (x ∷ xs) (suc j) d e lt = any_default xs j d e (omega arith)

-- ---- even blocks

-- a member and the first one
even_with_first : (edges : List Edge) (numbers : List ℕ) (group : List ℕ) → is_even edges numbers group ≡ true → (u : ℕ) → In group u → (first : ℕ)
    × In group first × IsMirroredAt edges numbers u first × IsMirroredAt edges numbers first u × ((v : ℕ) → In group v → IsMirroredAt edges numbers first v)
even_with_first edges numbers [] e u h = absurd h
even_with_first edges numbers (first ∷ members) e u h = (first, inl refl, to u h, from u h, from)
  where
    to : (v : ℕ) → In (first ∷ members) v → IsMirroredAt edges numbers v first
    to v (inl same) = subst (λ w. IsMirroredAt edges numbers w first) same (mirrored_refl edges numbers first)
    to v (inr h) = mirrored_by edges numbers v first (and_second (is_mirrored edges numbers first v) (is_mirrored edges numbers v first)
        (all_in (mirror_each_other edges numbers first) members e v h))

    from : (v : ℕ) → In (first ∷ members) v → IsMirroredAt edges numbers first v
    from v (inl same) = subst (IsMirroredAt edges numbers first) same (mirrored_refl edges numbers first)
    from v (inr h) = mirrored_by edges numbers first v (and_first (is_mirrored edges numbers first v) (is_mirrored edges numbers v first)
        (all_in (mirror_each_other edges numbers first) members e v h))

pub even_mirrors : (edges : List Edge) (numbers : List ℕ) → are_even edges numbers ≡ true → (u v : ℕ) → u < length numbers → v < length numbers
    → slice_index numbers u ≡ slice_index numbers v → IsMirroredAt edges numbers u v
unfolding are_even
even_mirrors edges numbers e u v hu hv same =
    let block = slice_index numbers u in
    let group = members_of numbers block in
    let even = all_in (is_even edges numbers) (groups_of numbers) e group (own_group numbers u hu) in
    let member = is_member numbers block u hu refl in
    let (first, own, to, from, all) = even_with_first edges numbers group even u member in
    mirrored_trans edges numbers u first v (sym (member_is numbers block first own).1) to (all v (is_member numbers block v hv (sym same)))

pub even_admissible : (graph : ActGraph) (numbers : List ℕ) → length numbers ≡ graph.count
    → ((u v : ℕ) → u < graph.count → v < graph.count → slice_index numbers u ≡ slice_index numbers v → color graph u ≡ color graph v)
    → are_even graph.edges numbers ≡ true → IsAdmissibleOn graph numbers
even_admissible graph numbers total colors e = record {
  total = total;
  colors = colors;
  edges = λ u v hu hv same. even_mirrors graph.edges numbers e u v (omega arith) (omega arith) same;
}

mirrors_even : (edges : List Edge) (numbers : List ℕ) (group : List ℕ) → ((u v : ℕ) → In group u → In group v → is_mirrored edges numbers u v ≡ true)
    → is_even edges numbers group ≡ true
mirrors_even edges numbers [] each = refl
mirrors_even edges numbers (first ∷ members) each = in_all (mirror_each_other edges numbers first) members
    (λ u h. both _ _ (each first u (inl refl) (inr h)) (each u first (inr h) (inl refl)))

pub admissible_even : (graph : ActGraph) (numbers : List ℕ) → IsAdmissibleOn graph numbers → are_even graph.edges numbers ≡ true
unfolding are_even groups_of
admissible_even graph numbers admissible =
    in_all (is_even graph.edges numbers) (map (members_of numbers) (distinct numbers)) (λ group h.
    let (block, known, is) = map_in (members_of numbers) (distinct numbers) group h in
    subst (λ g. is_even graph.edges numbers g ≡ true) is (mirrors_even graph.edges numbers (members_of numbers block) (λ u v hu hv.
    let mu = member_is numbers block u hu in
    let mv = member_is numbers block v hv in
    let lu : u < graph.count = omega (arith, mu.0, admissible.total) in
    let lv : v < graph.count = omega (arith, mv.0, admissible.total) in
    mirrored_if graph.edges numbers u v (admissible.edges u v lu lv (mu.1 ∙ sym mv.1)))))

pub mirrors_itself : (edges : List Edge) (numbers : List ℕ) (u : ℕ) → mirror_each_other edges numbers u u ≡ true
mirrors_itself edges numbers u = let own = mirrored_if edges numbers u u (mirrored_refl edges numbers u) in both _ _ own own
