-- Each graph has a certificate: as long as a block is not even, a split can be made, and there are no more blocks than routers.
use Rattle.std.proofs.Common.{◌≡◌, ◌≢◌, ◌⊎◌, inl, inr, ℕ, zero, suc, ◌+◌, ◌<◌, ◌≤◌, Bool, true, false, not, ◌||◌, ◌&&◌, nat_eq, List, [], ◌∷◌, length, slice_get, slice_index_or, Some, Ok, refl, sym, ap, ◌∙◌, subst, arith}
use Rattle.std.specs.Prelude.{nat_le, slice_index}
use Rattle.std.proofs.lemmas.Bool.{cases_eq}
use Rattle.std.proofs.lemmas.Bool.Decides.{nat_tests}
use Rattle.base_kit.specs.declared.act_graph.Edge.{Edge}
use Rattle.base_kit.specs.declared.act_graph.ActGraph.{ActGraph}
use Rattle.base_kit.specs.Partition.{IsMirroredAt}
use Rattle.base_kit.specs.Sets.{has}
use Rattle.cut_certificate.specs.declared.certificate.Certificate.{Certificate}
use Rattle.cut_certificate.specs.declared.certificate.Split.{Split}
use Rattle.cut_certificate.specs.Blocks.{Blocks, first_blocks, groups_of, edge_act, is_block, are_parts, reaches, blocks_after, split_by, numbers_after}
use Rattle.cut_certificate.specs.Certificates.{AreAfter}
use Rattle.cut_certificate.specs.Evenness.{is_matched, is_matched_if_own, is_mirrored}
use Rattle.cut_certificate.specs.InUse.{AreInUse}
use Rattle.cut_certificate.specs.Uneven.{AreMirrored}
use Rattle.cut_certificate.proofs.Evened.{mirrored_by}
use Rattle.cut_certificate.proofs.Leaders.{refined_accepted}
use Rattle.cut_certificate.proofs.Reached.{both, reaches_if}
use Rattle.cut_certificate.proofs.Seen.{has_at, other_test, same_test, test_same}
use Rattle.cut_certificate.proofs.Used.{after_at, after_long, first_used, goes, map_long, split_used, stays_here}
use Rattle.existence_laws.specs.Laws.{EachGraphHasCertificate}
use Rattle.existence_laws.proofs.Search.{below, some_fails, Fails}

read_act : (edges : List Edge) (k : ℕ) (edge : Edge) → slice_get edges k ≡ Some edge → edge_act edges k ≡ edge.act
read_act [] k edge at = absurd cc
read_act (e ∷ es) zero edge at = ap (λ (x : Edge). x.act) (let same : e ≡ edge = cc in same)
read_act (e ∷ es) (suc k) edge at = read_act es k edge at

within : {X : Type 0} (xs : List X) (k : ℕ) (x : X) → slice_get xs k ≡ Some x → k < length xs
within [] k x at = absurd cc
within (y ∷ ys) zero x at = omega arith
within (y ∷ ys) (suc k) x at = (let r = within ys k x at in omega arith)

read_or : {X : Type 0} (xs : List X) (k : ℕ) (x d : X) → slice_get xs k ≡ Some x → slice_index_or xs k d ≡ x
read_or [] k x d at = absurd cc
read_or (y ∷ ys) zero x d at = (let same : y ≡ x = cc in same)
read_or (y ∷ ys) (suc k) x d at = read_or ys k x d at

neither : (a b : Bool) → a || b ≡ false → (a ≡ false) × (b ≡ false)
neither true b e = absurd cc
neither false b e = (refl, e)

not_false : (a : Bool) → not a ≡ false → a ≡ true
not_false true e = refl
not_false false e = absurd cc

apart : (a b : ℕ) → nat_eq a b ≡ false → a ≢ b
apart a b e same = (let t = same_test a b same in absurd cc)

module _ (graph : ActGraph) (blocks : Blocks) (total : length blocks.numbers ≡ graph.count) where
  abbrev numbers : List ℕ
  numbers = blocks.numbers

  abbrev edges : List Edge
  edges = graph.edges

  -- an edge parts a block: one member has it, and another one of the block has no twin
  record IsParted : Type 0 where
    goes : ℕ
    stays : ℕ
    place : ℕ
    edge : Edge
    goes_in : goes < length numbers
    stays_in : stays < length numbers
    together : slice_index numbers stays ≡ slice_index numbers goes
    inside : place < length edges
    act : edge_act edges place ≡ edge.act
    exporter : edge.exporter < length numbers
    leaves : slice_index numbers edge.exporter ≢ slice_index numbers goes
    reached : reaches edges numbers (slice_index numbers edge.exporter) edge.act goes ≡ true
    unreached : reaches edges numbers (slice_index numbers edge.exporter) edge.act stays ≡ false

  -- an edge without a twin
  unmatched : (u v : ℕ) → u < length numbers → v < length numbers → slice_index numbers u ≡ slice_index numbers v
      → Fails (is_matched_if_own edges numbers u v) edges
      → IsParted
  unmatched u v hu hv same f =
      let inside = within edges f.place f.item f.at in
      let first = neither (not (nat_eq f.item.importer u)) (is_matched edges numbers u v f.item) f.fails in
      let second = neither (nat_eq (slice_index numbers f.item.exporter) (slice_index numbers u))
      (reaches edges numbers (slice_index numbers f.item.exporter) f.item.act v) first.1 in
      let exporter = subst (λ (e : Edge). e.exporter < graph.count) (read_or edges f.place f.item f.item f.at) (graph.exporters_in_range f.place f.item inside)
      in record {
        goes = u;
        stays = v;
        place = f.place;
        edge = f.item;
        goes_in = hu;
        stays_in = hv;
        together = sym same;
        inside = inside;
        act = read_act edges f.place f.item f.at;
        exporter = subst (λ (n : ℕ). f.item.exporter < n) (sym total) exporter;
        leaves = apart (slice_index numbers f.item.exporter) (slice_index numbers u) second.0;
        reached = reaches_if edges numbers (slice_index numbers f.item.exporter) f.item.act u (
          f.place,
          f.item,
          inside,
          read_or edges f.place f.item f.item f.at,
          (test_same f.item.importer u (not_false (nat_eq f.item.importer u) first.0), refl, refl),
        );
        unreached = second.1;
      }

  pair : (u v : ℕ) → u < length numbers → v < length numbers → (slice_index numbers u ≡ slice_index numbers v → IsMirroredAt edges numbers u v) ⊎ IsParted
  unfolding is_mirrored
  pair u v hu hv = elim (cases_eq (slice_index numbers u) (slice_index numbers v)) [
    | inr other ↦ inl (λ same. absurd (other same))
    | inl same ↦ by same (is_mirrored edges numbers u v) refl
  ]
    where
      by : slice_index numbers u ≡ slice_index numbers v → (b : Bool) → is_mirrored edges numbers u v ≡ b
          → (slice_index numbers u ≡ slice_index numbers v → IsMirroredAt edges numbers u v) ⊎ IsParted
      by same true e = inl (λ _. mirrored_by edges numbers u v e)
      by same false e = inr (unmatched u v hu hv same (some_fails (is_matched_if_own edges numbers u v) edges e))

  abbrev MirrorsAll : ℕ → Type 0
  MirrorsAll u = (v : ℕ) → v < length numbers → slice_index numbers u ≡ slice_index numbers v → IsMirroredAt edges numbers u v

  -- all blocks are even, or an edge parts one
  even_or_parted : AreMirrored edges numbers ⊎ IsParted
  even_or_parted = elim (below (length numbers) MirrorsAll (λ u. IsParted) (λ u hu. row u hu)) [
    | inl all ↦ inl (record { each = λ u v hu hv same. all u hu v hv same })
    | inr some ↦ inr some.2
  ]
    where
      row : (u : ℕ) → u < length numbers → MirrorsAll u ⊎ IsParted
      row u hu = elim (below (length numbers) (λ v. slice_index numbers u ≡ slice_index numbers v → IsMirroredAt edges numbers u v) (λ v. IsParted)
          (λ v hv. pair u v hu hv)) [
            | inl all ↦ inl all
            | inr some ↦ inr some.2
          ]

  -- the blocks after the split by that edge
  record IsNext : Type 0 where
    split : Split
    next : Blocks
    inside : split.edge < length edges
    made : split_by edges blocks split ≡ Ok next
    in_use : AreInUse next.numbers next.count
    kept : length next.numbers ≡ graph.count
    one_more : next.count ≡ blocks.count + 1

  block_known : AreInUse numbers blocks.count → (u : ℕ) → u < length numbers → is_block blocks (slice_index numbers u) ≡ true
  block_known used u h =
      let (some, few) = used.known u 0 h in
      let low : nat_le 1 (slice_index numbers u) ≡ true = grind (arith, nat_tests) in
      let high : nat_le (slice_index numbers u) blocks.count ≡ true = grind (arith, nat_tests) in
      both _ _ low high

  has_value : (xs : List ℕ) (k n : ℕ) → k < length xs → slice_index xs k ≡ n → has xs n ≡ true
  has_value xs k n h is = ap (has xs) (sym is) ∙ has_at xs k h

  made_if : (split : Split) → (is_block blocks split.block && is_block blocks split.by) ≡ true → nat_eq split.block split.by ≡ false
      → are_parts split.block (blocks_after edges blocks split) ≡ true
      → split_by edges blocks split ≡ Ok (blocks_after edges blocks split)
  unfolding split_by
  made_if split known apart parts = rw (known, apart, parts) refl

  next_by : AreInUse numbers blocks.count → IsParted → IsNext
  next_by used p =
      let split : Split = record { block = slice_index numbers p.goes; by = slice_index numbers p.edge.exporter; edge = p.place } in
      let block = slice_index numbers p.goes in
      let into = slice_index numbers p.edge.exporter in
      let act = edge_act edges p.place in
      let next = blocks.count + 1 in
      let after = numbers_after edges numbers block into act next in
      let long = after_long edges numbers block into act next in
      let goes_in = p.goes_in in
      let stays_in = p.stays_in in
      let reach : reaches edges numbers into act p.goes ≡ true = ap (λ (a : ℕ). reaches edges numbers into a p.goes) p.act ∙ p.reached in
      let none : reaches edges numbers into act p.stays ≡ false = ap (λ (a : ℕ). reaches edges numbers into a p.stays) p.act ∙ p.unreached in
      let left : has after block ≡ true = has_value after p.stays block (omega arith)
      (after_at edges numbers block into act next p.stays p.stays_in ∙ stays_here edges numbers block into act next p.stays none ∙ p.together) in
      let right : has after next ≡ true = has_value after p.goes next (omega arith)
      (after_at edges numbers block into act next p.goes p.goes_in ∙ goes edges numbers block into act next p.goes refl reach) in
      record {
        split = split;
        next = blocks_after edges blocks split;
        inside = p.inside;
        made = made_if split (both _ _ (block_known used p.goes p.goes_in) (block_known used p.edge.exporter p.exporter))
            (other_test block into (λ e. p.leaves (sym e))) (both _ _ left right);
        in_use = split_used edges numbers blocks.count block into act used left right;
        kept = long ∙ total;
        one_more = refl;
      }

-- the splits that lead from some blocks to even ones
record AreRefined (graph : ActGraph) (blocks : Blocks) (fuel : ℕ) : Type 0 where
  splits : List Split
  last : Blocks
  after : AreAfter graph blocks splits last
  even : AreMirrored graph.edges last.numbers
  few : length splits ≤ fuel

refined : (graph : ActGraph) (fuel : ℕ) (blocks : Blocks) → AreInUse blocks.numbers blocks.count → length blocks.numbers ≡ graph.count
    → graph.count ≤ blocks.count + fuel → AreRefined graph blocks fuel
refined graph zero blocks used total enough = elim (even_or_parted graph blocks total) [
  | inl even ↦ record { splits = []; last = blocks; after = refl; even = even; few = omega arith }
  | inr parted ↦ (
      let n = next_by graph blocks total used parted in
      let few = n.in_use.few in
      let t = n.kept in
      let m = n.one_more in
      absurd (omega arith))
]
refined graph (suc fuel) blocks used total enough = elim (even_or_parted graph blocks total) [
  | inl even ↦ record { splits = []; last = blocks; after = refl; even = even; few = omega arith }
  | inr parted ↦ (
      let n = next_by graph blocks total used parted in
      let r = refined graph fuel n.next n.in_use n.kept (let m = n.one_more in omega arith) in
      record { splits = n.split ∷ r.splits; last = r.last; after = (n.next, n.inside, n.made, r.after); even = r.even; few = (let f = r.few in omega arith) })
]

first_in_use : (graph : ActGraph) → AreInUse (first_blocks graph).numbers (first_blocks graph).count
unfolding first_blocks
first_in_use graph = first_used graph.colors

first_total : (graph : ActGraph) → length (first_blocks graph).numbers ≡ graph.count
unfolding first_blocks
first_total graph = map_long _ graph.colors ∙ graph.one_color_each

pub each_graph_has_certificate : EachGraphHasCertificate
each_graph_has_certificate graph =
    let r = refined graph graph.count (first_blocks graph) (first_in_use graph) (first_total graph) (omega arith) in
    let certificate : Certificate = record { splits = r.splits; groups = groups_of r.last.numbers } in
    record {
      certificate = certificate;
      accepted = refined_accepted graph (first_blocks graph) r.last certificate refl r.after r.even refl;
      few = r.few;
    }
