-- An edge without a twin gives a split that can be made.
use Rattle.std.proofs.Common.{◌≡◌, ℕ, ◌+◌, ◌<◌, ◌≤◌, true, false, ◌&&◌, nat_eq, List, length, get_or, All, refl, sym, ap, ◌∙◌, arith, Ok}
use Rattle.std.specs.Prelude.{slice_index, nat_le}
use Rattle.std.proofs.lemmas.Bool.Decides.{nat_tests}
use Rattle.base_kit.specs.declared.act_graph.Edge.{Edge}
use Rattle.base_kit.specs.Sets.{has}
use Rattle.cut_certificate.specs.declared.certificate.Split.{Split}
use Rattle.cut_certificate.specs.declared.certifying.Parting.{Parting}
use Rattle.cut_certificate.specs.declared.outgoing.Placed.{Placed}
use Rattle.cut_certificate.specs.Blocks.{Blocks, edge_act, is_block, are_parts, reaches, numbers_after, blocks_after, split_by}
use Rattle.cut_certificate.specs.InUse.{AreInUse}
use Rattle.cut_certificate.specs.Uneven.{IsUnmatched, IsParting, IsSplitBy}
use Rattle.cut_certificate.proofs.Reached.{both}
use Rattle.cut_certificate.proofs.Seen.{other_test, has_at}
use Rattle.cut_certificate.proofs.Used.{after_at, after_long, goes, stays_here}

made_if : (edges : List Edge) (blocks : Blocks) (split : Split) → (is_block blocks split.block && is_block blocks split.by) ≡ true
    → nat_eq split.block split.by ≡ false → are_parts split.block (blocks_after edges blocks split) ≡ true
    → split_by edges blocks split ≡ Ok (blocks_after edges blocks split)
unfolding split_by
made_if edges blocks split known apart parts = rw (known, apart, parts) refl

block_known : (blocks : Blocks) (u : ℕ) → All (λ number. (0 < number) × (number ≤ blocks.count)) blocks.numbers → u < length blocks.numbers
    → is_block blocks (slice_index blocks.numbers u) ≡ true
block_known blocks u known h =
    let (some, few) = known u 0 h in
    let low : nat_le 1 (slice_index blocks.numbers u) ≡ true = grind (arith, nat_tests) in
    let high : nat_le (slice_index blocks.numbers u) blocks.count ≡ true = grind (arith, nat_tests) in
    both _ _ low high

has_value : (xs : List ℕ) (k n : ℕ) → k < length xs → get_or xs k 0 ≡ n → has xs n ≡ true
has_value xs k n h is = ap (has xs) (sym is) ∙ has_at xs k h

pub unmatched_splits : (edges : List Edge) (blocks : Blocks) (p : Placed) (one other : ℕ) (split : Split) → AreInUse blocks.numbers blocks.count
    → one < length blocks.numbers → other < length blocks.numbers
    → slice_index blocks.numbers other ≡ slice_index blocks.numbers one → IsUnmatched edges blocks.numbers p one other
    → split.block ≡ slice_index blocks.numbers one → split.by ≡ slice_index blocks.numbers p.edge.exporter → split.edge ≡ p.place
    → split_by edges blocks split ≡ Ok (blocks_after edges blocks split)
unmatched_splits edges blocks p one other split are h1 h2 together un block by edge =
    let numbers = blocks.numbers in
    let act : edge_act edges split.edge ≡ p.edge.act = ap (edge_act edges) edge ∙ un.act in
    let next = blocks.count + 1 in
    let after = numbers_after edges numbers split.block split.by (edge_act edges split.edge) next in
    let long = after_long edges numbers split.block split.by (edge_act edges split.edge) next in
    let reach = ap (λ (b : ℕ). reaches edges numbers b (edge_act edges split.edge) one) by
    ∙ ap (λ (a : ℕ). reaches edges numbers (slice_index numbers p.edge.exporter) a one) act ∙ un.reached in
    let none = ap (λ (b : ℕ). reaches edges numbers b (edge_act edges split.edge) other) by
    ∙ ap (λ (a : ℕ). reaches edges numbers (slice_index numbers p.edge.exporter) a other) act ∙ un.unreached in
    let left : has after split.block ≡ true = has_value after other split.block (omega arith)
    (after_at edges numbers split.block split.by (edge_act edges split.edge) next other h2
    ∙ stays_here edges numbers split.block split.by (edge_act edges split.edge) next other none ∙ together ∙ sym block) in
    let right : has after next ≡ true = has_value after one next (omega arith)
    (after_at edges numbers split.block split.by (edge_act edges split.edge) next one h1
    ∙ goes edges numbers split.block split.by (edge_act edges split.edge) next one (sym block) reach) in
    made_if edges blocks split
    (both _ _ (ap (is_block blocks) block ∙ block_known blocks one are.known h1)
    (ap (is_block blocks) by ∙ block_known blocks p.edge.exporter are.known un.exporter))
    (other_test split.block split.by (λ e. un.leaves (sym by ∙ sym e ∙ block)))
    (both _ _ left right)

pub parting_splits : (edges : List Edge) (blocks : Blocks) (p : Parting) (split : Split) → AreInUse blocks.numbers blocks.count
    → IsParting edges blocks.numbers p → IsSplitBy blocks.numbers p split → split_by edges blocks split ≡ Ok (blocks_after edges blocks split)
parting_splits edges blocks p split are parting is =
    unmatched_splits edges blocks p.by p.goes p.stays split are parting.goes parting.stays parting.together parting.unmatched is.block is.by is.edge
