use Rattle.std.proofs.Common.{rules, ℕ, List, Contains, ◌≡◌, [], ◌∷◌, ◌++◌, ◌+◌, false, slice_set, length, ◌<◌, subst, ap, ◌∙◌, arith}
use Rattle.std.proofs.lemmas.List.{length_push}
use Rattle.std.proofs.lemmas.List.Elements.{All-from_get_or}
use Rattle.std.proofs.Math.ListN.{length-set}
use Rattle.refine_partition.specs.Pending.{IsRefining}
use Rattle.refine_partition.proofs.RefineLemmas.{refining_start, refining_turn, refining_end, marked_all, marked_taken, left_known, taken_or_left}
use Rattle.refine_partition.proofs.TakenLemmas.{once_start, once_more}
use Rattle.refine_partition.proofs.pending.refined.Goals as goal

pub loop-block-init : goal.loop-block-init
loop-block-init g c =
    let start = c.in_ok-blocks.ensures.start in
    let counted : c.len.result ≡ length c.in_ok-blocks.blocks.lists.items = search rules in
    let all = rw counted at c.in_ok-queue.ensures in
    let few = start.few in
    let size = all.few in
    record {
      settled = c.in_ok-blocks.ensures.settled;
      refining = refining_start _ _ _ _ start all.all all.known;
      size = all.size;
      marked = marked_all _ _ _ all;
      splits = (0, omega arith, once_start _ _ _ _ start all.all);
      places = c.in_ok-work.ensures ∙ c.count-count.ensures;
      bound = omega arith;
    }

pub add_pieces-requires-clause-marked : goal.add_pieces-requires-clause-marked
add_pieces-requires-clause-marked g c =
    let popped : c.loop-block.queue.items ≡ c.pop_back.new.self.items ++ c.in-Some.block ∷ [] = c.in-Some.ensures.items in
    let known = left_known _ _ _ _ popped c.loop-block.invariant.refining.known in
    let lt = known.1 in
    let size = c.loop-block.invariant.size in
    marked_taken _ _ _ _ c.loop-block.invariant.marked popped (omega arith)

pub loop-block-preserved : goal.loop-block-preserved
loop-block-preserved g c =
    let popped : c.loop-block.queue.items ≡ c.pop_back.new.self.items ++ c.in-Some.block ∷ [] = c.in-Some.ensures.items in
    let before = c.loop-block.invariant in
    let known = left_known _ _ _ _ popped before.refining.known in
    let size : length c.loop-block.waits.items ≡ length c.loop-block.blocks.lists.items = before.size in
    let divided = c.in_ok-turn.ensures.parted in
    let added = c.in_ok-add_pieces.ensures in
    let marks : length (slice_set c.loop-block.waits.items c.in-Some.block false) ≡ length c.loop-block.blocks.lists.items = length-set _ _ _ ∙ size in
    let waiting = rw (marks, c.origins.ensures) at added.waiting in
    let refining = refining_turn _ _ _ _ _ _ _ _ _ _ before.refining (taken_or_left _ _ _ popped) known.0 divided waiting in
    let longer = ap length popped ∙ length_push _ _ in
    let few = waiting.few in
    let bound = before.bound in
    let tick = c.in_ok-turn.ensures.tick in
    let grows = divided.size in
    let most = divided.few in
    let small = before.refining.small in
    let (splits, turns, once) = before.splits in
    record {
      settled = c.in_ok-turn.ensures.settled;
      refining = refining;
      size = added.size ∙ ap length c.deref.ensures.value;
      marked = added.marked;
      splits = (
        splits + 1,
        omega arith,
        once_more _ _ _ _ _ _ _ _ _ _ _ once popped before.marked.once before.refining.known before.refining.total
            before.settled.used c.in_ok-turn.ensures.settled.used c.in_ok-turn.ensures.split divided waiting,
      );
      places = c.in_ok-turn.ensures.places ∙ before.places;
      bound = omega arith;
    }

pub returns-clause-coarsest : goal.returns-clause-coarsest
returns-clause-coarsest g c =
    let none : c.loop-block.queue.items ≡ [] = search rules in
    refining_end _ _ _ (subst (IsRefining c.args.graph.now c.loop-block.blocks.numbers.items (length c.loop-block.blocks.lists.items)) none
    c.loop-block.invariant.refining)

pub returns-clause-splits : goal.returns-clause-splits
returns-clause-splits g c =
    let none : c.loop-block.queue.items ≡ [] = search rules in
    let (splits, turns, once) = c.loop-block.invariant.splits in (
      splits,
      length c.loop-block.blocks.lists.items,
      turns,
      record {
        so_far = once.so_far;
        below = c.loop-block.invariant.refining.below;
        all = λ block inside. once.done block inside (λ found.
            let (j, within, at) = subst (λ (queue : List ℕ). Contains queue block) none found in absurd (omega arith));
      },
    )

pub returns-clause-below : goal.returns-clause-below
returns-clause-below g c =
    let refining = c.loop-block.invariant.refining in
    let total = refining.total in
    let small = refining.small in
    All-from_get_or (λ number. number < length c.loop-block.blocks.numbers.items) c.loop-block.blocks.numbers.items 0 (λ u inside.
    let lt = refining.below u (omega arith) in omega arith)
