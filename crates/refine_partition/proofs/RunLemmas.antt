-- One more split of the blocks, and the groups to which the splits lead.
use Rattle.std.proofs.Common.{◌≡◌, ◌≢◌, ℕ, ◌+◌, ◌<◌, List, [], ◌∷◌, ◌++◌, length, All, refl, sym, ◌∙◌, ap, subst, arith, inl, inr}
use Rattle.std.specs.Prelude.{slice_index, slice_index_or}
use Rattle.std.proofs.lemmas.Bool.{cases_eq}
use Rattle.std.proofs.lemmas.List.{length_push, get_or_push, get_or_append_left}
use Rattle.std.proofs.lemmas.List.Elements.{All-get_or}
use Rattle.std.proofs.lemmas.List.FromFn.{length-map-range_with_len}
use Rattle.base_kit.specs.declared.act_graph.ActGraph.{ActGraph}
use Rattle.base_kit.specs.Partition.{members_of}
use Rattle.refine_partition.specs.Splits.{IsSplit, IsStart}
use Rattle.refine_partition.specs.Splitting.{blocks_of, AreNumbersOf, IsSplitOf}
use Rattle.refine_partition.specs.Numbering.{IsNumbering}
use Rattle.refine_partition.specs.Loose.{AreUsed, IsDividedAsSplit}
use Rattle.refine_partition.specs.Runs.{taken_at, AreReachedBy}
use Rattle.refine_partition.specs.Pending.{AreAllTaken, AreSplitSoFar}
use Rattle.refine_partition.proofs.NumberingLemmas.{used_at}
use Rattle.refine_partition.proofs.DivisionLemmas.{members_same}
use Rattle.refine_partition.proofs.SplittingLemmas.{block_at}

blocks_size : (numbers : List ℕ) (count : ℕ) → length (blocks_of numbers count) ≡ count
blocks_size numbers count = length-map-range_with_len (members_of numbers) 0 count

numbers_of_blocks : (total count : ℕ) (numbers : List ℕ) (blocks : List (List ℕ)) → length numbers ≡ total → All (λ number. number < count) numbers →
    blocks ≡ blocks_of numbers count → AreNumbersOf total blocks numbers
numbers_of_blocks total count numbers blocks size low are =
    let many : length blocks ≡ count = ap length are ∙ blocks_size numbers count in
    record {
      total = size;
      below = subst (λ n. All (λ number. number < n) numbers) (sym many) low;
      blocks_are = subst (λ n. blocks ≡ blocks_of numbers n) (sym many) are;
    }

-- before the first split
pub split_start : (graph : ActGraph) (numbers : List ℕ) (count : ℕ) → IsStart graph numbers count → AreSplitSoFar graph 0 numbers count
split_start graph numbers count start =
    let blocks : List (List ℕ) = blocks_of numbers count in
    let many : length blocks ≡ count = blocks_size numbers count in
    record {
      history = blocks ∷ [];
      taken = [];
      run = record {
        size = refl;
        counted = refl;
        start = record {
          numbers = numbers;
          are = numbers_of_blocks graph.count count numbers blocks start.total start.numbered.below refl;
          start = subst (IsStart graph numbers) (sym many) start;
        };
        known = λ k inside. absurd (omega arith);
        each = λ k inside. absurd (omega arith);
        fresh = λ j k less inside same. absurd (omega arith);
      };
      numbers = numbers;
      renamed = record {
        total = refl;
        below = start.numbered.below;
        used = λ block inside. used_at numbers block (start.numbered.used block inside);
        together = λ u v hu hv same. same;
        apart = λ u v hu hv same. same;
      };
      last = refl;
    }

-- after one more, by the block `taken`
pub record IsOneMore (graph : ActGraph) (splits taken : ℕ) (slots next : List ℕ) (before after : ℕ)
    (so_far : AreSplitSoFar graph splits slots before) : Type 0 where
  pub more : AreSplitSoFar graph (splits + 1) next after
  pub earlier : (k : ℕ) → k < splits → taken_at more.history more.taken k ≡ taken_at so_far.history so_far.taken k
  pub newest : taken_at more.history more.taken splits ≡ members_of slots taken

pub split_more : (graph : ActGraph) (splits taken : ℕ) (slots next : List ℕ) (before after : ℕ) → length slots ≡ graph.count → AreUsed before slots →
    taken < before → (so_far : AreSplitSoFar graph splits slots before) → IsDividedAsSplit graph taken slots next before after →
    ((k : ℕ) → k < splits → members_of slots taken ≢ taken_at so_far.history so_far.taken k) →
    IsOneMore graph splits taken slots next before after so_far
split_more graph splits taken slots next before after total used known so_far divided fresh =
    let made = divided.split so_far.numbers so_far.renamed in
    let old : List (List ℕ) = slice_index_or so_far.history splits [] in
    let new : List (List ℕ) = blocks_of made.next after in
    let history : List (List (List ℕ)) = so_far.history ++ new ∷ [] in
    let size = so_far.run.size in
    let more = length_push so_far.history new in
    let earlier : (k : ℕ) → k < splits + 1 → slice_index_or history k [] ≡ slice_index_or so_far.history k [] = λ k inside.
    get_or_append_left so_far.history (new ∷ []) [] k (omega arith) in
    let last : slice_index_or history (splits + 1) [] ≡ new = get_or_push so_far.history new [] (splits + 1) (omega arith) in
    let (u, hu, is) = used taken known in
    let numbers_total : length so_far.numbers ≡ graph.count = so_far.renamed.total ∙ total in
    let hu' : u < graph.count = omega arith in
    let number : ℕ = slice_index so_far.numbers u in
    let split = made.split u hu' is in
    let old_size : length old ≡ before = ap length so_far.last ∙ blocks_size so_far.numbers before in
    let new_size : length new ≡ after = blocks_size made.next after in
    let in_use : number < length old = let lt = All-get_or (λ n. n < before) so_far.numbers u 0 (omega arith) so_far.renamed.below in omega arith in
    let all_taken : List ℕ = so_far.taken ++ number ∷ [] in
    let split_is : IsSplitOf graph number old new = record {
      old_numbers = so_far.numbers;
      new_numbers = made.next;
      old_are = numbers_of_blocks graph.count before so_far.numbers old numbers_total so_far.renamed.below so_far.last;
      new_are = numbers_of_blocks graph.count after made.next new split.total made.renamed.below refl;
      split = subst (λ n. IsSplit graph number so_far.numbers made.next n (length new)) (sym old_size)
          (subst (IsSplit graph number so_far.numbers made.next before) (sym new_size) split);
    } in
    let counted = so_far.run.counted in
    let number_is : slice_index all_taken splits ≡ number = get_or_push so_far.taken number 0 splits counted in
    let number_was : (k : ℕ) → k < splits → slice_index all_taken k ≡ slice_index so_far.taken k = λ k inside.
    get_or_append_left so_far.taken (number ∷ []) 0 k (omega arith) in
    let block_was : (k : ℕ) → k < splits → taken_at history all_taken k ≡ taken_at so_far.history so_far.taken k = λ k inside.
    rw (earlier k (omega arith), number_was k inside) refl in
    let block_is : taken_at history all_taken splits ≡ members_of slots taken =
    ap (λ (blocks : List (List ℕ)). slice_index_or blocks (slice_index all_taken splits) []) (earlier splits (omega arith) ∙ so_far.last)
    ∙ ap (λ n. slice_index_or (blocks_of so_far.numbers before) n []) number_is ∙ block_at so_far.numbers before number (omega arith)
    ∙ sym (members_same slots so_far.numbers taken number so_far.renamed.total
    (λ w hw e. so_far.renamed.apart w u hw hu e ∙ is) (λ w hw e. so_far.renamed.together w u hw hu (e ∙ sym is))) in
    record {
      more = record {
        history = history;
        taken = all_taken;
        run = record {
          size = omega arith;
          counted = length_push so_far.taken number ∙ ap (λ n. n + 1) counted;
          start = rw (earlier 0 (omega arith)) so_far.run.start;
          known = λ k inside. elim (cases_eq k splits) [
            | inl e ↦ rw (e, earlier splits (omega arith), number_is) in_use
            | inr ne ↦ rw (earlier k (omega arith), number_was k (omega arith)) (so_far.run.known k (omega arith))
          ];
          each = λ k inside. elim (cases_eq k splits) [
            | inl e ↦ rw (e, earlier splits (omega arith), last, number_is) split_is
            | inr ne ↦ rw (earlier k (omega arith), earlier (k + 1) (omega arith), number_was k (omega arith)) (so_far.run.each k (omega arith))
          ];
          fresh = λ j k less inside same. elim (cases_eq k splits) [
            | inl e ↦ fresh j (omega arith) (sym block_is ∙ sym (ap (taken_at history all_taken) e) ∙ sym same ∙ block_was j (omega arith))
            | inr ne ↦ so_far.run.fresh j k less (omega arith) (sym (block_was j (omega arith)) ∙ same ∙ block_was k (omega arith))
          ];
        };
        numbers = made.next;
        renamed = made.renamed;
        last = last;
      };
      earlier = block_was;
      newest = block_is;
    }

-- groups that are equal where the blocks are
pub reached_by : (graph : ActGraph) (splits : ℕ) (slots groups : List ℕ) (count group_count : ℕ) → length slots ≡ graph.count →
    AreAllTaken graph splits slots count → length groups ≡ length slots → IsNumbering slots groups group_count → AreReachedBy graph splits groups
reached_by graph splits slots groups count group_count total taken size numbering =
    let so_far = taken.so_far in
    let renamed = so_far.renamed in
    let last : List (List ℕ) = slice_index_or so_far.history splits [] in
    record {
      history = so_far.history;
      taken = so_far.taken;
      run = so_far.run;
      complete = λ block inside.
          let many : length last ≡ count = ap length so_far.last ∙ blocks_size so_far.numbers count in
          let (u, hu, is) = renamed.used block (omega arith) in
          let numbers_total = renamed.total in
          let slot : ℕ = slice_index slots u in
          let (k, lt, was) = taken.all slot (taken.below u (omega arith)) in
          let same : members_of slots slot ≡ members_of so_far.numbers block = members_same slots so_far.numbers slot block renamed.total
          (λ v hv e. renamed.apart v u hv (omega arith) (e ∙ sym is)) (λ v hv e. renamed.together v u hv (omega arith) e ∙ is) in (
            k,
            lt,
            was ∙ same ∙ sym (block_at so_far.numbers count block (omega arith))
                ∙ sym (ap (λ (blocks : List (List ℕ)). slice_index_or blocks block []) so_far.last),
          );
      numbers = so_far.numbers;
      are = numbers_of_blocks graph.count count so_far.numbers (slice_index_or so_far.history splits []) (renamed.total ∙ total) renamed.below so_far.last;
      finer = λ u v hu hv same. renamed.together u v (omega arith) (omega arith) (numbering.apart u v (omega arith) (omega arith) same);
      coarser = λ u v hu hv same. numbering.together u v (omega arith) (omega arith) (renamed.apart u v (omega arith) (omega arith) same);
    }
