-- None of the blocks that were taken waits again: what waits is a strict part of a block, or waited before. Each block
-- that does not wait was taken, with the members that it has.
use Rattle.std.proofs.Common.{◌≡◌, ℕ, ◌+◌, ◌-◌, ◌<◌, List, [], ◌∷◌, ◌++◌, length, All, Contains, sym, ◌∙◌, ap, subst, arith, inl, inr}
use Rattle.std.specs.Prelude.{slice_index}
use Rattle.std.proofs.lemmas.Bool.{cases_eq, cases_lt}
use Rattle.std.proofs.lemmas.List.Elements.{All-contains, Contains-append_left, Contains-push}
use Rattle.base_kit.specs.declared.act_graph.ActGraph.{ActGraph}
use Rattle.base_kit.specs.Partition.{members_of}
use Rattle.refine_partition.specs.Splits.{IsStart}
use Rattle.refine_partition.specs.Loose.{AreUsed, AreParted, IsDividedAsSplit}
use Rattle.refine_partition.specs.Runs.{taken_at}
use Rattle.refine_partition.specs.Pending.{HasEachOnce, ArePiecesWaiting, AreTakenOnce, IsPast}
use Rattle.refine_partition.proofs.MemberLemmas.{IsMember, members_all, member}
use Rattle.refine_partition.proofs.DivisionLemmas.{members_same}
use Rattle.refine_partition.proofs.RunLemmas.{split_start, split_more}
use Rattle.refine_partition.proofs.RefineLemmas.{distinct_last, left_known, taken_or_left}

is_member : (numbers : List ℕ) (block u : ℕ) → Contains (members_of numbers block) u → slice_index numbers u ≡ block
is_member numbers block u found = (All-contains (IsMember numbers block) (members_of numbers block) u (members_all numbers block) found).is

-- the block that is taken, when it has left the queue
past_now : (numbers left : List ℕ) (taken before : ℕ) → AreUsed before numbers → All (λ block. block < before) left → ¬ Contains left taken →
    IsPast numbers left (members_of numbers taken)
past_now numbers left taken before used known out = record {
  whole = λ u v hu hv same here. member numbers taken v hv (sym same ∙ is_member numbers taken u here);
  over = λ block found same.
      let (u, hu, is) = used block (All-contains (λ block. block < before) left block known found) in
      let here : Contains (members_of numbers taken) u = subst (λ (ms : List ℕ). Contains ms u) same (member numbers block u hu is) in
      out (subst (Contains left) (sym is ∙ is_member numbers taken u here) found);
}

-- a block after a turn that has all members of a past block is a whole block of before
whole_before : (numbers next past : List ℕ) (block u v : ℕ) → length next ≡ length numbers →
    ((u v : ℕ) → u < length numbers → v < length numbers → slice_index numbers u ≡ slice_index numbers v → Contains past u → Contains past v) →
    members_of next block ≡ past → u < length numbers → v < length numbers → slice_index next u ≡ block → slice_index numbers u ≡ slice_index numbers v →
    slice_index next v ≡ block
whole_before numbers next past block u v total whole same hu hv is together =
    let here : Contains past u = subst (λ (ms : List ℕ). Contains ms u) same (member next block u (omega arith) is) in
    is_member next block v (subst (λ (ms : List ℕ). Contains ms v) (sym same) (whole u v hu hv together here))

-- what was past before a turn is past after it
past_turn : (graph : ActGraph) (taken : ℕ) (numbers next origins left queue' past : List ℕ) (before after : ℕ) → length numbers ≡ graph.count →
    AreUsed after next → All (λ block. block < before) left → AreParted graph taken numbers next before after origins →
    ArePiecesWaiting left queue' before origins → IsPast numbers left past → IsPast next queue' past
past_turn graph taken numbers next origins left queue' past before after size used known divided waiting was =
    let total = divided.total in
    let grows = divided.size in
    record {
      whole = λ u v hu hv same here. was.whole u v (omega arith) (omega arith) (divided.apart u v (omega arith) (omega arith) same).same here;
      over = λ block found same.
          let stays : (u v : ℕ) → u < length numbers → v < length numbers → slice_index next u ≡ block → slice_index numbers u ≡ slice_index numbers v →
          slice_index next v ≡ block = λ u v hu hv is together. whole_before numbers next past block u v (omega arith) was.whole same hu hv is together in
          elim (waiting.only block found) [
            | inl there ↦
                let lt : block < before = All-contains (λ block. block < before) left block known there in
                let (u, hu, is) = used block (omega arith) in
                let was_in : (v : ℕ) → v < length numbers → slice_index next v ≡ block → slice_index numbers v ≡ block =
                λ v hv e. sym (divided.kept v (omega arith) (omega arith)) ∙ e in
                let all : members_of numbers block ≡ members_of next block = members_same numbers next block block (omega arith) was_in
                (λ v hv e. stays u v (omega arith) hv is (was_in u (omega arith) is ∙ sym e)) in
                was.over block there (all ∙ same)
            | inr piece ↦
                let (k, inside, which) = piece in
                let from : slice_index origins k < before = divided.known k 0 inside in
                let (u, hu, is_u) = used (slice_index origins k) (omega arith) in
                let (v, hv, is_v) = used (before + k) (omega arith) in
                let was_u : slice_index numbers u ≡ slice_index origins k = sym (divided.kept u (omega arith) (omega arith)) ∙ is_u in
                let was_v : slice_index numbers v ≡ slice_index origins k = sym (divided.origin v k (omega arith) is_v) in
                elim which [
                  | inl e ↦ let at = stays v u (omega arith) (omega arith) (is_v ∙ sym e) (was_v ∙ sym was_u) in absurd (omega arith)
                  | inr e ↦ let at = stays u v (omega arith) (omega arith) (is_u ∙ sym e) (was_u ∙ sym was_v) in absurd (omega arith)
                ]
          ];
    }

-- a block that waits neither before a turn nor after it keeps its members
same_block : (graph : ActGraph) (taken block : ℕ) (numbers next origins left queue' : List ℕ) (before after : ℕ) → length numbers ≡ graph.count →
    AreParted graph taken numbers next before after origins → ArePiecesWaiting left queue' before origins → block < before → ¬ Contains queue' block →
    members_of numbers block ≡ members_of next block
same_block graph taken block numbers next origins left queue' before after size divided waiting low free =
    let total = divided.total in
    let grows = divided.size in
    members_same numbers next block block (omega arith)
    (λ u hu is. sym (divided.kept u (omega arith) (omega arith)) ∙ is)
    (λ u hu is. elim (cases_lt (slice_index next u) before) [
      | inl lt ↦ divided.kept u (omega arith) lt ∙ is
      | inr le ↦
          let below = divided.below u (omega arith) in
          let from : slice_index origins (slice_index next u - before) ≡ slice_index numbers u =
          divided.origin u (slice_index next u - before) (omega arith) (omega arith) in
          absurd (free (subst (Contains queue') (from ∙ is) (waiting.divided (slice_index next u - before) (omega arith))))
    ])

pub once_start : (graph : ActGraph) (numbers queue : List ℕ) (count : ℕ) → IsStart graph numbers count →
    ((block : ℕ) → block < count → Contains queue block) → AreTakenOnce graph 0 numbers count queue
once_start graph numbers queue count start all = record {
  so_far = split_start graph numbers count start;
  past = λ k inside. absurd (omega arith);
  done = λ block inside free. absurd (free (all block inside));
}

pub once_more : (graph : ActGraph) (splits taken : ℕ) (slots next origins queue left queue' : List ℕ) (before after : ℕ) →
    AreTakenOnce graph splits slots before queue → queue ≡ left ++ taken ∷ [] → HasEachOnce queue → All (λ block. block < before) queue →
    length slots ≡ graph.count → AreUsed before slots → AreUsed after next → IsDividedAsSplit graph taken slots next before after →
    AreParted graph taken slots next before after origins → ArePiecesWaiting left queue' before origins → AreTakenOnce graph (splits + 1) next after queue'
once_more graph splits taken slots next origins queue left queue' before after once popped distinct all size used used' split divided waiting =
    let known = left_known queue left taken before popped all in
    let waits : Contains queue taken = subst (λ (q : List ℕ). Contains q taken) (sym popped) (Contains-push left taken) in
    let out : ¬ Contains left taken = distinct_last left taken (subst HasEachOnce popped distinct) in
    let step = split_more graph splits taken slots next before after size used known.1 once.so_far split (λ k inside. (once.past k inside).over taken waits) in
    let turn : (past : List ℕ) → IsPast slots left past → IsPast next queue' past = λ past was.
    past_turn graph taken slots next origins left queue' past before after size used' known.0 divided waiting was in
    record {
      so_far = step.more;
      past = λ k inside. elim (cases_eq k splits) [
        | inl e ↦ subst (IsPast next queue') (sym step.newest ∙ sym (ap (taken_at step.more.history step.more.taken) e))
            (turn (members_of slots taken) (past_now slots left taken before used known.0 out))
        | inr ne ↦
            let was = once.past k (omega arith) in
            subst (IsPast next queue') (sym (step.earlier k (omega arith))) (turn (taken_at once.so_far.history once.so_far.taken k) (record {
              whole = was.whole;
              over = λ block found. was.over block (subst (λ (q : List ℕ). Contains q block) (sym popped) (Contains-append_left left (taken ∷ []) block found));
            }))
      ];
      done = λ block inside free. elim (cases_lt block before) [
        | inl low ↦
            let same = same_block graph taken block slots next origins left queue' before after size divided waiting low free in
            elim (cases_eq block taken) [
              | inl e ↦ (splits, omega arith, step.newest ∙ ap (members_of slots) (sym e) ∙ same)
              | inr ne ↦
                  let (k, lt, was) = once.done block low (λ found. elim (taken_or_left queue left taken popped block found) [
                    | inl is ↦ ne is
                    | inr there ↦ free (waiting.kept block there)
                  ]) in
                  (k, omega arith, step.earlier k lt ∙ was ∙ same)
            ]
        | inr high ↦
            let grows = divided.size in
            absurd (free (subst (Contains queue') (omega arith) (waiting.further (block - before) (omega arith))))
      ];
    }
