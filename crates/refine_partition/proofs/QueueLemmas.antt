-- The blocks that edges reach, and the members of one block more.
use Rattle.std.proofs.Common.{◌≡◌, ℕ, ◌+◌, ◌-◌, ◌<◌, List, [], ◌∷◌, ◌++◌, length, take, All, Contains, refl, sym, ◌∙◌, subst, arith, inl, inr}
use Rattle.std.specs.Prelude.{slice_index}
use Rattle.std.specs.List.{range_with_len}
use Rattle.std.specs.List.Sorted.{IsStrictlyIncreasing}
use Rattle.std.proofs.lemmas.Bool.{cases_lt}
use Rattle.std.proofs.lemmas.List.{length-append, get_or_append_left, get_or-append_right}
use Rattle.std.proofs.lemmas.List.FromFn.{length-range_with_len, get_or-range_with_len}
use Rattle.std.proofs.lemmas.List.Elements.{All-append, All-weaker, All-push, Contains-append_left, Contains-append_right, Contains-push, Contains-push_cases}
use Rattle.std.proofs.lemmas.List.Kept.{IsStrictlyIncreasing-filter}
use Rattle.std.proofs.lemmas.Map.Keys.{sorted_from_strictly_increasing, below_from_sorted}
use Rattle.base_kit.specs.Partition.{members_of}
use Rattle.refine_partition.specs.Touched.{IsTouched, AreTouched, IsInBlocks, IsQueue}
use Rattle.refine_partition.proofs.MemberLemmas.{members_all, member, IsMember}

pub rising : (xs : List ℕ) (i j : ℕ) → IsStrictlyIncreasing xs → i < j → j < length xs → slice_index xs i < slice_index xs j
rising xs i j up less inside = below_from_sorted xs i j 0 (sorted_from_strictly_increasing xs up) less inside

pub members_rise : (numbers : List ℕ) (block : ℕ) → IsStrictlyIncreasing (members_of numbers block)
members_rise numbers block = IsStrictlyIncreasing-filter _ (range_with_len 0 (length numbers)) (λ k inside.
    let size = length-range_with_len 0 (length numbers) in
    let first = get_or-range_with_len 0 (length numbers) k 0 (omega arith) in
    let second = get_or-range_with_len 0 (length numbers) (k + 1) 0 (omega arith) in
    omega arith)

-- a router whose block is there already
pub touched_again : (numbers routers : List ℕ) (router : ℕ) (blocks : List ℕ) → AreTouched numbers routers blocks →
    Contains blocks (slice_index numbers router) → AreTouched numbers (routers ++ router ∷ []) blocks
touched_again numbers routers router blocks are there = record {
  only = All-weaker (IsTouched numbers routers) (IsTouched numbers (routers ++ router ∷ []))
      (λ b t. record { router = t.router; listed = Contains-append_left routers (router ∷ []) _ t.listed; is = t.is }) blocks are.only;
  all = All-push (λ u. Contains blocks (slice_index numbers u)) routers router are.all there;
}

pub touched_more : (numbers routers : List ℕ) (router : ℕ) (blocks : List ℕ) → AreTouched numbers routers blocks →
    AreTouched numbers (routers ++ router ∷ []) (blocks ++ slice_index numbers router ∷ [])
touched_more numbers routers router blocks are = record {
  only = All-push (IsTouched numbers (routers ++ router ∷ [])) blocks _
      (All-weaker (IsTouched numbers routers) (IsTouched numbers (routers ++ router ∷ []))
      (λ b t. record { router = t.router; listed = Contains-append_left routers (router ∷ []) _ t.listed; is = t.is }) blocks are.only)
      (record { router = router; listed = Contains-push routers router; is = refl });
  all = All-push (λ u. Contains (blocks ++ slice_index numbers router ∷ []) (slice_index numbers u)) routers router
      (All-weaker (λ u. Contains blocks (slice_index numbers u)) (λ u. Contains (blocks ++ slice_index numbers router ∷ []) (slice_index numbers u))
      (λ u t. Contains-append_left blocks (slice_index numbers router ∷ []) _ t) routers are.all)
      (Contains-push blocks (slice_index numbers router));
}

pub touched_kept : (numbers routers before after : List ℕ) → AreTouched numbers routers before →
    ((P : ℕ → Type 0) → All P before → All P after) → ((x : ℕ) → Contains before x → Contains after x) → AreTouched numbers routers after
touched_kept numbers routers before after are all_kept kept = record {
  only = all_kept (IsTouched numbers routers) are.only;
  all = All-weaker (λ u. Contains before (slice_index numbers u)) (λ u. Contains after (slice_index numbers u)) (λ u t. kept _ t) routers are.all;
}

pub queue_none : (numbers blocks : List ℕ) → IsQueue numbers (take 0 blocks) []
queue_none numbers blocks = record {
  only = λ k d inside. absurd (omega arith);
  all = λ router within. let (k, inside, at) = within.block in absurd (omega arith);
  in_order = λ i j less inside. absurd (omega arith);
}

pub queue_more : (numbers blocks routers after : List ℕ) (block : ℕ) → IsQueue numbers blocks routers → All (λ b. b < block) blocks →
    after ≡ routers ++ members_of numbers block → IsQueue numbers (blocks ++ block ∷ []) after
queue_more numbers blocks routers after block queue earlier adds =
    let members : List ℕ = members_of numbers block in
    let size : length (routers ++ members) ≡ length routers + length members = length-append routers members in
    let are : All (IsMember numbers block) members = members_all numbers block in
    rw adds (record {
      only = All-append (IsInBlocks numbers (blocks ++ block ∷ [])) routers members
          (All-weaker (IsInBlocks numbers blocks) (IsInBlocks numbers (blocks ++ block ∷ []))
          (λ u w. record { below = w.below; block = Contains-append_left blocks (block ∷ []) _ w.block }) routers queue.only)
          (All-weaker (IsMember numbers block) (IsInBlocks numbers (blocks ++ block ∷ []))
          (λ u m. record { below = m.below; block = subst (Contains (blocks ++ block ∷ [])) (sym m.is) (Contains-push blocks block) }) members are);
      all = λ router within. elim (Contains-push_cases blocks block _ within.block) [
        | inl old ↦ Contains-append_left routers members router (queue.all router (record { below = within.below; block = old }))
        | inr e ↦ Contains-append_right routers members router (member numbers block router within.below (sym e))
      ];
      in_order = λ i j less inside. elim (cases_lt j (length routers)) [
        | inl old ↦
            let at_i : slice_index (routers ++ members) i ≡ slice_index routers i = get_or_append_left routers members 0 i (omega arith) in
            let at_j : slice_index (routers ++ members) j ≡ slice_index routers j = get_or_append_left routers members 0 j old in
            rw (at_i, at_j) (queue.in_order i j less old)
        | inr new ↦
            let at_j : slice_index (routers ++ members) j ≡ slice_index members (j - length routers) =
            get_or-append_right routers members (length routers) j 0 refl new in
            let is_j = (are (j - length routers) 0 (omega arith)).is in
            elim (cases_lt i (length routers)) [
              | inl old ↦
                  let at_i : slice_index (routers ++ members) i ≡ slice_index routers i = get_or_append_left routers members 0 i old in
                  let (k, within, at) = (queue.only i 0 old).block in
                  let lt : slice_index numbers (slice_index routers i) < block = subst (λ b. b < block) at (earlier k _ within) in
                  rw (at_i, at_j) (inl (omega arith))
              | inr new' ↦
                  let at_i : slice_index (routers ++ members) i ≡ slice_index members (i - length routers) =
                  get_or-append_right routers members (length routers) i 0 refl new' in
                  let is_i = (are (i - length routers) 0 (omega arith)).is in
                  let up : slice_index members (i - length routers) < slice_index members (j - length routers) =
                  rising members (i - length routers) (j - length routers) (members_rise numbers block) (omega arith) (omega arith) in
                  rw (at_i, at_j) (inr (is_i ∙ sym is_j, up))
            ]
      ];
    })
