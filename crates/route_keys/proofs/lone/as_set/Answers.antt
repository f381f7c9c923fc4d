use Rattle.std.proofs.Common.{ℕ, List, ap, ◌∙◌}
use Rattle.std.proofs.lemmas.List.Filters.{dedup_is}
use Rattle.std.proofs.lemmas.List.Kept.{Contains-dedup_nat, Contains-from_dedup}
use Rattle.std.proofs.lemmas.List.Sorted.{Contains-permutation, IsPermutation-sym}
use Rattle.std.proofs.lemmas.Map.Keys.{IsStrictlyIncreasing-dedup}
use Rattle.base_kit.specs.Sets.{has}
use Rattle.route_keys.proofs.Members.{ascends, same_members}
use Rattle.route_keys.proofs.lone.as_set.Goals as goal

pub from_ascending-requires : goal.from_ascending-requires
from_ascending-requires c =
    let is = dedup_is _ _ _ c.dedup.ensures.filtered in
    ascends _ (rw is (IsStrictlyIncreasing-dedup _ c.sort_unstable.ensures.sorted))

pub returns-clause-members : goal.returns-clause-members
returns-clause-members c =
    let is = dedup_is _ _ _ c.dedup.ensures.filtered in
    let moved = c.sort_unstable.ensures.permutation in
    λ n. ap (λ (xs : List ℕ). has xs n) c.from_ascending.ensures
    ∙ same_members _ _ (λ x h. Contains-permutation _ _ x (IsPermutation-sym _ _ moved) (Contains-from_dedup _ _ x (rw is at h)))
    (λ x h. rw is (Contains-dedup_nat _ x (Contains-permutation _ _ x moved h))) n
