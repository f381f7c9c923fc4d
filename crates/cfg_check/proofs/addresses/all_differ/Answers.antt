use Rattle.std.proofs.Common.{◌≡◌, List, ℕ, nat_lt, subst}
use Rattle.std.specs.List.{IsAllAdjacentAnswer}
use Rattle.std.specs.List.Sorted.{IsPermutation}
use Rattle.cfg_check.proofs.Distinct.{none_if_ascending}
use Rattle.cfg_check.proofs.addresses.all_differ.Goals as goal

pub returns : goal.returns
returns c = none_if_ascending c.args.addresses.now c.sort.new.self.items c.ascend.result
    (subst (λ (ns : List ℕ). IsPermutation ns c.sort.new.self.items) c.in_ok-numbers.ensures c.sort.ensures.permutation)
    (subst (λ (ns : List ℕ). IsAllAdjacentAnswer (λ a b t. t ≡ nat_lt a b) ns c.ascend.result) c.as_slice.ensures.value c.ascend.ensures)
