use Rattle.std.proofs.Common.{◌||◌, ◌∙◌, ap, List, [], ℕ}
use Rattle.base_kit.specs.Sets.{has}
use Rattle.policy_dd.specs.Edge.{keys_of}
use Rattle.policy_dd.proofs.JoinLemmas.{few_keys, all_keys}
use Rattle.policy_dd.proofs.join.out_keys.Goals as goal

pub returns-then-few : goal.returns-then-few
returns-then-few c =
    few_keys c.args.store.now c.args.carried.now c.args.few c.in_ok-keys.keys c.requires c.if-few.true
    (λ k. c.in_ok-keys.ensures k ∙ ap (λ (l : List ℕ). has l k || has (keys_of c.as_slice.result.now) k) c.new.ensures
    ∙ ap (λ (l : List (ℕ × ℕ)). has [] k || has (keys_of l) k) c.as_slice.ensures)

pub returns : goal.returns
returns c = all_keys c.args.store.now c.args.carried.now c.args.few _ (c.in_ok-keys-2.ensures ∙ c.universe.ensures.universe)
