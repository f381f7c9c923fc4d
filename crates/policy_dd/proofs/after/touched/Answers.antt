use Rattle.std.proofs.Common.{◌||◌, ◌∙◌, ap, List, [], ℕ}
use Rattle.base_kit.specs.Sets.{has}
use Rattle.policy_dd.specs.Edge.{keys_of}
use Rattle.policy_dd.proofs.AfterLemmas.{touched_are}
use Rattle.policy_dd.proofs.after.touched.Goals as goal

pub returns : goal.returns
returns c =
    touched_are c.args.carried.now c.args.m.now c.in_ok-keys.keys c.in_ok-more.more c.in_ok-all.all
    (λ k. c.in_ok-keys.ensures k ∙ ap (λ (l : List ℕ). has l k || has (keys_of c.as_slice.result.now) k) c.new.ensures
    ∙ ap (λ (l : List (ℕ × ℕ)). has [] k || has (keys_of l) k) c.as_slice.ensures)
    (λ k. c.in_ok-more.ensures k ∙ ap (λ (l : List (ℕ × ℕ)). has c.in_ok-keys.keys k || has (keys_of l) k) c.as_slice-2.ensures)
    (λ k. c.in_ok-all.ensures k ∙ ap (λ (l : List (ℕ × ℕ)). has c.in_ok-more.more k || has (keys_of l) k) c.as_slice-3.ensures)
