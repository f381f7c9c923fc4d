use Rattle.std.proofs.Common.{length, ap, arith, List, ℕ}
use Rattle.policy_dd.proofs.DeletionLemmas.{several_named}
use Rattle.policy_dd.proofs.deletion.with_line.Goals as goal

pub returns-then-communities-gt1 : goal.returns-then-communities-gt1
returns-then-communities-gt1 c =
    let count = ap (λ (l : List ℕ). length l) c.as_slice-communities.ensures.all in
    let several = c.if-communities-gt1.true in
    several_named _ _ c.as_slice-communities.ensures.ascending (omega arith)
