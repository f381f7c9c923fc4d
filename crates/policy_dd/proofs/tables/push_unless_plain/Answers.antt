use Rattle.policy_dd.specs.Tables.IsPushedUnlessPlain.{pushed, left_out}
use Rattle.std.proofs.Common.{refl}
use Rattle.policy_dd.proofs.tables.push_unless_plain.Goals as goal

pub returns-then-is_same : goal.returns-then-is_same
returns-then-is_same c = left_out refl (c.is_same.ensures.same c.if-is_same.true)

pub returns : goal.returns
returns c = pushed c.in_ok-push.ensures.ok (c.is_same.ensures.differ c.if-is_same.false)
