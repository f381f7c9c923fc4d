use Rattle.std.proofs.Common.{◌≡◌, ◌||◌, ◌∙◌, Bool, true, false, refl, nat_eq}
use Rattle.std.specs.Prelude.{if◌then◌else◌}
use Rattle.base_kit.specs.Sets.{has}
use Rattle.base_kit.proofs.SetFacts.{has-with_number}
use Rattle.policy_dd.proofs.DeletionLemmas.{has-without_number}
use Rattle.policy_dd.proofs.deletion.with_answer.Goals as goal

or_if : (a r b : Bool) → b ≡ true → a || r ≡ (if a then b else r)
or_if true r b e = rw e refl
or_if false r b e = refl

if_false : (a r b : Bool) → b ≡ false → (if a then false else r) ≡ (if a then b else r)
if_false a r b e = rw e refl

pub returns-then-is_odd : goal.returns-then-is_odd
returns-then-is_odd c = λ k. rw c.in_ok-add.ensures.ok (has-with_number c.args.community c.args.odd k
    ∙ or_if (nat_eq c.args.community k) (has c.args.odd k) c.args.is_odd c.if-is_odd.true)

pub returns : goal.returns
returns c = λ k. rw c.in_ok-left.ensures (has-without_number c.args.community c.args.odd k
    ∙ if_false (nat_eq c.args.community k) (has c.args.odd k) c.args.is_odd c.if-is_odd.false)
