use Rattle.std.proofs.Common.{length, get_or, nat_eq, ap, refl, ◌∙◌, arith}
use Rattle.std.specs.HashMap.{get}
use Rattle.cut_certificate.proofs.NextNumber.{next_numbered}
use Rattle.cut_certificate.proofs.Seen.{front_all}
use Rattle.cut_certificate.proofs.numbering.numbers_of.Goals as goal

pub overflow_add-count : goal.overflow_add-count
overflow_add-count c = omega (arith, c.loop-key.invariant.small)

pub loop-key-preserved : goal.loop-key-preserved
loop-key-preserved c =
    let named = c.in_ok-number.ensures in
    next_numbered c.args.keys.now _ _ _ _ c.loop-key.key-index (get_or c.args.keys.now c.loop-key.key-index 0) _ (λ key. get nat_eq c.loop-key.names key) _
    c.loop-key.invariant c.loop-key-test.true refl named.named named.others named.was c.in_ok-push.ensures.items c.max-count.ensures

pub returns-clause-count : goal.returns-clause-count
returns-clause-count c = c.loop-key.invariant.few ∙ ap length (front_all c.args.keys.now c.loop-key.key-index c.loop-key-test.false)
