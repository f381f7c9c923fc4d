use Rattle.std.proofs.Common.{below_more, arith, ap, ◌∙◌, slice_get}
use Rattle.srp_build.proofs.ActTables.{read_zero}
use Rattle.srp_build.proofs.acts.like_among.Goals as goal

pub loop-number-preserved : goal.loop-number-preserved
loop-number-preserved c = below_more _ _ c.loop-number.invariant (c.is_like.ensures.unlike c.if-is_like.false)

pub returns-clause-none : goal.returns-clause-none
returns-clause-none c = λ none number act inside at.
    c.loop-number.invariant inside.0 (omega (arith, inside.1)) act
    (ap (slice_get c.args.acts.now) (read_zero c.args.numbers.now inside.0 number inside.1 inside.2) ∙ at)
