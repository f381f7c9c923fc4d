use Rattle.std.proofs.Common.{ℕ, Some, refl, ◌∙◌, ap}
use Rattle.srp_build.specs.Lone.{again, stays, goes_on}
use Rattle.srp_build.proofs.lone.next_mark.Goals as goal

pub returns-then-first-act : goal.returns-then-first-act
returns-then-first-act c = again (c.in-Some.is ∙ ap (λ (k : ℕ). Some k) c.if-first-act.true) refl

pub returns-then-mark : goal.returns-then-mark
returns-then-mark c = stays c.in-Some.first c.in-Some.is c.if-mark.true refl

pub returns : goal.returns
returns c = goes_on c.in-Some.first c.in-Some.is c.if-mark.false
    (record { first = refl; lone = c.differ-lone.ensures.differ; alone = c.differ-lone.ensures.agree })
