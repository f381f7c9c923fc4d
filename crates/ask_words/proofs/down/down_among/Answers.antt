use Rattle.std.proofs.Common.{◌≡◌, None, Some, sym, ap, ◌∙◌}
use Rattle.ask_words.specs.NameLists.{with_lost}
use Rattle.ask_words.proofs.Lists.{down_ends_at}
use Rattle.ask_words.proofs.down.down_among.Goals as goal

pub returns-in_default : goal.returns-in_default
returns-in_default c = sym (down_ends_at (λ part. part.now) c.args.parts.now c.loop-part.part-index _ c.loop-part.items c.loop-part-test.true
    (ap (with_lost c.loop-part.items) (sym c.in_ok-item.ensures ∙ c.in_default.is))) ∙ c.loop-part.invariant.items

pub returns-then-not-branch : goal.returns-then-not-branch
returns-then-not-branch c =
    let old : with_lost c.loop-part.items (Some c.in-Some.item) ≡ None = rw c.if-not-branch.true at c.in_ok-put_new.ensures.items in
    sym (down_ends_at (λ part. part.now) c.args.parts.now c.loop-part.part-index _ c.loop-part.items c.loop-part-test.true
    (ap (with_lost c.loop-part.items) (sym c.in_ok-item.ensures ∙ c.in-Some.is) ∙ old)) ∙ c.loop-part.invariant.items
