use Rattle.std.proofs.Common.{◌≡◌, None, sym, ap, ◌∙◌}
use Rattle.ask_words.specs.NameLists.{with_new, with_name}
use Rattle.ask_words.proofs.Lists.{names_end_at}
use Rattle.ask_words.proofs.names.names_among.Goals as goal

pub returns-in_default : goal.returns-in_default
returns-in_default c = sym (names_end_at (λ part. part.now) c.args.parts.now c.loop-part.part-index _ c.loop-part.names c.loop-part-test.true
    (ap (with_name c.loop-part.names) (sym c.in_ok-name.ensures ∙ c.in_default.is))) ∙ c.loop-part.invariant.names

pub returns-then-not-branch : goal.returns-then-not-branch
returns-then-not-branch c =
    let old : with_new c.loop-part.names c.in-Some.name ≡ None = rw c.if-not-branch.true at c.in_ok-put_new.ensures.names in
    sym (names_end_at (λ part. part.now) c.args.parts.now c.loop-part.part-index _ c.loop-part.names c.loop-part-test.true
    (ap (with_name c.loop-part.names) (sym c.in_ok-name.ensures ∙ c.in-Some.is) ∙ old)) ∙ c.loop-part.invariant.names
