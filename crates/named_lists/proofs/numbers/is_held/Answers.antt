use Rattle.std.proofs.Common.{◌≡◌, Bool, true, false, not, ◌&&◌, refl, ap, ◌∙◌, arith}
use Rattle.named_lists.specs.NumberedLists.{ascends, has_entry_numbered}
use Rattle.named_lists.proofs.Ascending.{has_first}
use Rattle.named_lists.proofs.numbers.is_held.Goals as goal

and_true : (b : Bool) → (b && true) ≡ b
and_true true = refl
and_true false = refl

pub returns-in-len1-up : goal.returns-in-len1-up
returns-in-len1-up g c =
    let first = has_first g.E.Numbered.number c.args.entries.now c.first-item.result (omega (arith, c.in-len1-up.len_at_least)) in
    c.contains.ensures ∙ c.requires c.number.result
    ∙ ap (λ b. not (ascends g.E.Numbered.number c.args.entries.now) && b)
    (ap (has_entry_numbered g.E.Numbered.number c.args.entries.now) (c.number.ensures ∙ ap g.E.Numbered.number c.first-item.is) ∙ first)
    ∙ and_true (not (ascends g.E.Numbered.number c.args.entries.now))
