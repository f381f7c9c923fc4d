use Rattle.std.proofs.Common.{sym, ap, ◌∙◌, arith}
use Rattle.std.specs.Prelude.{nat_lt}
use Rattle.named_lists.proofs.Ascending.{below_by_last}
use Rattle.named_lists.proofs.numbers.is_past.Goals as goal

pub returns-in-len1-up : goal.returns-in-len1-up
returns-in-len1-up g c =
    ap (λ n. nat_lt n c.args.number) (c.number.ensures ∙ ap g.E.Numbered.number c.last-item.is)
    ∙ sym (below_by_last g.E.Numbered.number c.args.entries.now c.last-item.result c.args.number c.requires (omega (arith, c.in-len1-up.len_at_least)))
