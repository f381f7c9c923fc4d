use Rattle.std.proofs.Common.{sym, ◌∙◌}
use Rattle.named_lists.proofs.Ascending.{none_if_below}
use Rattle.named_lists.proofs.numbers.has_number.Goals as goal

pub returns-then-is_past : goal.returns-then-is_past
returns-then-is_past g c = sym (none_if_below g.E.Numbered.number c.args.entries.now c.args.number (sym c.is_past.ensures ∙ c.if-is_past.true))
