use Rattle.std.proofs.Common.{sym, ap, ◌∙◌}
use Rattle.named_lists.specs.NumberedLists.{has_entry, has_entry_numbered}
use Rattle.named_lists.proofs.Held.{has_at, has_nowhere}
use Rattle.named_lists.proofs.numbered.NumberedLists.has_entry.Goals as goal

pub returns-in-Some : goal.returns-in-Some
returns-in-Some g c =
    c.has_number.ensures ∙ ap (λ xs. has_entry_numbered g.E.Numbered.number xs c.args.number) c.entries.ensures
    ∙ has_at g.E.Numbered.number c.self.inside.numbers c.self.inside.lists c.args.name.now c.args.number c.in-Some.place c.self.invariant
    (sym c.place_of.ensures ∙ c.in-Some.is)
    ∙ ap (λ ls. has_entry g.E.Numbered.number ls c.args.name.now c.args.number) c.self.view_is

pub returns-in-None : goal.returns-in-None
returns-in-None g c =
    has_nowhere g.E.Numbered.number c.self.inside.lists c.args.name.now c.args.number (sym c.place_of.ensures ∙ c.in-None.is)
    ∙ ap (λ ls. has_entry g.E.Numbered.number ls c.args.name.now c.args.number) c.self.view_is
