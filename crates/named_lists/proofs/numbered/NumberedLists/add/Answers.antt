use Rattle.std.proofs.Common.{map, ap, ◌∙◌}
use Rattle.named_lists.specs.NamedLists.{in_named}
use Rattle.named_lists.specs.NumberedLists.{in_order, put}
use Rattle.named_lists.proofs.ByNumber.{put_in_order}
use Rattle.named_lists.proofs.numbered.NumberedLists.add.Goals as goal

pub returns-clause-ok : goal.returns-clause-ok
returns-clause-ok g c =
    ap (map (in_order g.E.Numbered.number)) c.in_default.ensures.added ∙ put_in_order g.E.Numbered.number c.args.name c.args.entry c.self.inside.lists
    ∙ ap (in_named c.args.name (put g.E.Numbered.number c.args.entry)) c.self.view_is
