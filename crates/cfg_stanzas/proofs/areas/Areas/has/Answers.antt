use Rattle.std.proofs.Common.{ap, ◌∙◌}
use Rattle.std.specs.BTreeSet as sorted
use Rattle.std.specs.List.{list_any}
use Rattle.cfg_ast.specs.text.Stanzas.{same_area_line}
use Rattle.cfg_stanzas.specs.Indexes.{area_order}
use Rattle.cfg_stanzas.proofs.Indexed.{has_area}
use Rattle.cfg_stanzas.proofs.areas.Areas.has.Goals as goal

pub returns : goal.returns
returns c = c.contains.ensures ∙ ap (sorted.contains area_order c.self.inside.said) c.key_of.ensures
    ∙ has_area c.self.inside.said c.self.inside.items c.args.area.now c.self.invariant ∙ ap (list_any (same_area_line c.args.area.now)) c.self.view_is
