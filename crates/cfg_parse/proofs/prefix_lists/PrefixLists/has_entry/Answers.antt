use Rattle.std.proofs.Common.{ap, ◌∙◌}
use Rattle.cfg_ast.specs.text.PolicyLines.{has_prefix_entry}
use Rattle.cfg_parse.proofs.UnderNames.{has_prefix}
use Rattle.cfg_parse.proofs.prefix_lists.PrefixLists.has_entry.Goals as goal

pub returns : goal.returns
returns c = c.has_entry.ensures ∙ has_prefix c.self.inside.lists c.args.name.now c.args.seq
    ∙ ap (λ ls. has_prefix_entry ls c.args.name.now c.args.seq) c.self.view_is
