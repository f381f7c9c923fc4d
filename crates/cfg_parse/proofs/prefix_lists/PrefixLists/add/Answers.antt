use Rattle.std.proofs.Common.{map, ap, ◌∙◌}
use Rattle.std.proofs.lemmas.Result.{on_ok_weaker}
use Rattle.cfg_ast.specs.text.PolicyLines.{with_prefix_entry}
use Rattle.cfg_parse.specs.NamedLists.{prefix_list_of}
use Rattle.cfg_parse.proofs.UnderNames.{with_prefix}
use Rattle.cfg_parse.proofs.prefix_lists.PrefixLists.add.Goals as goal

pub returns : goal.returns
returns c = on_ok_weaker c.add.result (λ is. ap (map prefix_list_of) is ∙ with_prefix c.args.name c.args.entry c.self.inside.lists
    ∙ ap (with_prefix_entry c.args.name c.args.entry) c.self.view_is) c.add.ensures.ok
