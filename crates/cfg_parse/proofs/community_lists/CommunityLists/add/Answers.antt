use Rattle.std.proofs.Common.{map, ap, ◌∙◌}
use Rattle.std.proofs.lemmas.Result.{on_ok_weaker}
use Rattle.cfg_ast.specs.text.PolicyLines.{with_community_line}
use Rattle.cfg_parse.specs.NamedLists.{community_list_of}
use Rattle.cfg_parse.proofs.UnderNames.{with_line}
use Rattle.cfg_parse.proofs.community_lists.CommunityLists.add.Goals as goal

pub returns : goal.returns
returns c = on_ok_weaker c.add.result (λ is. ap (map community_list_of) is ∙ with_line c.args.name c.args.line c.self.inside.lists
    ∙ ap (with_community_line c.args.name c.args.line) c.self.view_is) c.add.ensures.ok
