use Rattle.std.proofs.Common.{codes, ◌++◌}
use Rattle.answer_groups.specs.CanonText.{no_canon}
use Rattle.answer_groups.proofs.Canonizing.{names_told}
use Rattle.answer_kit.proofs.Replies.{refused_for}
use Rattle.answer_groups.proofs.canon.no_canon.Goals as goal

pub returns : goal.returns
returns c =
    refused_for c.refuse.result c.format.result (no_canon c.args.problem.now c.args.edge.now)
    (names_told c.format.result _ _ _ _ c.router_name-importer.ensures c.router_name-exporter.ensures c.format.ensures.ok) c.refuse.ensures.told
    c.refuse.ensures.memory
