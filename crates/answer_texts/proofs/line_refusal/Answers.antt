use Rattle.std.proofs.Common.{codes}
use Rattle.answer_kit.specs.Kinds.{name_of_kind}
use Rattle.answer_kit.proofs.Replies.{refused_at}
use Rattle.answer_texts.proofs.line_refusal.Goals as goal

pub returns : goal.returns
returns c =
    refused_at c.refuse.result c.format.result (codes "line ") c.args.line c.name_of_kind-name.result.now (name_of_kind c.args.kind)
    c.name_of_kind-name.ensures c.format.ensures.ok c.refuse.ensures.told c.refuse.ensures.memory
