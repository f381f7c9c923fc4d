use Rattle.std.proofs.Common.{codes}
use Rattle.answer_certificates.specs.Verified.{name_of_cut_kind}
use Rattle.answer_kit.proofs.Replies.{refused_at}
use Rattle.answer_certificates.proofs.verify.certificate_refusal.Goals as goal

pub returns : goal.returns
returns c =
    refused_at c.refuse.result c.format.result (codes "certificate line ") c.args.line c.name_of_kind-name.result.now (name_of_cut_kind c.args.kind)
    c.name_of_kind-name.ensures c.format.ensures.ok c.refuse.ensures.told c.refuse.ensures.memory
