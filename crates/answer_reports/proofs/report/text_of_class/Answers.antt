use Rattle.answer_reports.specs.ReportAnswers.{text_in}
use Rattle.answer_reports.proofs.Groupings.{reported}
use Rattle.answer_reports.proofs.report.text_of_class.Goals as goal

pub returns : goal.returns
returns c =
    reported (text_in c.args.form) c.args.checked.now.network c.args.number c.args.class.now c.args.problem c.in_ok-grouping.grouping
    c.args.part.now.links c.args.part.now.unmatched c.in_ok-bytes.bytes.items
    c.requires.built c.in_ok-grouping.ensures c.requires.part.links c.requires.part.unmatched c.in_ok-bytes.ensures
