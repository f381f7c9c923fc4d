use Rattle.std.proofs.Common.{Some}
use Rattle.bonsai_top.specs.Faults.{SecondFailed}
use Rattle.bonsai_top.proofs.ByFiles.{answers_by_files, reads_unless_trial}
use Rattle.bonsai_top.proofs.work.work.Goals as goal

pub returns-in_default-clause-answers : goal.returns-in_default-clause-answers
returns-in_default-clause-answers g c =
    let contents = g.S.Source.contents c.args.files.now in
    let old = g.S.Source.faults c.args.files.now in
    let new = g.S.Source.faults c.over_files.new.files in
    let first = c.args.first.now in
    let second = c.args.second.now in
    answers_by_files c.over_files.result c.args.command (contents first) (contents second) (old first) (new first)
    (SecondFailed (Some c.args.command) (contents first) (old second) (new second))
    (reads_unless_trial c.args.command c.in_default.not-Trial) c.over_files.ensures.answers
