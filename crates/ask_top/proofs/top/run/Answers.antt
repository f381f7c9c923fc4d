use Rattle.std.proofs.Common.{sym, ◌∙◌}
use Rattle.ask_words.specs.Words.{bytes_of_words}
use Rattle.ask_top.proofs.Ran.{told_runs, fault_rose, misuse_runs}
use Rattle.ask_top.proofs.top.run.Goals as goal

pub returns-in-Ok-Some-clause-meets : goal.returns-in-Ok-Some-clause-meets
returns-in-Ok-Some-clause-meets g c =
    told_runs (bytes_of_words c.args.words.now) (g.S.Source.contents c.args.files.now) (g.S.Source.faults c.args.files.now)
    (g.S.Source.faults c.found-finding.new.files)
    c.tell.result _ _ _ _ _ _ _ _ c.found-finding.result c.in-Ok-Some.command c.file_word-first.result.now c.class_word.result.now
    c.second_word-second.result.now
    (sym c.in-Ok-Some.ensures ∙ c.in-Ok-Some.field-0-is) c.file_word-first.ensures c.class_word.ensures c.second_word-second.ensures
    c.found-finding.ensures.finds c.tell.ensures.tells

pub returns-in-Ok-Some-clause-read_fault : goal.returns-in-Ok-Some-clause-read_fault
returns-in-Ok-Some-clause-read_fault g c =
    fault_rose (bytes_of_words c.args.words.now) (g.S.Source.contents c.args.files.now) (g.S.Source.faults c.args.files.now)
    (g.S.Source.faults c.found-finding.new.files)
    c.tell.result _ _ _ _ _ _ _ _ c.found-finding.result c.in-Ok-Some.command c.file_word-first.result.now c.class_word.result.now
    c.second_word-second.result.now
    (sym c.in-Ok-Some.ensures ∙ c.in-Ok-Some.field-0-is) c.file_word-first.ensures c.class_word.ensures c.second_word-second.ensures
    c.found-finding.ensures.finds c.tell.ensures.tells

pub returns-in-Ok-None-clause-meets : goal.returns-in-Ok-None-clause-meets
returns-in-Ok-None-clause-meets g c =
    misuse_runs (bytes_of_words c.args.words.now) (g.S.Source.contents c.args.files.now) (g.S.Source.faults c.args.files.now)
    (g.S.Source.faults c.args.files.now)
    c.tell-in-Ok-None.result _ _ _ _ _ _ _ _ (sym c.in-Ok-None.ensures ∙ c.in-Ok-None.field-0-is) c.tell-in-Ok-None.ensures.tells
