use Rattle.std.proofs.Common.{◌≡◌, List, [], ◌∷◌, codes, false, refl, sym, inl, subst, Option}
use Rattle.bonsai_top.specs.Commands.{FirstRose, command_of, is_read, reads_first}
use Rattle.bonsai_top.specs.Faults.{SecondFailed}
use Rattle.answer_kit.specs.Outcome.{usage}
use Rattle.bonsai_top.specs.Outcomes.{IsOutcome}
use Rattle.bonsai_top.specs.declared.command.Command.{Command}
use Rattle.bonsai_top.specs.Words.{file_of, second_of, bytes_of_words}
use Rattle.bonsai_top.proofs.Headlines.{headline, canonical, folded, lifted}
use Rattle.bonsai_top.specs.declared.command.ClassCommand.TheVariants as on_class
use Rattle.bonsai_top.specs.declared.command.SecondCommand.TheVariants as on_second
use Rattle.bonsai_top.proofs.Named.{outcome_misuse, answers_words, names_class, names_second, first_told, second_told}
use Rattle.bonsai_top.proofs.Runs.{run_meets, meets}
use Rattle.bonsai_top.proofs.top.run.Goals as goal

pub returns-in-Some-clause-meets : goal.returns-in-Some-clause-meets
returns-in-Some-clause-meets g c =
    let words = bytes_of_words c.args.words.now in
    let contents = g.S.Source.contents c.args.files.now in
    let old = g.S.Source.faults c.args.files.now in
    let new = g.S.Source.faults c.work-reply.new.files in
    let first = c.file_word-first.result.now in
    let second = c.second_word-second.result.now in
    rw (← c.file_word-first.ensures, ← c.second_word-second.ensures)
    (run_meets (IsOutcome words contents) first second (FirstRose (command_of words) (old first) (new first))
    (SecondFailed (command_of words) (contents first) (old second) (new second)) c.tell-in-Some.result
    _ _ (g.O.Sink.faults c.args.out.now) (g.O.Sink.faults c.tell-in-Some.new.out) _ _ (g.E.Sink.faults c.args.err.now) (g.E.Sink.faults c.tell-in-Some.new.err)
    c.work-reply.result
    (answers_words c.work-reply.result words contents c.in-Some.command first second (old first) (new first) (old second) (new second)
    (sym c.in-Some.ensures) c.file_word-first.ensures c.second_word-second.ensures c.work-reply.ensures.answers)
    c.tell-in-Some.ensures.tells)

pub returns-in-Some-clause-headline : goal.returns-in-Some-clause-headline
returns-in-Some-clause-headline g c = λ is file class number are short text before told taken.
    let words = bytes_of_words c.args.words.now in
    let contents = g.S.Source.contents c.args.files.now in
    headline words contents _ _ _ _ c.tell-in-Some.result _ _ _ _ _ _ _ _ (returns-in-Some-clause-meets g c) is c.plan_compresses.ensures number
    (names_class words (codes "compress") file class number on_class.Compress are refl short) text before
    (first_told contents words (class ∷ []) (codes "compress") file text are told) taken

pub returns-in-Some-clause-canonical : goal.returns-in-Some-clause-canonical
returns-in-Some-clause-canonical g c = λ is file class number are short text before told taken.
    let words = bytes_of_words c.args.words.now in
    let contents = g.S.Source.contents c.args.files.now in
    canonical words contents _ _ _ _ c.tell-in-Some.result _ _ _ _ _ _ _ _
    (returns-in-Some-clause-meets g c) is c.fitting_plan_compresses.ensures c.canonical_fits.ensures number
    (names_class words (codes "canon") file class number on_class.Canon are refl short) text before
    (first_told contents words (class ∷ []) (codes "canon") file text are told) taken

pub returns-in-Some-clause-folded : goal.returns-in-Some-clause-folded
returns-in-Some-clause-folded g c = λ is file class second number are short text solution before told also taken.
    let words = bytes_of_words c.args.words.now in
    let contents = g.S.Source.contents c.args.files.now in
    folded words contents _ _ _ _ c.tell-in-Some.result _ _ _ _ _ _ _ _ (returns-in-Some-clause-meets g c) is c.fold_is_read_back.ensures number
    (names_second words (codes "fold") file class second number on_second.Fold are refl short) text solution before
    (first_told contents words (class ∷ second ∷ []) (codes "fold") file text are told)
    (second_told contents words [] (codes "fold") file class second solution are also) taken

pub returns-in-Some-clause-lifted : goal.returns-in-Some-clause-lifted
returns-in-Some-clause-lifted g c = λ is file class second number are short text solution before told also taken.
    let words = bytes_of_words c.args.words.now in
    let contents = g.S.Source.contents c.args.files.now in
    lifted words contents _ _ _ _ c.tell-in-Some.result _ _ _ _ _ _ _ _ (returns-in-Some-clause-meets g c) is c.lift_is_read_back.ensures number
    (names_second words (codes "lift") file class second number on_second.Lift are refl short) text solution before
    (first_told contents words (class ∷ second ∷ []) (codes "lift") file text are told)
    (second_told contents words [] (codes "lift") file class second solution are also) taken

pub returns-in-None-clause-headline : goal.returns-in-None-clause-headline
returns-in-None-clause-headline g c = λ is file class number are short text before told taken.
    absurd (let names = names_class (bytes_of_words c.args.words.now) (codes "compress") file class number on_class.Compress are refl short in let none =
    c.in-None.ensures in cc)

pub returns-in-None-clause-canonical : goal.returns-in-None-clause-canonical
returns-in-None-clause-canonical g c = λ is file class number are short text before told taken.
    absurd (let names = names_class (bytes_of_words c.args.words.now) (codes "canon") file class number on_class.Canon are refl short in let none =
    c.in-None.ensures in cc)

pub returns-in-None-clause-folded : goal.returns-in-None-clause-folded
returns-in-None-clause-folded g c = λ is file class second number are short text solution before told also taken.
    absurd (let names = names_second (bytes_of_words c.args.words.now) (codes "fold") file class second number on_second.Fold are refl short in let none =
    c.in-None.ensures in cc)

pub returns-in-None-clause-lifted : goal.returns-in-None-clause-lifted
returns-in-None-clause-lifted g c = λ is file class second number are short text solution before told also taken.
    absurd (let names = names_second (bytes_of_words c.args.words.now) (codes "lift") file class second number on_second.Lift are refl short in let none =
    c.in-None.ensures in cc)

pub returns-in-None-clause-meets : goal.returns-in-None-clause-meets
returns-in-None-clause-meets g c =
    let words = bytes_of_words c.args.words.now in
    let contents = g.S.Source.contents c.args.files.now in
    let files = g.S.Source.faults c.args.files.now in
    let first = file_of words in
    let second = second_of words in
    meets (IsOutcome words contents) first second (FirstRose (command_of words) (files first) (files first))
    (SecondFailed (command_of words) (contents first) (files second) (files second)) c.tell.result
    _ _ (g.O.Sink.faults c.args.out.now) (g.O.Sink.faults c.tell.new.out) _ _ (g.E.Sink.faults c.args.err.now) (g.E.Sink.faults c.tell.new.err)
    usage (inl (outcome_misuse words contents (sym c.in-None.ensures))) c.tell.ensures.tells

pub returns-in-Some-clause-unread : goal.returns-in-Some-clause-unread
returns-in-Some-clause-unread g c = λ none. c.work-reply.ensures.unread
    (subst (λ (n : Option Command). is_read reads_first n ≡ false) (sym c.in-Some.ensures) none)
