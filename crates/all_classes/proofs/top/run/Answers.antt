use Rattle.std.proofs.Common.{◌≡◌, ℕ, List, [], sym, subst, Option, Some, IfSome}
use Rattle.io_kit.specs.Ends.{Rose}
use Rattle.bonsai_top.specs.Words.{bytes_of_words}
use Rattle.endings.specs.Findings.{Finds, told_by}
use Rattle.endings.specs.Meets.{Tells}
use Rattle.network_files.specs.NetworkFiles.{AllowsNothing, HoldsNetwork, IsOfFile}
use Rattle.all_classes.specs.Meets.{usage_line}
use Rattle.all_classes.specs.Requests.{file_of, request_of}
use Rattle.all_classes.proofs.Headlines.{headlines}
use Rattle.all_classes.proofs.Runs.{meets_finding, meets_frames, meets_misuse, some_asked}
use Rattle.all_classes.proofs.Words.{last_is_short}
use Rattle.all_classes.proofs.top.run.Goals as goal

pub tell_frames-requires : goal.tell_frames-requires
tell_frames-requires g c = last_is_short (bytes_of_words c.args.words.now) c.in-Some.request (sym c.in-Some.ensures)

pub returns-in-None-clause-meets : goal.returns-in-None-clause-meets
returns-in-None-clause-meets g c =
    meets_misuse (bytes_of_words c.args.words.now) (g.S.Source.contents c.args.files.now) _ c.tell.result _ _ _ _ _ _ _ _ (sym c.in-None.ensures)
    c.tell.ensures.tells

pub returns-in-Ok-clause-meets : goal.returns-in-Ok-clause-meets
returns-in-Ok-clause-meets g c =
    let words = bytes_of_words c.args.words.now in
    let contents = g.S.Source.contents c.args.files.now in
    let n = c.in-Ok.checked.network in
    let holds = subst (λ (file : List ℕ). IfSome (contents file) (HoldsNetwork n)) c.file_word-file.ensures c.in-Ok.ensures.network in
    meets_frames words contents _ c.tell_frames.result _ _ _ _ _ _ _ _ c.in-Some.request (sym c.in-Some.ensures) n holds
    (c.few_classes.ensures n c.in-Ok.checked.given) c.tell_frames.ensures.tells

pub returns-in-Ok-clause-headline : goal.returns-in-Ok-clause-headline
returns-in-Ok-clause-headline g c = λ request asks compresses text told.
    headlines c.few_classes.ensures c.done_is_headline.ensures.compress c.done_is_headline.ensures.canon (bytes_of_words c.args.words.now)
    (g.S.Source.contents c.args.files.now) request asks compresses text told _ c.tell_frames.result _ _ _ _ _ _ _ _ (returns-in-Ok-clause-meets g c)

pub returns-in-Err-clause-meets : goal.returns-in-Err-clause-meets
returns-in-Err-clause-meets g c =
    let words = bytes_of_words c.args.words.now in
    let contents = g.S.Source.contents c.args.files.now in
    let old = g.S.Source.faults c.args.files.now in
    let new = g.S.Source.faults c.network_of.new.files in
    let finding = c.in-Err.finding in
    let asks = sym c.in-Some.ensures in
    let file_is = c.file_word-file.ensures in
    let finds = subst (λ (file : List ℕ). Finds finding (IsOfFile AllowsNothing (contents file)) (Rose (old file) (new file)) ⊥) file_is c.in-Err.ensures.none
    in
    let told = subst (λ (file : List ℕ). Tells (told_by finding usage_line file []) c.tell-in-Err.result (g.O.Sink.taken c.args.out.now)
    (g.O.Sink.taken c.tell-in-Err.new.out) (g.O.Sink.faults c.args.out.now) (g.O.Sink.faults c.tell-in-Err.new.out) (g.E.Sink.taken c.args.err.now)
    (g.E.Sink.taken c.tell-in-Err.new.err) (g.E.Sink.faults c.args.err.now) (g.E.Sink.faults c.tell-in-Err.new.err)) file_is c.tell-in-Err.ensures.tells in
    meets_finding words contents _ c.tell-in-Err.result _ _ _ _ _ _ _ _ c.in-Some.request asks (Rose (old (file_of words)) (new (file_of words)))
    (λ rose. (some_asked (request_of words) c.in-Some.request asks, rose)) finding finds told
