use Rattle.std.proofs.Common.{List, ℕ, sym, ap, ◌∙◌}
use Rattle.cfg_ast.specs.text.Lines.{words_of}
use Rattle.route_run.specs.declared.schedule.Activation.{Activation}
use Rattle.route_run.specs.Reading.{answer_with}
use Rattle.route_run.proofs.WordsLeft.{word_read, word_refused}
use Rattle.route_run.proofs.reading.read_line.Goals as goal

pub returns-in-None-clause-refused : goal.returns-in-None-clause-refused
returns-in-None-clause-refused c = λ later.
    c.loop-word.invariant later ∙ ap (λ (ws : List (List ℕ)). answer_with c.args.names.now c.loop-word.schedule c.args.line ws later) c.in-Some.ensures.words
    ∙ word_refused c.args.names.now c.loop-word.schedule c.args.line c.in-Some.word.now (words_of c.in-Some.behind.now) later
    (sym c.activation_of.ensures ∙ c.in-None.is)

pub loop-word-preserved : goal.loop-word-preserved
loop-word-preserved c = λ later.
    c.loop-word.invariant later ∙ ap (λ (ws : List (List ℕ)). answer_with c.args.names.now c.loop-word.schedule c.args.line ws later) c.in-Some.ensures.words
    ∙ word_read c.args.names.now c.loop-word.schedule c.args.line c.in-Some.word.now (words_of c.in-Some.behind.now) later c.in-Some-activation_of.activation
    (sym c.activation_of.ensures ∙ c.in-Some-activation_of.is)
    ∙ ap (λ (done : List Activation). answer_with c.args.names.now done c.args.line (words_of c.in-Some.behind.now) later)
    (sym c.in_ok-push-in-Some-activation_of.ensures.ok)
