use Rattle.std.proofs.Common.{arith, sym, ◌∙◌}
use Rattle.cfg_lex.proofs.LineWords.{only_blanks, words_at, shorter}
use Rattle.cfg_lex.proofs.line_words.next_word.Goals as goal

pub returns-then-from-line-clause-words : goal.returns-then-from-line-clause-words
returns-then-from-line-clause-words c = only_blanks c.args.line.now (sym c.blanks_before-from.ensures.value ∙ c.if-from-line.true)

pub returns-clause-words : goal.returns-clause-words
returns-clause-words c =
    words_at c.args.line.now c.blanks_before-from.result c.word_length-upto.result c.blanks_before-from.ensures.value (omega arith)
    c.word_length-upto.ensures.value c.word_length-upto.ensures.bound

pub returns-clause-shorter : goal.returns-clause-shorter
returns-clause-shorter c =
    shorter c.args.line.now c.blanks_before-from.result c.word_length-upto.result c.blanks_before-from.ensures.value (omega arith)
    c.word_length-upto.ensures.value c.word_length-upto.ensures.bound
