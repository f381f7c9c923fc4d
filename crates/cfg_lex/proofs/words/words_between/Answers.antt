use Rattle.std.proofs.Common.{◌≡◌, false, append_assoc, ◌∙◌, sym, arith, rules}
use Rattle.std.proofs.lemmas.List.{append-nil}
use Rattle.cfg_ast.specs.text.Lines.{blank_at, word_end}
use Rattle.cfg_ast.proofs.WordRuns.{words_word, words_end}
use Rattle.cfg_lex.proofs.words.words_between.Goals as goal

pub loop-i-preserved : goal.loop-i-preserved
loop-i-preserved c =
    let bs = c.args.bytes.now in
    let i = c.loop-i.i in
    let upto = c.args.upto in
    let full : blank_at bs i ≡ false = search rules in
    let next = words_word bs i upto (omega arith) full in
    let end : c.word_end-end.result ≡ word_end bs i upto = c.word_end-end.ensures.place in (
      omega arith,
      omega arith,
      rw (c.in_ok-push.ensures.ok, end, append_assoc, ← next) c.loop-i.invariant.2,
    )

pub returns : goal.returns
returns c =
    let bs = c.args.bytes.now in
    sym (append-nil c.loop-i.found) ∙ rw (← words_end bs c.loop-i.i c.args.upto (omega arith)) c.loop-i.invariant.2
