use Rattle.std.proofs.Common.{sym, ap, ◌∙◌, List, ℕ}
use Rattle.cfg_ast.specs.text.Lines.{words_of}
use Rattle.solution_text.specs.Forms.{path_of_words}
use Rattle.solution_text.proofs.PathWords.{behind_path, behind_nothing, path_ended, path_longer, path_broken, path_without_end}
use Rattle.solution_text.proofs.forms.read_path.Goals as goal

pub loop-word-init : goal.loop-word-init
loop-word-init c = ap (λ (path : List ℕ). behind_path path (path_of_words (words_of c.args.line.now))) c.new-path.ensures.items
    ∙ behind_nothing (path_of_words (words_of c.args.line.now))

pub returns-then-eq : goal.returns-then-eq
returns-then-eq c =
    sym (path_ended c.loop-word.path.items c.in-Some.word.now (words_of c.in-Some.more.now) (rw (← c.as_slice.ensures) (sym c.eq.ensures ∙ c.if-eq.true)))
    ∙ sym (ap (λ (words : List (List ℕ)). behind_path c.loop-word.path.items (path_of_words words)) c.in-Some.ensures.words) ∙ c.loop-word.invariant

pub returns-in-None : goal.returns-in-None
returns-in-None c =
    sym (path_broken c.loop-word.path.items c.in-Some.word.now (words_of c.in-Some.more.now) (rw (← c.as_slice.ensures) (sym c.eq.ensures ∙ c.if-eq.false))
    (sym c.in-None.ensures))
    ∙ sym (ap (λ (words : List (List ℕ)). behind_path c.loop-word.path.items (path_of_words words)) c.in-Some.ensures.words) ∙ c.loop-word.invariant

pub loop-word-preserved : goal.loop-word-preserved
loop-word-preserved c =
    ap (λ (path : List ℕ). behind_path path (path_of_words (words_of c.in-Some.more.now))) c.in_ok-put_piece-in-Some-read_piece.ensures
    ∙ sym (path_longer c.loop-word.path.items _ c.in-Some.word.now (words_of c.in-Some.more.now) (rw (← c.as_slice.ensures) (sym c.eq.ensures ∙ c.if-eq.false))
    (sym c.in-Some-read_piece.ensures))
    ∙ sym (ap (λ (words : List (List ℕ)). behind_path c.loop-word.path.items (path_of_words words)) c.in-Some.ensures.words) ∙ c.loop-word.invariant

pub returns : goal.returns
returns c =
    sym (path_without_end c.loop-word.path.items) ∙ sym (ap (λ (words : List (List ℕ)). behind_path c.loop-word.path.items (path_of_words words))
    c.in_default.ensures.words) ∙ c.loop-word.invariant
