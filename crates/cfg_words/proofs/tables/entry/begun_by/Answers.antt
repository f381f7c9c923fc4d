use Rattle.std.proofs.Common.{◌∷◌, [], refl, sym, rules}
use Rattle.cfg_ast.specs.text.Heads.{entry_heads}
use Rattle.cfg_ast.specs.text.Lines.{words_of}
use Rattle.cfg_words.proofs.Begun.{IsNone, none_begun}
use Rattle.cfg_words.proofs.tables.entry.begun_by.Goals as goal

pub returns-in-115 : goal.returns-in-115
unfolding entry_heads words_of
returns-in-115 c = rw c.in-115.is refl

pub returns-in_default : goal.returns-in_default
unfolding entry_heads words_of
returns-in_default c =
    let none : IsNone c.args.first (99 ∷ 100 ∷ 109 ∷ 115 ∷ []) = search rules in
    sym (none_begun c.args.first (99 ∷ 100 ∷ 109 ∷ 115 ∷ []) entry_heads refl none)
