use Rattle.std.proofs.Common.{◌∷◌, [], refl, sym, rules}
use Rattle.cfg_ast.specs.text.Heads.{top_heads}
use Rattle.cfg_ast.specs.text.Lines.{words_of}
use Rattle.cfg_words.proofs.Begun.{IsNone, none_narrowed}
use Rattle.cfg_words.proofs.tables.top.begun_by.Goals as goal

pub returns-in-99 : goal.returns-in-99
unfolding top_heads words_of
returns-in-99 c = rw c.in-99.is refl

pub returns-in-101 : goal.returns-in-101
unfolding top_heads words_of
returns-in-101 c = rw c.in-101.is refl

pub returns-in-105 : goal.returns-in-105
returns-in-105 c = rw c.in-105.is c.ip_heads.ensures

pub returns-in_default : goal.returns-in_default
unfolding top_heads words_of
returns-in_default c =
    let none : IsNone c.args.first (66 ∷ 67 ∷ 97 ∷ 98 ∷ 99 ∷ 100 ∷ 101 ∷ 102 ∷ 104 ∷ 105 ∷ 108 ∷ 109 ∷ 110 ∷ 112 ∷ 114 ∷ 115 ∷ 116 ∷ 117 ∷ 118 ∷ []) =
    search rules in
    sym (none_narrowed 105 1 c.args.first c.args.second (66 ∷ 67 ∷ 97 ∷ 98 ∷ 99 ∷ 100 ∷ 101 ∷ 102 ∷ 104 ∷ 105 ∷ 108 ∷ 109 ∷ 110 ∷ 112 ∷ 114 ∷ 115 ∷ 116 ∷ 117
    ∷ 118 ∷ []) top_heads refl none)
