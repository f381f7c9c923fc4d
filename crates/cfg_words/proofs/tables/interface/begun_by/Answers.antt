use Rattle.std.proofs.Common.{◌∷◌, [], refl, sym, rules}
use Rattle.cfg_ast.specs.text.Heads.{interface_heads}
use Rattle.cfg_ast.specs.text.Lines.{words_of}
use Rattle.cfg_words.proofs.Begun.{IsNone, none_narrowed}
use Rattle.cfg_words.proofs.tables.interface.begun_by.Goals as goal

pub returns-in-105 : goal.returns-in-105
returns-in-105 c = rw c.in-105.is c.ip_heads.ensures

pub returns-in-110 : goal.returns-in-110
unfolding interface_heads words_of
returns-in-110 c = rw c.in-110.is refl

pub returns-in_default : goal.returns-in_default
unfolding interface_heads words_of
returns-in_default c =
    let none : IsNone c.args.first (97 ∷ 98 ∷ 99 ∷ 100 ∷ 101 ∷ 104 ∷ 105 ∷ 107 ∷ 108 ∷ 109 ∷ 110 ∷ 112 ∷ 115 ∷ 118 ∷ []) = search rules in
    sym (none_narrowed 105 1 c.args.first c.args.second (97 ∷ 98 ∷ 99 ∷ 100 ∷ 101 ∷ 104 ∷ 105 ∷ 107 ∷ 108 ∷ 109 ∷ 110 ∷ 112 ∷ 115 ∷ 118 ∷ []) interface_heads
    refl none)
