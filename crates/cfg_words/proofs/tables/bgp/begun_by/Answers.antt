use Rattle.std.proofs.Common.{◌∷◌, [], refl, sym, rules}
use Rattle.cfg_ast.specs.text.Heads.{bgp_heads}
use Rattle.cfg_ast.specs.text.Lines.{words_of}
use Rattle.cfg_words.proofs.Begun.{IsNone, none_narrowed}
use Rattle.cfg_words.proofs.tables.bgp.begun_by.Goals as goal

pub returns-in-110 : goal.returns-in-110
unfolding bgp_heads words_of
returns-in-110 c = rw c.in-110.is c.peer_heads.ensures

pub returns-in-116 : goal.returns-in-116
unfolding bgp_heads words_of
returns-in-116 c = rw c.in-116.is refl

pub returns-in_default : goal.returns-in_default
unfolding bgp_heads words_of
returns-in_default c =
    let none : IsNone c.args.first (97 ∷ 98 ∷ 100 ∷ 109 ∷ 110 ∷ 114 ∷ 115 ∷ 116 ∷ []) = search rules in
    sym (none_narrowed 110 2 c.args.first c.args.third (97 ∷ 98 ∷ 100 ∷ 109 ∷ 110 ∷ 114 ∷ 115 ∷ 116 ∷ []) bgp_heads refl none)
