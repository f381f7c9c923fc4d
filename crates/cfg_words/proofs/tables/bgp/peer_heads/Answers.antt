use Rattle.std.proofs.Common.{◌∷◌, [], refl, sym, rules}
use Rattle.cfg_ast.specs.text.Heads.{bgp_heads}
use Rattle.cfg_ast.specs.text.Lines.{words_of}
use Rattle.cfg_words.specs.Rows.{begun_by}
use Rattle.cfg_words.proofs.Begun.{IsNone, none_going_on}
use Rattle.cfg_words.proofs.tables.bgp.peer_heads.Goals as goal

pub returns-in-97 : goal.returns-in-97
unfolding bgp_heads words_of
returns-in-97 c = rw c.in-97.is refl

pub returns-in-100 : goal.returns-in-100
unfolding bgp_heads words_of
returns-in-100 c = rw c.in-100.is refl

pub returns-in-102 : goal.returns-in-102
unfolding bgp_heads words_of
returns-in-102 c = rw c.in-102.is refl

pub returns-in-108 : goal.returns-in-108
unfolding bgp_heads words_of
returns-in-108 c = rw c.in-108.is refl

pub returns-in-110 : goal.returns-in-110
unfolding bgp_heads words_of
returns-in-110 c = rw c.in-110.is refl

pub returns-in-112 : goal.returns-in-112
unfolding bgp_heads words_of
returns-in-112 c = rw c.in-112.is refl

pub returns-in-114 : goal.returns-in-114
unfolding bgp_heads words_of
returns-in-114 c = rw c.in-114.is refl

pub returns-in-115 : goal.returns-in-115
unfolding bgp_heads words_of
returns-in-115 c = rw c.in-115.is refl

pub returns-in-116 : goal.returns-in-116
unfolding bgp_heads words_of
returns-in-116 c = rw c.in-116.is refl

pub returns-in-118 : goal.returns-in-118
unfolding bgp_heads words_of
returns-in-118 c = rw c.in-118.is refl

pub returns-in_default : goal.returns-in_default
unfolding bgp_heads words_of
returns-in_default c =
    let none : IsNone c.args.third (97 ∷ 100 ∷ 102 ∷ 108 ∷ 110 ∷ 112 ∷ 114 ∷ 115 ∷ 116 ∷ 118 ∷ []) = search rules in
    sym (none_going_on 2 c.args.third (97 ∷ 100 ∷ 102 ∷ 108 ∷ 110 ∷ 112 ∷ 114 ∷ 115 ∷ 116 ∷ 118 ∷ []) (begun_by 110 bgp_heads) refl none)
