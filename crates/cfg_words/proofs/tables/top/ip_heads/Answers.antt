use Rattle.std.proofs.Common.{◌∷◌, [], refl, sym, rules}
use Rattle.cfg_ast.specs.text.Heads.{top_heads}
use Rattle.cfg_ast.specs.text.Lines.{words_of}
use Rattle.cfg_words.specs.Rows.{begun_by}
use Rattle.cfg_words.proofs.Begun.{IsNone, none_going_on}
use Rattle.cfg_words.proofs.tables.top.ip_heads.Goals as goal

pub returns-in-97 : goal.returns-in-97
unfolding top_heads words_of
returns-in-97 c = rw c.in-97.is refl

pub returns-in-98 : goal.returns-in-98
unfolding top_heads words_of
returns-in-98 c = rw c.in-98.is refl

pub returns-in-99 : goal.returns-in-99
unfolding top_heads words_of
returns-in-99 c = rw c.in-99.is refl

pub returns-in-100 : goal.returns-in-100
unfolding top_heads words_of
returns-in-100 c = rw c.in-100.is refl

pub returns-in-101 : goal.returns-in-101
unfolding top_heads words_of
returns-in-101 c = rw c.in-101.is refl

pub returns-in-102 : goal.returns-in-102
unfolding top_heads words_of
returns-in-102 c = rw c.in-102.is refl

pub returns-in-104 : goal.returns-in-104
unfolding top_heads words_of
returns-in-104 c = rw c.in-104.is refl

pub returns-in-110 : goal.returns-in-110
unfolding top_heads words_of
returns-in-110 c = rw c.in-110.is refl

pub returns-in-112 : goal.returns-in-112
unfolding top_heads words_of
returns-in-112 c = rw c.in-112.is refl

pub returns-in-114 : goal.returns-in-114
unfolding top_heads words_of
returns-in-114 c = rw c.in-114.is refl

pub returns-in-115 : goal.returns-in-115
unfolding top_heads words_of
returns-in-115 c = rw c.in-115.is refl

pub returns-in-116 : goal.returns-in-116
unfolding top_heads words_of
returns-in-116 c = rw c.in-116.is refl

pub returns-in-118 : goal.returns-in-118
unfolding top_heads words_of
returns-in-118 c = rw c.in-118.is refl

pub returns-in_default : goal.returns-in_default
unfolding top_heads words_of
returns-in_default c =
    let none : IsNone c.args.second (97 ∷ 98 ∷ 99 ∷ 100 ∷ 101 ∷ 102 ∷ 104 ∷ 110 ∷ 112 ∷ 114 ∷ 115 ∷ 116 ∷ 118 ∷ []) = search rules in
    sym (none_going_on 1 c.args.second (97 ∷ 98 ∷ 99 ∷ 100 ∷ 101 ∷ 102 ∷ 104 ∷ 110 ∷ 112 ∷ 114 ∷ 115 ∷ 116 ∷ 118 ∷ []) (begun_by 105 top_heads) refl none)
