use Rattle.std.proofs.Common.{◌∷◌, [], refl, sym, rules}
use Rattle.cfg_ast.specs.text.Heads.{interface_heads}
use Rattle.cfg_ast.specs.text.Lines.{words_of}
use Rattle.cfg_words.specs.Rows.{begun_by}
use Rattle.cfg_words.proofs.Begun.{IsNone, none_going_on}
use Rattle.cfg_words.proofs.tables.interface.ip_heads.Goals as goal

pub returns-in-97 : goal.returns-in-97
unfolding interface_heads words_of
returns-in-97 c = rw c.in-97.is refl

pub returns-in-102 : goal.returns-in-102
unfolding interface_heads words_of
returns-in-102 c = rw c.in-102.is refl

pub returns-in-104 : goal.returns-in-104
unfolding interface_heads words_of
returns-in-104 c = rw c.in-104.is refl

pub returns-in-109 : goal.returns-in-109
unfolding interface_heads words_of
returns-in-109 c = rw c.in-109.is refl

pub returns-in-110 : goal.returns-in-110
unfolding interface_heads words_of
returns-in-110 c = rw c.in-110.is refl

pub returns-in-111 : goal.returns-in-111
unfolding interface_heads words_of
returns-in-111 c = rw c.in-111.is refl

pub returns-in-112 : goal.returns-in-112
unfolding interface_heads words_of
returns-in-112 c = rw c.in-112.is refl

pub returns-in-114 : goal.returns-in-114
unfolding interface_heads words_of
returns-in-114 c = rw c.in-114.is refl

pub returns-in-116 : goal.returns-in-116
unfolding interface_heads words_of
returns-in-116 c = rw c.in-116.is refl

pub returns-in-117 : goal.returns-in-117
unfolding interface_heads words_of
returns-in-117 c = rw c.in-117.is refl

pub returns-in-118 : goal.returns-in-118
unfolding interface_heads words_of
returns-in-118 c = rw c.in-118.is refl

pub returns-in_default : goal.returns-in_default
unfolding interface_heads words_of
returns-in_default c =
    let none : IsNone c.args.second (97 ∷ 102 ∷ 104 ∷ 109 ∷ 110 ∷ 111 ∷ 112 ∷ 114 ∷ 116 ∷ 117 ∷ 118 ∷ []) = search rules in
    sym (none_going_on 1 c.args.second (97 ∷ 102 ∷ 104 ∷ 109 ∷ 110 ∷ 111 ∷ 112 ∷ 114 ∷ 116 ∷ 117 ∷ 118 ∷ []) (begun_by 105 interface_heads) refl none)
