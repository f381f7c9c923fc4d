-- What is read and then judged is the reading of the text.
use Rattle.std.proofs.Common.{Ok, Result, sym, ap, ◌∙◌}
use Rattle.cfg_ast.specs.declared.network.Network.{Network}
use Rattle.cfg_ast.specs.declared.refusal.ReadRefusal.{ReadRefusal}
use Rattle.cfg_ast.specs.meaning.Meaning.{judged}
use Rattle.cfg_ast.specs.text.Reading.{reading_of}
use Rattle.cfg_ast.specs.text.Steps.{◌>>=◌}
use Rattle.library_uses.proofs.worked.topology.checked_network.Goals as goal

pub returns : goal.returns
unfolding reading_of
returns c =
    let judge : Result Network ReadRefusal → Result Network ReadRefusal = λ read. read >>= judged in
    ap judge c.in_ok-network.ensures ∙ c.in_ok-checked.ensures.accepted ∙ ap (λ (n : Network). Ok n) (sym c.in_ok-checked.ensures.ok)
