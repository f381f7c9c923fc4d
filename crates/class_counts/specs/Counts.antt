-- How many classes there are.
use Rattle.std.specs.Prelude.{◌≤◌, length}
use Rattle.cfg_ast.specs.declared.network.Network.{Network}
use Rattle.cfg_ast.specs.meaning.Classes.{classes_of}
use Rattle.cfg_ast.specs.text.Reading.{IsGiven}

-- there are no more classes than interfaces, and a text has few lines
abbrev pub FewClasses : Type 0
FewClasses = (network : Network) → ∥ IsGiven network ∥₁ → length (classes_of network) ≤ 999999999
