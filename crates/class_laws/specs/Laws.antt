-- A class of a network has only one problem that is built for it.
use Rattle.std.specs.Prelude.{◌≡◌, Contains}
use Rattle.cfg_ast.specs.declared.network.Network.{Network}
use Rattle.cfg_ast.specs.declared.classes.DestClass.{DestClass}
use Rattle.cfg_ast.specs.meaning.Classes.{classes_of}
use Rattle.srp_core.specs.Problem.{Problem}
use Rattle.srp_build.specs.Built.{IsBuiltFor}

-- two problems that are built for a class are equal
abbrev pub BuiltProblemIsOne : Type 0
BuiltProblemIsOne = (network : Network) (class : DestClass) → Contains (classes_of network) class → (first second : Problem)
    → IsBuiltFor network class first → IsBuiltFor network class second → first ≡ second
