-- What `compress` and `canon` write: the text of a plan with a problem that fits the class.
use Rattle.std.specs.Prelude.{◌≡◌, false, None, Contains}
use Rattle.cfg_ast.specs.declared.classes.DestClass.{DestClass}
use Rattle.cfg_ast.specs.declared.network.Network.{Network}
use Rattle.cfg_ast.specs.meaning.Classes.{classes_of}
use Rattle.cfg_ast.specs.text.Reading.{IsGiven}
use Rattle.cfg_check.specs.Faultless.{IsFaultless}
use Rattle.cfg_print.specs.Prints.{is_too_long}
use Rattle.compress_laws.specs.Built.{IsPlanFor}
use Rattle.compress_laws.specs.Laws.{compressed_text, FitsClass, HasProblemOfGroups}
use Rattle.config_emit.specs.Plan.{Plan}
use Rattle.config_emit.specs.Pool.{pool_line}

-- Such a text is read as a network that has, for each prefix of the class, the problem of the groups.
abbrev pub FittingTextHasProblemOfGroups : Type 0
FittingTextHasProblemOfGroups = (n : Network) (class : DestClass) (e : Plan) → ∥ IsGiven n ∥₁ → IsFaultless n → Contains (classes_of n) class
    → IsPlanFor FitsClass n class e → pool_line n class ≡ None → is_too_long (compressed_text e) ≡ false → HasProblemOfGroups e
