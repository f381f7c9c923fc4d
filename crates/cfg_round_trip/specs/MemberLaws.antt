-- What is printed of the members of routers is read back.
use Rattle.std.specs.Prelude.{◌≡◌}
use Rattle.cfg_ast.specs.declared.network.Network.{Network}
use Rattle.cfg_ast.specs.declared.network.Notes.{Notes}
use Rattle.cfg_ast.specs.printing.Printed.{printed}
use Rattle.cfg_ast.specs.text.Members.{members_of_text}
use Rattle.cfg_ast.specs.printing.WellFormed.{IsWellFormed}
use Rattle.cfg_round_trip.specs.Notes.{AreNotes}

-- The names that are printed for each router are its members in the text.
abbrev pub MembersAreReadBack : Type 0
MembersAreReadBack = (network : Network) (notes : Notes) → IsWellFormed network → AreNotes network notes →
    members_of_text (printed network notes) ≡ notes.members
