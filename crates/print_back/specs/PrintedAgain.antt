-- What is printed of the network of a text.
use Rattle.std.specs.Prelude.{ℕ, List, Result, Ok}
use Rattle.cfg_ast.specs.declared.network.Network.{Network}
use Rattle.cfg_ast.specs.declared.refusal.ReadRefusal.{ReadRefusal}
use Rattle.cfg_ast.specs.text.Steps.{◌>>=◌}
use Rattle.cfg_ast.specs.text.Reading.{network_of_text}
use Rattle.cfg_ast.specs.text.Members.{members_of_text}
use Rattle.cfg_ast.specs.printing.Printed.{printed}

-- the printed network of a text, with the members of the text
abbrev pub printed_again : List ℕ → Result (List ℕ) ReadRefusal
printed_again bs = network_of_text bs >>= (λ (network : Network). Ok (printed network (record { members = members_of_text bs })))
