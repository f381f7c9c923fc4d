-- How the forms of lines are put together: a fault of one part is the fault of the line.
use Rattle.std.specs.Prelude.{ℕ, Bool, List, if◌then◌else◌, Option, Some, None, Result, Ok, Err}
use Rattle.cfg_ast.specs.declared.network.Named.{Named}
use Rattle.cfg_ast.specs.declared.refusal.FormFault.{FormFault}
use Rattle.cfg_ast.specs.declared.refusal.FormFault.TheVariants.{BadForm}
use Rattle.cfg_ast.specs.text.Words.{is_list_name}

abbrev pub or_bad : {X : Type 0} → Option X → Result X FormFault
or_bad None = Err BadForm
or_bad (Some x) = Ok x

abbrev pub bad_unless : {X : Type 0} → Bool → Result X FormFault → Result X FormFault
bad_unless fits r = if fits then r else Err BadForm

-- the name of a list or a route map
unfoldable pub list_name_of : List ℕ → Result (List ℕ) FormFault
list_name_of word = bad_unless (is_list_name word) (Ok word)

-- the same with the number of its line
unfoldable pub named_of : ℕ → List ℕ → Result Named FormFault
named_of line word = bad_unless (is_list_name word) (Ok (record { name = word; line = line }))
