-- What a call is to write, and the ending that it is to answer.
use Rattle.std.specs.Prelude.{◌≡◌, ℕ, Bool, true, false, List, [], ◌∷◌, ◌++◌, codes}
use Rattle.io_kit.specs.FaultLines.{read_fault_line, no_memory_line}
use Rattle.endings.specs.declared.ending.Ending.{Ending}
use Rattle.endings.specs.declared.ending.Ending.TheVariants.{Done, Refused, Usage, ReadFault, WriteFault, Memory, NotAll}

-- the exit status that stands for an ending
abbrev pub code_of : Ending → ℕ
code_of Done = 0
code_of Refused = 1
code_of Usage = 2
code_of ReadFault = 3
code_of WriteFault = 4
code_of Memory = 5
code_of NotAll = 8

-- the ending, the bytes for `out` and the line for `err`
pub record Telling : Type 0 where
  pub ending : Ending
  pub out : List ℕ
  pub err : List ℕ

-- how an output ends, by whether every answer in it is good
abbrev pub ending_of : Bool → Ending
ending_of true = Done
ending_of false = NotAll

-- the work is done, and these bytes are the output
abbrev pub output : Bool → List ℕ → Telling
output all bytes = record { ending = ending_of all; out = bytes; err = [] }

-- whether the work is done
abbrev pub is_output : Ending → Bool
is_output Done = true
is_output Refused = false
is_output Usage = false
is_output ReadFault = false
is_output WriteFault = false
is_output Memory = false
is_output NotAll = true

-- the input is refused for this reason
abbrev pub refused : List ℕ → Telling
refused reason = record { ending = Refused; out = []; err = codes "refused: " ++ reason ++ 10 ∷ [] }

-- the words are of no form, and this line says which forms there are
abbrev pub misuse : List ℕ → Telling
misuse usage = record { ending = Usage; out = []; err = usage }

-- the file of this name could not be read
abbrev pub read_fault : List ℕ → Telling
read_fault name = record { ending = ReadFault; out = []; err = read_fault_line name }

-- memory ran out behind these bytes
abbrev pub out_of_memory_behind : List ℕ → Telling
out_of_memory_behind bytes = record { ending = Memory; out = bytes; err = no_memory_line }

-- memory ran out before anything was written
abbrev pub out_of_memory : Telling
out_of_memory = out_of_memory_behind []
