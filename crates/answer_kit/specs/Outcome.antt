-- What a call is to write, and the status that it is to answer.
use Rattle.std.specs.Prelude.{ℕ, List, [], ◌∷◌, ◌++◌, codes}
use Rattle.io_kit.specs.FaultLines.{read_fault_line, no_memory_line}
use Rattle.answer_kit.specs.declared.status.Status.{Status}
use Rattle.answer_kit.specs.declared.status.Status.TheVariants.{Done, Refused, Usage, ReadFault, WriteFault, Memory, NotStable}

-- the exit status that stands for a status
abbrev pub code_of : Status → ℕ
code_of Done = 0
code_of Refused = 1
code_of Usage = 2
code_of ReadFault = 3
code_of WriteFault = 4
code_of Memory = 5
code_of NotStable = 6

-- the status, the bytes for `out` and the line for `err`
pub record Outcome : Type 0 where
  pub status : Status
  pub out : List ℕ
  pub err : List ℕ

-- the command's work is done, and these bytes are its output
abbrev pub done : List ℕ → Outcome
done bytes = record { status = Done; out = bytes; err = [] }

-- the input is refused for this reason
abbrev pub refused : List ℕ → Outcome
refused reason = record { status = Refused; out = []; err = codes "refused: " ++ reason ++ 10 ∷ [] }

-- the labels of a solution are not stable, at this router and for this reason
abbrev pub not_stable : List ℕ → Outcome
not_stable reason = record { status = NotStable; out = []; err = codes "not stable: " ++ reason ++ 10 ∷ [] }

-- the words are of no listed form
abbrev pub usage : Outcome
usage = record { status = Usage; out = []; err = codes "usage: bonsai classes F, groups F N, compress F N, report F N, json F N, check F N S, fold F N S, lift F N S, summary F, trial K, run F N S, reach F N S, canon F N, certify F N, verify F N S\n" }

-- the file of this name could not be read
abbrev pub read_fault : List ℕ → Outcome
read_fault name = record { status = ReadFault; out = []; err = read_fault_line name }

abbrev pub out_of_memory : Outcome
out_of_memory = record { status = Memory; out = []; err = no_memory_line }
