-- The frames: the number of a class, the exit status of the outcome for it, and what the outcome writes.
use Rattle.std.specs.Prelude.{◌≡◌, ◌<◌, ◌≤◌, ℕ, ◌+◌, Bool, true, false, ◌&&◌, List, [], ◌∷◌, ◌++◌, length, codes, decimal, Option, String, string_bytes}
use Rattle.answer_kit.specs.declared.status.Status.{Status}
use Rattle.answer_kit.specs.declared.status.Status.TheVariants.{Done, Refused, Usage, ReadFault, WriteFault, Memory, NotStable}
use Rattle.answer_kit.specs.Outcome.{Outcome, code_of}
use Rattle.io_kit.specs.Ends.{Took, TookPart}

-- whether the work is done
abbrev pub is_done : Status → Bool
is_done Done = true
is_done Refused = false
is_done Usage = false
is_done ReadFault = false
is_done WriteFault = false
is_done Memory = false
is_done NotStable = false

abbrev pub said_by : Bool → List ℕ → List ℕ → List ℕ
said_by true out err = out
said_by false out err = err

-- what an outcome writes: to standard output if the work is done, and to standard error if not
abbrev pub said : Outcome → List ℕ
said o = said_by (is_done o.status) o.out o.err

-- the line before that: the number of the class, the exit status, and how many bytes follow
abbrev pub head : ℕ → ℕ → ℕ → List ℕ
head number code size = codes "class " ++ (decimal number ++ (codes " " ++ (decimal code ++ (codes " " ++ (decimal size ++ codes "\n")))))

abbrev pub frame : ℕ → Outcome → List ℕ
frame number o = head number (code_of o.status) (length (said o)) ++ said o

-- the frames of these outcomes, of which the first is that of the class of this number
abbrev pub frames : ℕ → List Outcome → List ℕ
frames number [] = []
frames number (o ∷ os) = frame number o ++ frames (number + 1) os

-- whether each of them is done
abbrev pub all_done : List Outcome → Bool
all_done [] = true
all_done (o ∷ os) = is_done o.status && all_done os

-- each of them is allowed for its number
abbrev pub AreAllowed : (ℕ → Outcome → Type 0) → ℕ → List Outcome → Type 0
AreAllowed IsAllowed number [] = Unit {0}
AreAllowed IsAllowed number (o ∷ os) = IsAllowed number o × AreAllowed IsAllowed (number + 1) os
