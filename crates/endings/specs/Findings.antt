-- What a call has come to, and what is to be reported of it.
use Rattle.std.specs.Prelude.{ℕ, List}
use Rattle.endings.specs.declared.finding.Finding.{Finding}
use Rattle.endings.specs.declared.finding.Finding.TheVariants.{Output, Refusal, Misuse, ReadFailed, SecondFailed, NoMemory}
use Rattle.endings.specs.Telling.{Telling, output, refused, misuse, read_fault, out_of_memory}

-- what a finding stands for, with the line for words of no form and the names of the files
abbrev pub told_by : Finding → List ℕ → List ℕ → List ℕ → Telling
told_by (Output bytes all) usage first second = output all bytes.items
told_by (Refusal reason) usage first second = refused reason.items
told_by Misuse usage first second = misuse usage
told_by ReadFailed usage first second = read_fault first
told_by SecondFailed usage first second = read_fault second
told_by NoMemory usage first second = out_of_memory

-- A finding has its cause: it is allowed, or a fault of one of the files, or memory ran out.
abbrev pub Finds : Finding → (Telling → Type 0) → Type 0 → Type 0 → Type 0
Finds (Output bytes all) IsAllowed first_rose second_rose = IsAllowed (output all bytes.items)
Finds (Refusal reason) IsAllowed first_rose second_rose = IsAllowed (refused reason.items)
Finds Misuse IsAllowed first_rose second_rose = ⊥
Finds ReadFailed IsAllowed first_rose second_rose = first_rose
Finds SecondFailed IsAllowed first_rose second_rose = second_rose
Finds NoMemory IsAllowed first_rose second_rose = Unit {0}
