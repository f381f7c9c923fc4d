-- What a command has come to, and what is to be reported of it.
use Rattle.std.specs.Prelude.{◌≡◌, ℕ, List}
use Rattle.answer_kit.specs.declared.reply.Reply.{Reply}
use Rattle.answer_kit.specs.declared.reply.Reply.TheVariants.{Output, Refusal, NotStable, Misuse, ReadFailed, SecondFailed, NoMemory}
use Rattle.answer_kit.specs.Outcome.{Outcome, done, refused, not_stable, usage, read_fault, out_of_memory}

-- the outcome that a reply stands for, with the names of the files
abbrev pub told_by : Reply → List ℕ → List ℕ → Outcome
told_by (Output bytes) first second = done bytes.items
told_by (Refusal reason) first second = refused reason.items
told_by (NotStable reason) first second = not_stable reason.items
told_by Misuse first second = usage
told_by ReadFailed first second = read_fault first
told_by SecondFailed first second = read_fault second
told_by NoMemory first second = out_of_memory

-- only this is allowed
abbrev pub Only : {O : Type 0} → O → O → Type 0
Only allowed o = o ≡ allowed

-- A reply to a command has its cause: it is an outcome that is allowed, or a fault of one of the files,
-- or memory ran out.
abbrev pub Answers : Reply → (Outcome → Type 0) → Type 0 → Type 0 → Type 0
Answers (Output bytes) IsAllowed first_rose second_rose = IsAllowed (done bytes.items)
Answers (Refusal reason) IsAllowed first_rose second_rose = IsAllowed (refused reason.items)
Answers (NotStable reason) IsAllowed first_rose second_rose = IsAllowed (not_stable reason.items)
Answers Misuse IsAllowed first_rose second_rose = ⊥
Answers ReadFailed IsAllowed first_rose second_rose = first_rose
Answers SecondFailed IsAllowed first_rose second_rose = second_rose
Answers NoMemory IsAllowed first_rose second_rose = Unit {0}

-- the reply is the refusal for the reason of these bytes
abbrev pub IsRefusalOf : List ℕ → Reply → Type 0
IsRefusalOf bytes (Refusal reason) = reason.items ≡ bytes
IsRefusalOf bytes _ = ⊥
