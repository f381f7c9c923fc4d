-- What a person has who asks the small network in place of the large one.
use Rattle.std.specs.Prelude.{◌≡◌, ◌≤◌, ◌⊎◌, ℕ, List, Option, Some, Ok, Contains, codes}
use Rattle.base_kit.specs.Prefixes.{Prefix}
use Rattle.cfg_ast.specs.declared.classes.DestClass.{DestClass}
use Rattle.cfg_ast.specs.declared.network.Network.{Network}
use Rattle.cfg_ast.specs.meaning.Classes.{classes_of}
use Rattle.cfg_ast.specs.text.Reading.{reading_of}
use Rattle.answer_kit.specs.ClassNumbers.{class_at}
use Rattle.answer_kit.specs.declared.status.Status.{Status}
use Rattle.answer_kit.specs.declared.status.Status.TheVariants.{Done, Refused, Usage, ReadFault, WriteFault, Memory, NotStable}
use Rattle.answer_kit.specs.Outcome.{Outcome, done}
use Rattle.bonsai_top.specs.Outcomes.{IsOutcome}
use Rattle.workflow_laws.specs.Words.{canon, compress}

-- what the files hold, where it is known
abbrev pub Contents : Type 0
Contents = List ℕ → Option (List ℕ)

-- a number of a class has at most nine digits
abbrev pub IsShort : ℕ → Type 0
IsShort number = number ≤ 999999999

-- a text is read as a network that has a class of this number
pub record HasClass (text : List ℕ) (number : ℕ) : Type 0 where
  pub network : Network
  pub reads : reading_of text ≡ Ok network
  pub class : DestClass
  pub class_is : class_at (classes_of network) number ≡ Some class

-- each prefix of the one class is a prefix of the other one
abbrev pub HasPrefixesOf : DestClass → DestClass → Type 0
HasPrefixesOf class small = (p : Prefix) → Contains class.prefixes p → Contains small.prefixes p

-- this is what `compress F N` writes, or what `canon F N` writes
abbrev pub IsWritten : Contents → List ℕ → ℕ → List ℕ → Type 0
IsWritten contents F N small = IsOutcome (compress F N) contents (done small) ⊎ IsOutcome (canon F N) contents (done small)

-- F holds a text and N is the number of one of its classes. G holds what `compress F N` or `canon F N` wrote, and K is the
-- number of the class there that has the prefixes of the class N.
pub record IsCompressed (contents : Contents) (F : List ℕ) (N : ℕ) (G : List ℕ) (K : ℕ) : Type 0 where
  pub large : List ℕ
  pub holds : contents F ≡ Some large
  pub small : List ℕ
  pub wrote : IsWritten contents F N small
  pub kept : contents G ≡ Some small
  pub of_large : HasClass large N
  pub of_small : HasClass small K
  pub prefixes : HasPrefixesOf of_large.class of_small.class

-- what `check` says where another command would write its output
abbrev pub said : Status → Outcome → Outcome
said Done o = done (codes "stable\n")
said Refused o = o
said Usage o = o
said ReadFault o = o
said WriteFault o = o
said Memory o = o
said NotStable o = o

-- an outcome; if the work is done, it has `stable` in place of what is written
abbrev pub verdict_told : Outcome → Outcome
verdict_told o = said o.status o
