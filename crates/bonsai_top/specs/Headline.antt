-- THE HEADLINE: what was written compresses the network that was read; and what was carried corresponds.
use Rattle.std.specs.Prelude.{◌≡◌, ℕ, List, [], ◌++◌, Option, Some, Ok}
use Rattle.cfg_ast.specs.declared.network.Network.{Network}
use Rattle.cfg_ast.specs.declared.classes.DestClass.{DestClass}
use Rattle.cfg_ast.specs.meaning.Classes.{classes_of}
use Rattle.cfg_ast.specs.text.Reading.{reading_of}
use Rattle.compress_laws.specs.Compressed.{Compresses}
use Rattle.answer_kit.specs.ClassNumbers.{class_at}
use Rattle.answer_kit.specs.Outcome.{Outcome}
use Rattle.answer_kit.specs.declared.status.Status.TheVariants.{Done}
use Rattle.answer_solutions.specs.ReadBack.{IsReadAsFold, IsReadAsLift}
use Rattle.bonsai_top.specs.declared.command.ClassCommand.{ClassCommand}
use Rattle.bonsai_top.specs.declared.command.Command.TheVariants.{OnClass}
use Rattle.bonsai_top.specs.Commands.{command_of}
use Rattle.bonsai_top.specs.Outcomes.{IsOutcome}
use Rattle.bonsai_top.specs.Words.{file_of}

-- The text is read as a network that has a class of this number, and the bytes that were taken behind those
-- before are the configurations of its compressed network.
pub record IsHeadline (text : List ℕ) (number : ℕ) (before : List ℕ) (after : Option (List ℕ)) : Type 0 where
  pub network : Network
  pub reads : reading_of text ≡ Ok network
  pub class : DestClass
  pub class_is : class_at (classes_of network) number ≡ Some class
  pub bytes : List ℕ
  pub took : after ≡ Some (before ++ bytes)
  pub compresses : Compresses network class bytes

-- The bytes of an outcome of this command on a class that is done, over a file that is known, compress its network.
abbrev pub DoneIsHeadline : ClassCommand → Type 0
DoneIsHeadline of = (words : List (List ℕ)) (contents : List ℕ → Option (List ℕ)) (text : List ℕ) (number : ℕ) (o : Outcome)
    → command_of words ≡ Some (OnClass of number) → contents (file_of words) ≡ Some text → IsOutcome words contents o → o.status ≡ Done
    → IsHeadline text number [] (Some o.out)

-- The text is read as a network, and the bytes that were taken are read as stable labels of the groups of the
-- class, which correspond to the solution.
pub record IsCarriedDown (text solution : List ℕ) (number : ℕ) (before : List ℕ) (after : Option (List ℕ)) : Type 0 where
  pub network : Network
  pub reads : reading_of text ≡ Ok network
  pub bytes : List ℕ
  pub took : after ≡ Some (before ++ bytes)
  pub carried : IsReadAsFold network number solution bytes

-- The same of a solution of the groups, and of labels of the routers.
pub record IsCarriedUp (text solution : List ℕ) (number : ℕ) (before : List ℕ) (after : Option (List ℕ)) : Type 0 where
  pub network : Network
  pub reads : reading_of text ≡ Ok network
  pub bytes : List ℕ
  pub took : after ≡ Some (before ++ bytes)
  pub carried : IsReadAsLift network number solution bytes
