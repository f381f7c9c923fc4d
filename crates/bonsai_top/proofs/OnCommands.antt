-- What is allowed for a command is allowed for a command that equals it.
use Rattle.std.proofs.Common.{◌≡◌, ℕ, List, Option, Some, refl, sym, subst}
use Rattle.std.specs.Prelude.{IsSome}
use Rattle.cfg_ast.specs.declared.classes.DestClass.{DestClass}
use Rattle.cfg_ast.specs.declared.network.Network.{Network}
use Rattle.cfg_ast.specs.meaning.Classes.{classes_of}
use Rattle.io_kit.specs.Ends.{Rose}
use Rattle.answer_kit.specs.ClassNumbers.{class_at, IsOfClass}
use Rattle.answer_kit.specs.Replies.{Answers}
use Rattle.answer_kit.proofs.Replies.{answers_as}
use Rattle.answer_kit.specs.declared.reply.Reply.{Reply}
use Rattle.bonsai_top.specs.Commands.{SecondRose}
use Rattle.bonsai_top.specs.Faults.{ReadsSecondOf}
use Rattle.bonsai_top.specs.Outcomes.{IsAnswerTo, IsOnClass, IsOnSecond}
use Rattle.bonsai_top.specs.declared.command.ClassCommand.{ClassCommand}
use Rattle.bonsai_top.specs.declared.command.Command.{Command}
use Rattle.bonsai_top.specs.declared.command.Command.TheVariants.{OnSecond}
use Rattle.bonsai_top.specs.declared.command.SecondCommand.{SecondCommand}

pub on_class : (command of : ClassCommand) → command ≡ of → (reply : Reply) (n : Network) (number : ℕ) (class : DestClass)
    → Answers reply (IsOnClass of n number class) ⊥ ⊥ → Answers reply (IsOnClass command n number class) ⊥ ⊥
on_class command of is reply n number class = subst (λ (x : ClassCommand). Answers reply (IsOnClass x n number class) ⊥ ⊥) (sym is)

pub on_second : (command of : SecondCommand) → command ≡ of → (reply : Reply) (n : Network) (second : Option (List ℕ)) (class : DestClass) (rose : Type 0)
    → Answers reply (IsOnSecond of n second class) ⊥ rose → Answers reply (IsOnSecond command n second class) ⊥ rose
on_second command of is reply n second class rose = subst (λ (x : SecondCommand). Answers reply (IsOnSecond x n second class) ⊥ rose) (sym is)

-- a command on a second file, of a class that the network has
pub second_answers : (named : Command) (of : SecondCommand) (number : ℕ) → named ≡ OnSecond of number → (reply : Reply) (n : Network)
    (second : Option (List ℕ)) (class : DestClass) → class_at (classes_of n) number ≡ Some class → (before now : ℕ)
    → Answers reply (IsOnSecond of n second class) ⊥ (Rose before now)
    → Answers reply (IsAnswerTo named n second) ⊥ (SecondRose (Some named) before now × ReadsSecondOf named n)
second_answers named of number is reply n second class at before now answers =
    let found = answers_as reply (IsOnSecond of n second class) (IsAnswerTo (OnSecond of number) n second) ⊥ ⊥ (Rose before now)
    (SecondRose (Some (OnSecond of number)) before now × ReadsSecondOf (OnSecond of number) n)
    (λ o allowed. subst (λ (c : Option DestClass). IsOfClass c number (IsOnSecond of n second) o) (sym at) allowed) (λ e. e)
    (λ rose. ((refl, rose), subst (λ (c : Option DestClass). IsSome c) (sym at) refl)) answers in
    subst (λ (c : Command). Answers reply (IsAnswerTo c n second) ⊥ (SecondRose (Some c) before now × ReadsSecondOf c n)) (sym is) found
