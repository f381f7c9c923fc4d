-- The answer to a command, by which command it is.
use Rattle.std.proofs.Common.{◌≡◌, ℕ, sym, subst}
use Rattle.cfg_ast.specs.declared.classes.DestClass.{DestClass}
use Rattle.cfg_ast.specs.declared.network.Network.{Network}
use Rattle.answer_kit.specs.Replies.{Answers}
use Rattle.answer_kit.specs.declared.reply.Reply.{Reply}
use Rattle.bonsai_top.specs.Outcomes.{IsOnClass}
use Rattle.bonsai_top.specs.declared.command.ClassCommand.{ClassCommand}

pub on_class : (command of : ClassCommand) → command ≡ of → (reply : Reply) (n : Network) (number : ℕ) (class : DestClass)
    → Answers reply (IsOnClass of n number class) ⊥ ⊥ → Answers reply (IsOnClass command n number class) ⊥ ⊥
on_class command of is reply n number class = subst (λ (x : ClassCommand). Answers reply (IsOnClass x n number class) ⊥ ⊥) (sym is)
