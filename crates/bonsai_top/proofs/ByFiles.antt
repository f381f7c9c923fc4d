-- The answer to a command, by whether it reads a file.
use Rattle.std.proofs.Common.{◌≡◌, ℕ, Bool, true, false, List, refl, sym, subst, Option, Some}
use Rattle.io_kit.specs.Ends.{Rose}
use Rattle.answer_kit.specs.declared.reply.Reply.{Reply}
use Rattle.answer_kit.specs.Replies.{Answers}
use Rattle.answer_kit.proofs.Replies.{answers_as}
use Rattle.bonsai_top.specs.declared.command.Command.{Command}
use Rattle.bonsai_top.specs.declared.command.Command.TheVariants.{OnNetwork, OnClass, OnSecond, Trial}
use Rattle.bonsai_top.specs.Commands.{reads_first, FirstRose}
use Rattle.bonsai_top.specs.Outcomes.{IsOutcomeOfFiles, IsOutcomeWithoutFiles, IsOutcomeBy, IsOutcomeOf}

-- a command that is not `trial` reads the first file
pub reads_unless_trial : (command : Command) → ((size : ℕ) → command ≡ Trial size → ⊥) → reads_first command ≡ true
reads_unless_trial (OnNetwork of) other = refl
reads_unless_trial (OnClass of number) other = refl
reads_unless_trial (OnSecond of number) other = refl
reads_unless_trial (Trial size) other = absurd (other size refl)

-- it reads one
pub answers_by_files : (reply : Reply) (command : Command) (first second : Option (List ℕ)) (before now : ℕ) (rose : Type 0) → reads_first command ≡ true
    → Answers reply (IsOutcomeOfFiles command first second) (Rose before now) rose
    → Answers reply (IsOutcomeOf command first second) (FirstRose (Some command) before now) rose
answers_by_files reply command first second before now rose reads answers =
    answers_as reply (IsOutcomeOfFiles command first second) (IsOutcomeOf command first second) (Rose before now) (FirstRose (Some command) before now) rose
    rose
    (λ o is. subst (λ (b : Bool). IsOutcomeBy b command first second o) (sym reads) is) (λ r. (reads, r)) (λ r. r) answers

-- it reads none
pub answers_without_files : (reply : Reply) (command : Command) (first second : Option (List ℕ)) (first_rose rose : Type 0) → reads_first command ≡ false
    → Answers reply (IsOutcomeWithoutFiles command) ⊥ ⊥ → Answers reply (IsOutcomeOf command first second) first_rose rose
answers_without_files reply command first second first_rose rose reads answers =
    answers_as reply (IsOutcomeWithoutFiles command) (IsOutcomeOf command first second) ⊥ first_rose ⊥ rose
    (λ o is. subst (λ (b : Bool). IsOutcomeBy b command first second o) (sym reads) is) (λ e. absurd e) (λ e. absurd e) answers
