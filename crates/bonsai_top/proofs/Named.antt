-- How what the words allow follows from the command that they name.
use Rattle.std.proofs.Common.{◌≡◌, ◌∙◌, ℕ, List, [], ◌∷◌, refl, sym, ap, subst, Option, Some, None}
use Rattle.std.specs.Option.{option_map, option_and_then}
use Rattle.bonsai_top.specs.declared.command.ClassCommand.{ClassCommand}
use Rattle.bonsai_top.specs.declared.command.SecondCommand.{SecondCommand}
use Rattle.bonsai_top.specs.declared.command.Command.TheVariants.{OnClass, OnSecond}
use Rattle.bonsai_top.specs.declared.command.Command.{Command}
use Rattle.answer_kit.specs.declared.reply.Reply.{Reply}
use Rattle.answer_kit.specs.Outcome.{usage}
use Rattle.bonsai_top.specs.Words.{file_of, second_of, short_number_of}
use Rattle.bonsai_top.specs.Commands.{class_command, second_command, command_of, FirstRose}
use Rattle.bonsai_top.specs.Faults.{SecondFailed}
use Rattle.bonsai_top.specs.Outcomes.{IsOutcomeOf, IsOutcomeAt, IsOutcome}
use Rattle.answer_kit.specs.Replies.{Answers}

-- words that name no command
pub outcome_misuse : (words : List (List ℕ)) (contents : List ℕ → Option (List ℕ)) → command_of words ≡ None → IsOutcome words contents usage
unfolding IsOutcome
outcome_misuse words contents none = subst (λ (n : Option Command). IsOutcomeAt n (contents (file_of words)) (contents (second_of words)) usage) (sym none) refl

-- words that name one
pub answers_words : (reply : Reply) (words : List (List ℕ)) (contents : List ℕ → Option (List ℕ)) (command : Command) (first second : List ℕ)
    (before now before' now' : ℕ)
    → command_of words ≡ Some command → first ≡ file_of words → second ≡ second_of words
    → Answers reply (IsOutcomeOf command (contents first) (contents second)) (FirstRose (Some command) before now)
    (SecondFailed (Some command) (contents first) before' now')
    → Answers reply (IsOutcome words contents) (FirstRose (command_of words) before now)
    (SecondFailed (command_of words) (contents first) before' now')
unfolding IsOutcome
answers_words reply words contents command first second before now before' now' named file other answers =
    let at_file = subst (λ (n : List ℕ). Answers reply (IsOutcomeOf command (contents n) (contents second)) (FirstRose (Some command) before now)
    (SecondFailed (Some command) (contents first) before' now')) file answers in
    let at_both = subst (λ (n : List ℕ). Answers reply (IsOutcomeOf command (contents (file_of words)) (contents n)) (FirstRose (Some command) before now)
    (SecondFailed (Some command) (contents first) before' now')) other at_file in
    subst (λ (n : Option Command). Answers reply (IsOutcomeAt n (contents (file_of words)) (contents (second_of words))) (FirstRose n before now)
    (SecondFailed n (contents first) before' now')) (sym named) at_both

-- ---- a command and its files, word by word

pub names_class : (words : List (List ℕ)) (name file class : List ℕ) (number : ℕ) (of : ClassCommand) → words ≡ name ∷ file ∷ class ∷ []
    → class_command name ≡ Some of → short_number_of class ≡ Some number → command_of words ≡ Some (OnClass of number)
unfolding command_of
names_class words name file class number of are named short = ap command_of are
    ∙ ap (option_and_then (λ (c : ClassCommand). option_map (OnClass c) (short_number_of class))) named ∙ ap (option_map (OnClass of)) short

pub names_second : (words : List (List ℕ)) (name file class second : List ℕ) (number : ℕ) (of : SecondCommand) → words ≡ name ∷ file ∷ class ∷ second ∷ []
    → second_command name ≡ Some of → short_number_of class ≡ Some number → command_of words ≡ Some (OnSecond of number)
unfolding command_of
names_second words name file class second number of are named short = ap command_of are
    ∙ ap (option_and_then (λ (c : SecondCommand). option_map (OnSecond c) (short_number_of class))) named ∙ ap (option_map (OnSecond of)) short

pub first_told : (contents : List ℕ → Option (List ℕ)) (words more : List (List ℕ)) (name file text : List ℕ) → words ≡ name ∷ file ∷ more
    → contents file ≡ Some text → contents (file_of words) ≡ Some text
first_told contents words more name file text are told = ap (λ (w : List (List ℕ)). contents (file_of w)) are ∙ told

pub second_told : (contents : List ℕ → Option (List ℕ)) (words more : List (List ℕ)) (name file class second text : List ℕ)
    → words ≡ name ∷ file ∷ class ∷ second ∷ more → contents second ≡ Some text → contents (second_of words) ≡ Some text
second_told contents words more name file class second text are told = ap (λ (w : List (List ℕ)). contents (second_of w)) are ∙ told
