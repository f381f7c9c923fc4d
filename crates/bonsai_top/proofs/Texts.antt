-- From the answer to a text to the answer to the files.
use Rattle.std.proofs.Common.{◌≡◌, ℕ, ◌<◌, ◌≤◌, List, length, subst, inl, inr, Option, Some, None, IfSome, codes}
use Rattle.cfg_ast.specs.text.Reading.{reading_of}
use Rattle.bonsai_top.specs.declared.command.Command.{Command}
use Rattle.bonsai_top.specs.Faults.{IsBeforeSecond, LeadsToSecond}
use Rattle.answer_kit.specs.declared.reply.Reply.{Reply}
use Rattle.answer_kit.specs.Outcome.{Outcome, refused}
use Rattle.bonsai_top.specs.Outcomes.{text_limit, IsOutcomeOfReading, IsOutcomeOfText, IsOutcomeOfFiles}
use Rattle.answer_kit.specs.Replies.{Answers, Only}
use Rattle.answer_kit.proofs.Replies.{answers_as}

outcome_text : (command : Command) (text : List ℕ) (told second : Option (List ℕ)) → length text ≤ text_limit → IfSome told (λ c. text ≡ c) → (o : Outcome)
    → IsOutcomeOfReading command second (reading_of text) o → IsOutcomeOfFiles command told second o
outcome_text command text None second short same o is = tt
outcome_text command text (Some c) second short same o is = subst (λ (t : List ℕ). IsOutcomeOfText command second t o) same (inr (short, is))

outcome_long : (command : Command) (told second : Option (List ℕ)) → IfSome told (λ c. text_limit < length c) → (o : Outcome)
    → Only (refused (codes "FileTooLong")) o → IsOutcomeOfFiles command told second o
outcome_long command None second long o is = tt
outcome_long command (Some c) second long o is = inl (long, is)

-- the file was read to its end
pub answers_text : (reply : Reply) (command : Command) (text : List ℕ) (told second : Option (List ℕ)) (first_rose rose rose' : Type 0)
    → length text ≤ text_limit → IfSome told (λ c. text ≡ c) → (rose → rose') → Answers reply (IsOutcomeOfReading command second (reading_of text)) ⊥ rose
    → Answers reply (IsOutcomeOfFiles command told second) first_rose rose'
answers_text reply command text told second first_rose rose rose' short same weaker answers =
    answers_as reply _ _ ⊥ first_rose rose rose' (outcome_text command text told second short same) (λ e. absurd e) weaker answers

-- the text that was read leads to the second file, so the file does where it is known
pub told_leads : (command : Command) (text : List ℕ) (told : Option (List ℕ)) → IfSome told (λ c. text ≡ c) → LeadsToSecond command text
    → IfSome told (IsBeforeSecond (Some command))
told_leads command text None same leads = tt
told_leads command text (Some c) same leads = subst (LeadsToSecond command) same leads

-- the file was too long
pub answers_long : (reply : Reply) (command : Command) (told second : Option (List ℕ)) (first_rose second_rose : Type 0)
    → IfSome told (λ c. text_limit < length c) → Answers reply (Only (refused (codes "FileTooLong"))) ⊥ ⊥
    → Answers reply (IsOutcomeOfFiles command told second) first_rose second_rose
answers_long reply command told second first_rose second_rose long answers =
    answers_as reply _ _ ⊥ first_rose ⊥ second_rose (outcome_long command told second long) (λ e. absurd e) (λ e. absurd e) answers
