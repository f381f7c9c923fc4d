-- From an outcome of the words to the answer over the network that the first file gives.
use Rattle.std.proofs.Common.{◌≡◌, ◌≤◌, inl, inr, ℕ, Bool, true, List, refl, subst, arith, Option, Some, Result, Ok, Err, codes, length}
use Rattle.cfg_ast.specs.declared.network.Network.{Network}
use Rattle.cfg_ast.specs.declared.refusal.ReadRefusal.{ReadRefusal}
use Rattle.cfg_ast.specs.declared.refusal.ReadRefusal.TheVariants as read_refusal
use Rattle.cfg_ast.specs.text.Reading.{reading_of}
use Rattle.bonsai_top.specs.declared.command.Command.{Command}
use Rattle.bonsai_top.specs.Commands.{command_of, reads_first}
use Rattle.bonsai_top.specs.Outcomes.{IsAnswerTo, text_limit, IsOutcomeOfReading, IsOutcomeOfText, IsOutcomeOfFiles, IsOutcomeBy, IsOutcomeAt, IsOutcome}
use Rattle.bonsai_top.specs.Words.{file_of, second_of}
use Rattle.answer_kit.specs.Kinds.{line_reason}
use Rattle.answer_kit.specs.Outcome.{Outcome, done}
use Rattle.carried_laws.proofs.Carried.{not_refused}
use Rattle.workflow_laws.specs.Setting.{Contents}

module _ (words : List (List ℕ)) (contents : Contents) (named : Command) (reads : reads_first named ≡ true) (names : command_of words ≡ Some named)
    (text : List ℕ) (told : contents (file_of words) ≡ Some text) (o : Outcome) where
  pub of_text : IsOutcome words contents o → IsOutcomeOfText named (contents (second_of words)) text o
  unfolding IsOutcome
  of_text is =
      let at : IsOutcomeAt (Some named) (contents (file_of words)) (contents (second_of words)) o =
      subst (λ (c : Option Command). IsOutcomeAt c (contents (file_of words)) (contents (second_of words)) o) names is in
      let files : IsOutcomeOfFiles named (contents (file_of words)) (contents (second_of words)) o =
      subst (λ (b : Bool). IsOutcomeBy b named (contents (file_of words)) (contents (second_of words)) o) reads at in
      subst (λ (c : Option (List ℕ)). IsOutcomeOfFiles named c (contents (second_of words)) o) told files

  pub answer_of : (n : Network) → reading_of text ≡ Ok n → length text ≤ text_limit → IsOutcome words contents o
      → IsAnswerTo named n (contents (second_of words)) o
  answer_of n reads_text short is = by_length (of_text is)
    where
      by_length : IsOutcomeOfText named (contents (second_of words)) text o → IsAnswerTo named n (contents (second_of words)) o
      by_length (inl long) = absurd (omega (arith, long.0, short))
      by_length (inr read) = subst (λ (r : Result Network ReadRefusal). IsOutcomeOfReading named (contents (second_of words)) r o) reads_text read.1

-- a command that is done: its text is not too long, and what was written is an answer
pub record IsDoneOver (named : Command) (n : Network) (text : List ℕ) (second : Option (List ℕ)) (written : List ℕ) : Type 0 where
  pub short : length text ≤ text_limit
  pub answer : IsAnswerTo named n second (done written)

module _ (words : List (List ℕ)) (contents : Contents) (named : Command) (reads : reads_first named ≡ true) (names : command_of words ≡ Some named)
    (text : List ℕ) (told : contents (file_of words) ≡ Some text) (written : List ℕ) where
  pub done_over : (n : Network) → reading_of text ≡ Ok n → IsOutcome words contents (done written)
      → IsDoneOver named n text (contents (second_of words)) written
  done_over n reads_text is = by_length (of_text words contents named reads names text told (done written) is)
    where
      by_length : IsOutcomeOfText named (contents (second_of words)) text (done written) → IsDoneOver named n text (contents (second_of words)) written
      by_length (inl long) = absurd (not_refused written (codes "FileTooLong") long.1)
      by_length (inr read) = record {
        short = read.0;
        answer =
            subst (λ (r : Result Network ReadRefusal). IsOutcomeOfReading named (contents (second_of words)) r (done written)) reads_text read.1;
      }

  -- so its text is read
  pub record IsDoneReading : Type 0 where
    pub network : Network
    pub read : reading_of text ≡ Ok network
    pub over : IsDoneOver named network text (contents (second_of words)) written

  pub done_reading : IsOutcome words contents (done written) → IsDoneReading
  done_reading is = by_length (of_text words contents named reads names text told (done written) is)
    where
      by_reading : length text ≤ text_limit → (r : Result Network ReadRefusal) → reading_of text ≡ r
          → IsOutcomeOfReading named (contents (second_of words)) r (done written) → IsDoneReading
      by_reading short (Ok n) reads_text answer = record { network = n; read = reads_text; over = record { short = short; answer = answer } }
      by_reading short (Err (read_refusal.At line kind)) reads_text answer = absurd (not_refused written (line_reason line kind) answer)
      by_reading short (Err read_refusal.Memory) reads_text answer = absurd answer

      by_length : IsOutcomeOfText named (contents (second_of words)) text (done written) → IsDoneReading
      by_length (inl long) = absurd (not_refused written (codes "FileTooLong") long.1)
      by_length (inr read) = by_reading read.0 (reading_of text) refl read.1
