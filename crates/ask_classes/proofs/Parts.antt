-- What is written of a question about a class, and of it without each one link or router more.
use Rattle.std.proofs.Common.{◌≡◌, ℕ, Bool, false, ◌&&◌, List, ◌++◌, flat_map, refl, sym, ap, ◌∙◌, append_assoc, append-nil}
use Rattle.std.specs.Prelude.{Option, nat_eq}
use Rattle.std.specs.List.{zip}
use Rattle.srp_core.specs.Problem.{Problem}
use Rattle.srp_core.specs.Without.{Down}
use Rattle.srp_questions.specs.declared.question.Question.{Question}
use Rattle.srp_questions.specs.declared.verdict.Verdict.{Verdict}
use Rattle.solution_search.specs.declared.board.Tie.{Tie}
use Rattle.ask_words.specs.declared.request.AskedOf.{AskedOf}
use Rattle.ask_names.specs.Routers.{question_for}
use Rattle.solution_answers.specs.Questions.{IsShown, IsAnswerPart}
use Rattle.solution_answers.specs.Verdicts.{is_yes, answer_line, IsAnswer}
use Rattle.solution_answers.specs.Writing.{Writes}
use Rattle.ask_classes.specs.Answered.{WritesAnswer}
use Rattle.ask_classes.specs.Failing.{Loss, Trial, trial_line, failing_line, trials_text, IsFailingPart}
use Rattle.ask_classes.specs.Tries.{IsTally, WritesTrials}
use Rattle.ask_classes.specs.declared.tally.Tally.{Tally}
use Rattle.ask_classes.proofs.Trying.{all_pass}

-- the line of an answer, and what is shown behind it
pub answer_written : (shows : Bool) (number : ℕ) (asked : Question) (problem : Problem) (verdict : Verdict) (tied : Option Tie)
    (old mid new line shown : List ℕ) →
    IsAnswer problem asked verdict tied → IsShown shows verdict problem asked shown → line ≡ answer_line problem.names number verdict tied →
    mid ≡ old ++ line → new ≡ mid ++ shown → WritesAnswer shows number asked problem old new verdict
answer_written shows number asked problem verdict tied old mid new line shown answer is_shown told first second = record {
  written = record {
    part = record { bytes = line ++ shown; all = is_yes verdict };
    is = record { verdict = verdict; tied = tied; answer = answer; text = shown; shown = is_shown; bytes = ap (λ (t : List ℕ). t ++ shown) told; all = refl };
    bytes = second ∙ ap (λ (t : List ℕ). t ++ shown) first ∙ append_assoc old line shown;
    all_is = refl;
  };
  is = answer.is;
}

-- the answer, the lines of those that failed, and the last line
pub failing_written : (asks : AskedOf) (number : ℕ) (whole : Problem) (down : Down) (losses : List Loss) (problem : Problem) (old first second new : List ℕ)
    (holds none : Bool) (tally : Tally) →
    problem.names ≡ whole.names → Writes (IsAnswerPart false number (question_for whole.names down asks) problem) old first holds →
    WritesTrials whole asks losses first second tally →
    ((trials : List Trial) → IsTally trials tally → new ≡ second ++ failing_line number trials) → none ≡ nat_eq tally.failed 0 →
    Writes (IsFailingPart asks number whole down losses problem) old new (holds && none)
failing_written asks number whole down losses problem old first second new holds none tally names answer written last is_none =
    let part = answer.part in
    let one = answer.is in
    let trials = written.trials in
    let lines = flat_map trial_line (zip losses trials) in
    let line : part.bytes ≡ answer_line whole.names number one.verdict one.tied =
    one.bytes ∙ ap (λ (t : List ℕ). answer_line problem.names number one.verdict one.tied ++ t) one.shown
    ∙ append-nil (answer_line problem.names number one.verdict one.tied) ∙ ap (λ (ns : List (List ℕ)). answer_line ns number one.verdict one.tied) names in
    record {
      part = record { bytes = part.bytes ++ trials_text number losses trials; all = holds && none };
      is = record {
        verdict = one.verdict;
        tied = one.tied;
        answer = one.answer;
        trials = trials;
        tried = written.tried;
        bytes = ap (λ (t : List ℕ). t ++ trials_text number losses trials) line;
        all = ap (λ (b : Bool). b && none) (answer.all_is ∙ one.all)
            ∙ ap (λ (b : Bool). is_yes one.verdict && b) (is_none ∙ ap (λ (n : ℕ). nat_eq n 0) written.counted.failed
            ∙ sym (all_pass (λ (t : Trial). is_yes t.verdict) trials));
      };
      bytes = last trials written.counted ∙ ap (λ (t : List ℕ). t ++ failing_line number trials) (written.bytes ∙ ap (λ (t : List ℕ). t ++ lines) answer.bytes)
          ∙ append_assoc (old ++ part.bytes) lines (failing_line number trials) ∙ append_assoc old part.bytes (lines ++ failing_line number trials);
      all_is = refl;
    }
