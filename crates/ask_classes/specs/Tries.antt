-- Trials, one after the other.
use Rattle.std.specs.Prelude.{◌≡◌, ℕ, ◌+◌, Bool, true, false, List, ◌++◌, count_by, flat_map, length, if◌then◌else◌}
use Rattle.std.specs.List.{zip}
use Rattle.std.specs.Option.{is_some}
use Rattle.srp_core.specs.Problem.{Problem}
use Rattle.ask_words.specs.declared.request.AskedOf.{AskedOf}
use Rattle.solution_answers.specs.declared.answering.Answer.{Answer}
use Rattle.ask_classes.specs.declared.tally.Tally.{Tally}
use Rattle.ask_classes.specs.Failing.{Loss, Trial, IsTried, trial_line, has_failed}
use Rattle.solution_answers.specs.Pairwise.{Pairwise}

-- so many trials, of which so many failed, and so many hang on a tie
pub record IsTally (trials : List Trial) (tally : Tally) : Type 0 where
  pub tried : tally.tried ≡ length trials
  pub failed : tally.failed ≡ count_by has_failed trials
  pub tied : tally.tied ≡ count_by (λ (t : Trial). is_some t.tied) trials

-- a trial of each of these losses, and the lines of those that failed
pub record WritesTrials (whole : Problem) (asks : AskedOf) (losses : List Loss) (old new : List ℕ) (tally : Tally) : Type 0 where
  pub trials : List Trial
  pub tried : Pairwise (IsTried whole asks) losses trials
  pub bytes : new ≡ old ++ flat_map trial_line (zip losses trials)
  pub counted : IsTally trials tally

-- one more trial
abbrev pub with_trial : Tally → Trial → Tally
with_trial tally trial = record {
  tried = tally.tried + 1;
  failed = tally.failed + (if has_failed trial then 1 else 0);
  tied = tally.tied + (if is_some trial.tied then 1 else 0);
}

abbrev pub trial_of : Answer → Trial
trial_of answer = record { verdict = answer.verdict; tied = answer.tie }

-- the loss is tried and reported
pub record TriesLoss (whole : Problem) (asks : AskedOf) (loss : Loss) (old new : List ℕ) (tally more : Tally) : Type 0 where
  pub trial : Trial
  pub tried : IsTried whole asks loss trial
  pub bytes : new ≡ old ++ trial_line (loss, trial)
  pub counted : more ≡ with_trial tally trial

-- the loss is tried if it is left
abbrev pub StepsOver : Problem → AskedOf → Bool → Loss → List ℕ → List ℕ → Tally → Tally → Type 0
StepsOver whole asks true loss old new tally more = TriesLoss whole asks loss old new tally more
StepsOver whole asks false loss old new tally more = (new ≡ old) × (more ≡ tally)
