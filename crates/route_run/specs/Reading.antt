-- A schedule word by word: the activations that were read, before those of the words that are left.
use Rattle.std.specs.Prelude.{◌≡◌, ℕ, List, ◌++◌, Result, Ok, Err}
use Rattle.route_run.specs.declared.schedule.Activation.{Activation}
use Rattle.route_run.specs.declared.schedule.ScheduleRefusal.{ScheduleRefusal}
use Rattle.route_run.specs.declared.schedule.ScheduleRefusal.TheVariants as schedule_refusal
use Rattle.route_run.specs.Schedules.{LineWord, words_at, schedule_of_words}

-- the activations before the later ones
abbrev pub preceded : List Activation → Result (List Activation) ScheduleRefusal → Result (List Activation) ScheduleRefusal
preceded done (Ok later) = Ok (done ++ later)
preceded done (Err refusal) = Err refusal

-- the answer for these activations and the words of the line, whatever words come later
abbrev pub answer_with : List (List ℕ) → List Activation → ℕ → List (List ℕ) → List LineWord → Result (List Activation) ScheduleRefusal
answer_with names done line words later = preceded done (schedule_of_words names (words_at line words ++ later))

-- the line is refused because of one of its words, or because memory ran out
abbrev pub RefusesLine : List (List ℕ) → List Activation → ℕ → List (List ℕ) → ScheduleRefusal → Type 0
RefusesLine names done line words schedule_refusal.Memory = Unit {0}
RefusesLine names done line words (schedule_refusal.UnknownRouter at) = (later : List LineWord) →
    answer_with names done line words later ≡ Err (schedule_refusal.UnknownRouter at)
