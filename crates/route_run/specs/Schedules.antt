-- A schedule: activations of single routers, and of all routers in order.
use Rattle.std.specs.Prelude.{◌≡◌, ℕ, List, [], ◌∷◌, map, flat_map, position, if◌then◌else◌, Option, Some, None, option_map, Result, Ok, Err, codes, bytes_eq}
use Rattle.std.specs.List.{range_with_len}
use Rattle.cfg_ast.specs.text.TextLines.{TextLine, text_line}
use Rattle.cfg_ast.specs.text.Members.{all_lines_of}
use Rattle.route_run.specs.declared.schedule.Activation.{Activation}
use Rattle.route_run.specs.declared.schedule.Activation.TheVariants.{One, Round}
use Rattle.route_run.specs.declared.schedule.ScheduleRefusal.{ScheduleRefusal}
use Rattle.route_run.specs.declared.schedule.ScheduleRefusal.TheVariants as schedule_refusal

-- ---- what a schedule runs

-- the routers that are activated, among so many
abbrev pub routers_of : ℕ → Activation → List ℕ
routers_of count (One router) = router ∷ []
routers_of count Round = range_with_len 0 count

-- one router is activated
abbrev pub IsSingle : Activation → Type 0
IsSingle (One router) = Unit {0}
IsSingle Round = ⊥

-- the run of a schedule on so many routers, with each round written out
abbrev pub run_of : ℕ → List Activation → List ℕ
run_of count schedule = flat_map (routers_of count) schedule

-- ---- what a schedule's text says

-- `*` is a round, and a name the activation of its router
abbrev pub activation_of : List (List ℕ) → List ℕ → Option Activation
activation_of names word = if bytes_eq word (codes "*") then Some Round else option_map One (position (bytes_eq word) names)

-- a word and the number of its line
pub record LineWord : Type 0 where
  pub line : ℕ
  pub word : List ℕ

abbrev pub line_word : ℕ → List ℕ → LineWord
line_word line word = record { line = line; word = word }

abbrev pub words_at : ℕ → List (List ℕ) → List LineWord
words_at line words = map (line_word line) words

abbrev pub words_on : TextLine → List LineWord
words_on l = words_at l.number l.words

-- the activation before those that follow
abbrev pub before : Activation → Result (List Activation) ScheduleRefusal → Result (List Activation) ScheduleRefusal
before activation (Ok later) = Ok (activation ∷ later)
before activation (Err refusal) = Err refusal

abbrev pub or_unknown : ℕ → Option Activation → Result (List Activation) ScheduleRefusal → Result (List Activation) ScheduleRefusal
or_unknown line None later = Err (schedule_refusal.UnknownRouter line)
or_unknown line (Some activation) later = before activation later

-- the activations of the words, or the line of the first word that is none
unfoldable pub schedule_of_words : List (List ℕ) → List LineWord → Result (List Activation) ScheduleRefusal
schedule_of_words names [] = Ok []
schedule_of_words names (w ∷ ws) = or_unknown w.line (activation_of names w.word) (schedule_of_words names ws)

-- all words of a text, in order
abbrev pub words_of_text : List ℕ → List LineWord
words_of_text bs = flat_map words_on (map (text_line bs) (all_lines_of bs))

-- the schedule of a text for routers of these names
abbrev pub schedule_of_text : List (List ℕ) → List ℕ → Result (List Activation) ScheduleRefusal
schedule_of_text names bs = schedule_of_words names (words_of_text bs)

-- the answer is that of the definition, or memory ran out
abbrev pub ReadsSchedule : Result (List Activation) ScheduleRefusal → Result (List Activation) ScheduleRefusal → Type 0
ReadsSchedule (Ok schedule) defined = defined ≡ Ok schedule
ReadsSchedule (Err schedule_refusal.Memory) defined = Unit {0}
ReadsSchedule (Err (schedule_refusal.UnknownRouter line)) defined = defined ≡ Err (schedule_refusal.UnknownRouter line)
