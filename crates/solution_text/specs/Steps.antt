-- The labels of a text line by line: what is said of each router so far.
use Rattle.std.specs.Prelude.{ℕ, Bool, true, false, List, [], ◌∷◌, replicate, if◌then◌else◌, Option, Some, None, Result, Ok, Err, slice_index_or, slice_set}
use Rattle.std.specs.List.{list_all}
use Rattle.base_kit.specs.declared.protocol.Protocol.{Protocol}
use Rattle.cfg_ast.specs.text.TextLines.{TextLine}
use Rattle.srp_core.specs.declared.route.Route.{Route}
use Rattle.solution_text.specs.declared.refusal.SolKind.TheVariants.{BadForm, UnknownRouter, Repeated, WrongProtocol}
use Rattle.solution_text.specs.declared.refusal.SolRefusal.{SolRefusal}
use Rattle.solution_text.specs.declared.refusal.SolRefusal.TheVariants.{At}
use Rattle.solution_text.specs.Forms.{NamedLabel, named_label_of}
use Rattle.solution_text.specs.Solutions.{is_foreign, labels_unless}

-- which routers have a line, and the labels of these; the others have none
pub record LabelsSoFar : Type 0 where
  pub seen : List Bool
  pub labels : List (Option Route)

abbrev pub nothing_said : ℕ → LabelsSoFar
nothing_said count = record { seen = replicate count false; labels = replicate count None }

abbrev pub has_line : LabelsSoFar → ℕ → Bool
has_line s place = slice_index_or s.seen place false

abbrev pub with_label_at : LabelsSoFar → ℕ → Option Route → LabelsSoFar
with_label_at s place label = record { seen = slice_set s.seen place true; labels = slice_set s.labels place label }

abbrev pub is_said : Bool → Bool
is_said b = b

-- the labels, if each router has a line
abbrev pub all_labels : LabelsSoFar → Option (List (Option Route))
all_labels s = if list_all is_said s.seen then Some s.labels else None

-- ---- one line more

abbrev pub with_label : Protocol → ℕ → LabelsSoFar → ℕ → Option Route → Result LabelsSoFar SolRefusal
with_label protocol line s place label =
    if has_line s place then Err (At line Repeated)
    else (if is_foreign protocol label then Err (At line WrongProtocol)
    else Ok (with_label_at s place label))

abbrev pub with_place : Protocol → ℕ → LabelsSoFar → Option Route → Option ℕ → Result LabelsSoFar SolRefusal
with_place protocol line s label None = Err (At line UnknownRouter)
with_place protocol line s label (Some place) = with_label protocol line s place label

abbrev pub with_named_label : Protocol → (List ℕ → Option ℕ) → ℕ → LabelsSoFar → Option NamedLabel → Result LabelsSoFar SolRefusal
with_named_label protocol place_of line s None = Err (At line BadForm)
with_named_label protocol place_of line s (Some says) = with_place protocol line s says.label (place_of says.name)

-- a line without words says nothing
abbrev pub with_words : Protocol → (List ℕ → Option ℕ) → ℕ → LabelsSoFar → List (List ℕ) → Result LabelsSoFar SolRefusal
with_words protocol place_of line s [] = Ok s
with_words protocol place_of line s (word ∷ words) = with_named_label protocol place_of line s (named_label_of (word ∷ words))

-- ---- all lines

-- the answer behind the last line
abbrev pub labels_at_end : ℕ → LabelsSoFar → Result (List (Option Route)) SolRefusal
labels_at_end line s = labels_unless None line (all_labels s)

abbrev pub continue_with : Result LabelsSoFar SolRefusal → (LabelsSoFar → Result (List (Option Route)) SolRefusal) → Result (List (Option Route)) SolRefusal
continue_with (Ok s) f = f s
continue_with (Err e) f = Err e

-- the answer of the lines that are left, where `end` is the number behind the last line
unfoldable pub answer_from : Protocol → (List ℕ → Option ℕ) → ℕ → List TextLine → LabelsSoFar → Result (List (Option Route)) SolRefusal
answer_from protocol place_of end [] s = labels_at_end end s
answer_from protocol place_of end (l ∷ ls) s = continue_with (with_words protocol place_of l.number s l.words) (answer_from protocol place_of end ls)
