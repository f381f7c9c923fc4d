-- The words of a text that are left, one after the other.
use Rattle.std.proofs.Common.{◌≡◌, ℕ, ◌+◌, ◌≤◌, List, [], ◌∷◌, ◌++◌, length, map, refl, sym, ap, ◌∙◌, append_assoc, append-nil, Option, Some, None, Result, Ok, Err}
use Rattle.std.specs.Prelude.{flat_map}
use Rattle.std.specs.List.{slice_range}
use Rattle.cfg_ast.specs.text.Lines.{newline_from, without_return, Piece, pieces_from, line_of, words_of}
use Rattle.cfg_ast.specs.text.TextLines.{text_line}
use Rattle.cfg_ast.proofs.Pieces.{pieces_next, pieces_end}
use Rattle.cfg_ast.proofs.SameWords.{same_words}
use Rattle.cfg_lex.proofs.LinesLeft.{Cut}
use Rattle.route_run.specs.declared.schedule.Activation.{Activation}
use Rattle.route_run.specs.declared.schedule.ScheduleRefusal.{ScheduleRefusal}
use Rattle.route_run.specs.Schedules.{LineWord, words_at, words_on, activation_of, before, or_unknown, schedule_of_words, ReadsSchedule}
use Rattle.route_run.specs.declared.schedule.ScheduleRefusal.TheVariants as schedule_refusal
use Rattle.route_run.specs.Reading.{preceded, answer_with, RefusesLine}

abbrev Answer : Type 0
Answer = Result (List Activation) ScheduleRefusal

-- ---- one word more

preceded_push : (done : List Activation) (a : Activation) (later : Answer) → preceded done (before a later) ≡ preceded (done ++ a ∷ []) later
preceded_push done a (Ok later) = ap Ok (sym (append_assoc done (a ∷ []) later))
preceded_push done a (Err refusal) = refl

pub word_read : (names : List (List ℕ)) (done : List Activation) (line : ℕ) (word : List ℕ) (words : List (List ℕ)) (later : List LineWord) (a : Activation) →
    activation_of names word ≡ Some a
    → preceded done (schedule_of_words names (words_at line (word ∷ words) ++ later)) ≡ preceded (done ++ a ∷ [])
    (schedule_of_words names (words_at line words ++ later))
unfolding schedule_of_words
word_read names done line word words later a e =
    ap (λ (o : Option Activation). preceded done (or_unknown line o (schedule_of_words names (words_at line words ++ later)))) e
    ∙ preceded_push done a (schedule_of_words names (words_at line words ++ later))

pub word_refused : (names : List (List ℕ)) (done : List Activation) (line : ℕ) (word : List ℕ) (words : List (List ℕ)) (later : List LineWord) →
    activation_of names word ≡ None
    → preceded done (schedule_of_words names (words_at line (word ∷ words) ++ later)) ≡ Err (schedule_refusal.UnknownRouter line)
unfolding schedule_of_words
word_refused names done line word words later e =
    ap (λ (o : Option Activation). preceded done (or_unknown line o (schedule_of_words names (words_at line words ++ later)))) e

pub no_words : (names : List (List ℕ)) (done : List Activation) → preceded done (schedule_of_words names []) ≡ Ok done
unfolding schedule_of_words
no_words names done = ap Ok (append-nil done)

pub nothing_before : (later : Answer) → preceded [] later ≡ later
nothing_before (Ok later) = refl
nothing_before (Err refusal) = refl

-- ---- one line more

-- the words from a place on, the first line of which has this number
abbrev pub words_left : List ℕ → ℕ → ℕ → List LineWord
words_left bs n from = flat_map words_on (map (text_line bs) (map (line_of bs) (pieces_from bs n from)))

abbrev cut_piece : ℕ → ℕ → ℕ → Piece
cut_piece n from upto = record { number = n; from = from; upto = upto }

pub line_left : (bs : List ℕ) (n from end upto : ℕ) → Cut bs from end upto → words_left bs n from ≡ words_at n (words_of (slice_range bs from upto))
    ++ words_left bs (n + 1) (end + 1)
line_left bs n from end upto cut =
    let place : upto ≡ without_return bs from (newline_from bs from) = cut.less_return ∙ ap (without_return bs from) cut.to_newline in
    let front : pieces_from bs n from ≡ cut_piece n from upto ∷ pieces_from bs (n + 1) (end + 1) =
    pieces_next bs n from cut.inside cut.begins ∙ ap (λ (e : ℕ). cut_piece n from e ∷ pieces_from bs (n + 1) (newline_from bs from + 1)) (sym place)
    ∙ ap (λ (e : ℕ). cut_piece n from upto ∷ pieces_from bs (n + 1) (e + 1)) (sym cut.to_newline) in
    ap (λ (ps : List Piece). flat_map words_on (map (text_line bs) (map (line_of bs) ps))) front
    ∙ ap (λ (ws : List (List ℕ)). words_at n ws ++ words_left bs (n + 1) (end + 1)) (same_words bs from upto cut.front cut.short)

pub none_left : (bs : List ℕ) (n from : ℕ) → length bs ≤ from → words_left bs n from ≡ []
none_left bs n from le = ap (λ (ps : List Piece). flat_map words_on (map (text_line bs) (map (line_of bs) ps))) (pieces_end bs n from le)

-- a line that is refused refuses the whole
pub refused_whole : (names : List (List ℕ)) (done : List Activation) (line : ℕ) (words : List (List ℕ)) (later : List LineWord) (refusal : ScheduleRefusal)
    (whole : Answer) → answer_with names done line words later ≡ whole → RefusesLine names done line words refusal → ReadsSchedule (Err refusal) whole
refused_whole names done line words later schedule_refusal.Memory whole is refuses = tt
refused_whole names done line words later (schedule_refusal.UnknownRouter at) whole is refuses = sym is ∙ refuses later
