-- Lines read one by one.
use Rattle.std.proofs.Common.{◌≡◌, ℕ, suc, ◌-◌, true, List, [], ◌∷◌, length, Some, Result, Ok, Err, refl, sym, ap, ◌∙◌, arith, true≢false}
use Rattle.std.specs.Result.{is_ok}
use Rattle.std.specs.List.{slice_get, AllByRecursion}
use Rattle.cfg_ast.specs.declared.line.Line.{Line}
use Rattle.cfg_ast.specs.declared.line.Span.{Span}
use Rattle.cfg_ast.specs.declared.network.Network.{Network}
use Rattle.cfg_ast.specs.declared.refusal.ReadRefusal.{ReadRefusal}
use Rattle.cfg_ast.specs.declared.refusal.ReadRefusal.TheVariants as refusal
use Rattle.cfg_ast.specs.text.Answers.{RefusesAs}
use Rattle.cfg_ast.specs.text.Lines.{lines_of, IsWordIn}
use Rattle.cfg_ast.specs.text.Members.{IsSpanIn}
use Rattle.cfg_ast.specs.text.TextLines.{TextLine, text_line}
use Rattle.cfg_ast.specs.text.Steps.{◌>>=◌}
use Rattle.cfg_ast.specs.text.Reading.{State, at_start, step, steps, texts_of, end_at, ending, network_of_lines, network_of_text}
use Rattle.cfg_lex.specs.declared.following.Place.{Place}
use Rattle.cfg_lex.specs.Places.{lines_from, put_first, IsFirst}
use Rattle.cfg_stanzas.specs.Changes.{Changes}
use Rattle.cfg_parse.specs.Rest.{ended_by, read_on, state_after}

-- ---- one line

pub words_are_spans : (bs : List ℕ) (ws : List Span) → AllByRecursion (IsWordIn bs) ws → AllByRecursion (IsSpanIn bs) ws
words_are_spans bs [] within = tt
words_are_spans bs (w ∷ ws) within = ((within.0.0, within.0.1), words_are_spans bs ws within.1)

ok_by : (bs : List ℕ) (s t : State) (said : Result (Unit {0}) ReadRefusal) (line : Line) (r : Result (List Line) ReadRefusal) →
    step s (text_line bs line) ≡ Ok t → state_after bs s said (put_first line r) ≡ state_after bs t (end_at (Some (text_line bs line))) r
unfolding steps ended_by
ok_by bs s t said line (Ok ls) e = rw e refl
ok_by bs s t said line (Err f) e = refl

pub line_ok : (bs : List ℕ) (place next : Place) (s t : State) (said : Result (Unit {0}) ReadRefusal) (line : Line) → IsFirst bs place next line →
    step s (text_line bs line) ≡ Ok t
    → state_after bs s said (lines_from bs place) ≡ state_after bs t (end_at (Some (text_line bs line))) (lines_from bs next)
line_ok bs place next s t said line first e = ap (state_after bs s said) first.first ∙ ok_by bs s t said line (lines_from bs next) e

err_by : (bs : List ℕ) (s : State) (said : Result (Unit {0}) ReadRefusal) (line : Line) (f : ReadRefusal) (r : Result (List Line) ReadRefusal) →
    is_ok r ≡ true → step s (text_line bs line) ≡ Err f → state_after bs s said (put_first line r) ≡ Err f
unfolding steps
err_by bs s said line f (Ok ls) ok e = rw e refl
err_by bs s said line f (Err g) ok e = absurd (true≢false (sym ok))

pub line_err : (bs : List ℕ) (place next : Place) (s : State) (said : Result (Unit {0}) ReadRefusal) (line : Line) (f : ReadRefusal) →
    IsFirst bs place next line → step s (text_line bs line) ≡ Err f → state_after bs s said (lines_from bs place) ≡ Err f
line_err bs place next s said line f first e = ap (state_after bs s said) first.first ∙ err_by bs s said line f (lines_from bs next) first.sound e

pub line_gives : (bs : List ℕ) (place next : Place) (s : State) (said : Result (Unit {0}) ReadRefusal) (line : Line) (f : ReadRefusal) →
    IsFirst bs place next line → RefusesAs f (step s (text_line bs line)) → RefusesAs f (state_after bs s said (lines_from bs place))
line_gives bs place next s said line refusal.Memory first given = tt
line_gives bs place next s said line (refusal.At n k) first given = line_err bs place next s said line (refusal.At n k) first given

pub lines_end : (bs : List ℕ) (place : Place) (s : State) (said : Result (Unit {0}) ReadRefusal) → lines_from bs place ≡ Ok [] →
    state_after bs s said (lines_from bs place) ≡ (said >>= (λ _. Ok s))
unfolding steps ended_by
lines_end bs place s said e = ap (state_after bs s said) e

-- the state stays, and the answer is what is said of the end
pub changes_as_said : (s : State) (said : Result (Unit {0}) ReadRefusal) (r : Result State ReadRefusal) → r ≡ (said >>= (λ _. Ok s)) → Changes said s r
changes_as_said s (Ok u) r e = e
changes_as_said s (Err refusal.Memory) r e = tt
changes_as_said s (Err (refusal.At n k)) r e = e

-- ---- all lines

ended_last : (said : Result (Unit {0}) ReadRefusal) (l : TextLine) (ls : List TextLine) → ended_by said (l ∷ ls) ≡ ending (l ∷ ls)
unfolding ended_by ending
ended_last said l [] = refl
ended_last said l (m ∷ ms) = ended_last (end_at (Some l)) m ms ∙ later l m ms
  where
    later : (l m : TextLine) (ms : List TextLine) →
        end_at (slice_get (m ∷ ms) (length (m ∷ ms) - 1)) ≡ end_at (slice_get (l ∷ m ∷ ms) (length (l ∷ m ∷ ms) - 1))
    later l m ms =
        let less : length (m ∷ ms) - 1 ≡ length ms = omega arith in
        let more : length (l ∷ m ∷ ms) - 1 ≡ suc (length ms) = omega arith in
        ap (λ (n : ℕ). end_at (slice_get (m ∷ ms) n)) less ∙ sym (ap (λ (n : ℕ). end_at (slice_get (l ∷ m ∷ ms) n)) more)

ended_same : (ls : List TextLine) → ended_by (Ok tt) ls ≡ ending ls
unfolding ended_by ending
ended_same [] = refl
ended_same (l ∷ ls) = ended_last (Ok tt) l ls

abbrev of_routers : State → Network
of_routers s = record { routers = s.routers }

two_ways : (r : Result State ReadRefusal) (e : Result (Unit {0}) ReadRefusal) →
    (r >>= (λ (s : State). e >>= (λ _. Ok (of_routers s)))) ≡ ((r >>= (λ (t : State). e >>= (λ _. Ok t))) >>= (λ (s : State). Ok (of_routers s)))
two_ways (Ok s) (Ok u) = refl
two_ways (Ok s) (Err f) = refl
two_ways (Err f) e = refl

lines_whole : (ls : List TextLine) → network_of_lines ls ≡ (read_on at_start (Ok tt) ls >>= (λ (s : State). Ok (of_routers s)))
unfolding network_of_lines
lines_whole ls = two_ways (steps at_start ls) (ending ls)
    ∙ ap (λ e. (steps at_start ls >>= (λ (t : State). e >>= (λ _. Ok t))) >>= (λ (s : State). Ok (of_routers s))) (sym (ended_same ls))

pub text_whole : (bs : List ℕ) → network_of_text bs ≡ (state_after bs at_start (Ok tt) (lines_of bs) >>= (λ (s : State). Ok (record { routers = s.routers })))
unfolding network_of_text
text_whole bs = by (lines_of bs)
  where
    by : (r : Result (List Line) ReadRefusal) →
        (r >>= (λ (ls : List Line). network_of_lines (texts_of bs ls))) ≡ (state_after bs at_start (Ok tt) r >>= (λ (s : State). Ok (of_routers s)))
    by (Ok ls) = lines_whole (texts_of bs ls)
    by (Err f) = refl

pub text_refuses : (bs : List ℕ) (f : ReadRefusal) → RefusesAs f (state_after bs at_start (Ok tt) (lines_of bs)) → RefusesAs f (network_of_text bs)
text_refuses bs refusal.Memory given = tt
text_refuses bs (refusal.At n k) given = text_whole bs ∙ ap (λ r. r >>= (λ (s : State). Ok (of_routers s))) given

pub text_read : (bs : List ℕ) (s : State) → state_after bs at_start (Ok tt) (lines_of bs) ≡ Ok s → network_of_text bs ≡ Ok (record { routers = s.routers })
text_read bs s given = text_whole bs ∙ ap (λ r. r >>= (λ (t : State). Ok (of_routers t))) given
