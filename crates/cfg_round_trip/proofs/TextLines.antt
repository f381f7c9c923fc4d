-- The lines of a printed text are the lines that were printed, except for their numbers.
use Rattle.std.proofs.Common.{◌≡◌, ℕ, zero, suc, ◌+◌, ◌-◌, ◌<◌, ◌≤◌, Bool, true, false, cond, not, ◌&&◌, List, [], ◌∷◌, ◌++◌, length, get_or, take, drop, map, filter, slice_index, refl, sym, ap, ◌∙◌, arith, append_assoc, length-append, None, Ok}
use Rattle.std.specs.Prelude.{◌==◌, nat_lt}
use Rattle.std.specs.List.{AllByRecursion, slice_range}
use Rattle.std.proofs.Math.ListN.{get_or-append, length-drop, length-take}
use Rattle.std.proofs.Math.Seq.{get_or-drop, get_or-take, drop-drop, get_or-append_seam, take-append_seam, drop-append_seam}
use Rattle.std.proofs.lemmas.Bool.Decides.{nat_tests}
use Rattle.std.proofs.lemmas.List.Elements.{All-from_recursion}
use Rattle.cfg_ast.specs.text.TextLines.{TextLine, text_line}
use Rattle.cfg_ast.specs.declared.line.Line.{Line}
use Rattle.cfg_ast.specs.declared.line.Span.{Span}
use Rattle.cfg_ast.specs.declared.refusal.ReadRefusal.{ReadRefusal}
use Rattle.cfg_ast.specs.text.Lines.{first_at, is_plain, blank_at, newline_at, begins_line, newline_from, without_return, Piece, piece_at, pieces_from, words_between, indent_between, odd_from, kind_at, line_faults, unless_refused, lines_in, lines_of, line_of, are_kept, is_kept, text_of, texts}
use Rattle.cfg_ast.specs.text.Reading.{texts_of}
use Rattle.cfg_ast.specs.printing.Printed.{line_text, lines_text}
use Rattle.cfg_ast.specs.text.Members.{all_lines_of}
use Rattle.cfg_ast.specs.printing.Bare.{bare_line}
use Rattle.cfg_ast.specs.printing.WellFormed.{IsBetween}
use Rattle.cfg_ast.proofs.Places.{first_here, first_next, first_end}
use Rattle.cfg_ast.proofs.Pieces.{pieces_next, pieces_end, begins_next}
use Rattle.cfg_ast.proofs.SameWords.{same_words}
use Rattle.cfg_round_trip.proofs.PrintedLines.{IsPrintedWord, IsPrintedLine, are_read, is_read}
use Rattle.cfg_round_trip.proofs.LineBytes.{line_body, text_is_body, body_prints, body_words, body_dented}

-- ---- the first place

first_is : (n : ℕ) (test : ℕ → Bool) (i upto e : ℕ) → e ≡ i + n → e < upto → ((k : ℕ) → i ≤ k → k < e → test k ≡ false) → test e ≡ true →
    first_at test i upto ≡ e
first_is zero test i upto e at lt before here =
    let same : e ≡ i = omega arith in
    first_here test i upto (omega arith) (ap test (sym same) ∙ here) ∙ sym same
first_is (suc n) test i upto e at lt before here =
    first_next test i upto (omega arith) (before i (omega arith) (omega arith))
    ∙ first_is n test (i + 1) upto e (omega arith) lt (λ k l m. before k (omega arith) m) here

first_none : (n : ℕ) (test : ℕ → Bool) (i upto : ℕ) → upto ≡ i + n → ((k : ℕ) → i ≤ k → k < upto → test k ≡ false) → first_at test i upto ≡ upto
first_none zero test i upto at before = first_end test i upto (omega arith) ∙ omega arith
first_none (suc n) test i upto at before =
    first_next test i upto (omega arith) (before i (omega arith) (omega arith))
    ∙ first_none n test (i + 1) upto (omega arith) (λ k l m. before k (omega arith) m)

-- ---- a line at a place of a text

-- the text goes on from the place with the body of a line, a newline and more
pub record Stands (bs : List ℕ) (from : ℕ) (l : TextLine) (more : List ℕ) : Type 0 where
  pub goes_on : drop from bs ≡ line_body l ++ 10 ∷ more
  pub inside : from + length (line_body l) < length bs

abbrev end_of : ℕ → TextLine → ℕ
end_of from l = from + length (line_body l)

-- a byte of the line
byte_at : (bs : List ℕ) (from : ℕ) (l : TextLine) (more : List ℕ) (k : ℕ) → Stands bs from l more → from ≤ k → k < end_of from l →
    get_or bs k 0 ≡ get_or (line_body l) (k - from) 0
byte_at bs from l more k s le lt =
    let at : k ≡ from + (k - from) = omega arith in
    ap (λ (j : ℕ). get_or bs j 0) at ∙ sym (get_or-drop from bs (k - from) 0) ∙ ap (λ (xs : List ℕ). get_or xs (k - from) 0) s.goes_on
    ∙ get_or-append (line_body l) (10 ∷ more) 0 (k - from) (omega arith)

newline_there : (bs : List ℕ) (from : ℕ) (l : TextLine) (more : List ℕ) → Stands bs from l more → get_or bs (end_of from l) 0 ≡ 10
newline_there bs from l more s =
    sym (get_or-drop from bs (length (line_body l)) 0) ∙ ap (λ (xs : List ℕ). get_or xs (length (line_body l)) 0) s.goes_on
    ∙ get_or-append_seam (line_body l) 10 more 0

prints_at : (bs : List ℕ) (from : ℕ) (l : TextLine) (more : List ℕ) (k : ℕ) → Stands bs from l more → IsPrintedLine l → from ≤ k → k < end_of from l →
    IsBetween 32 126 (get_or bs k 0)
prints_at bs from l more k s is le lt =
    rw (byte_at bs from l more k s le lt) (All-from_recursion (IsBetween 32 126) (line_body l) (body_prints l is) (k - from) 0 (omega arith))

no_newline : (b : ℕ) → IsBetween 32 126 b → (b == 10) ≡ false
no_newline b is = let low = is.0 in grind (arith, nat_tests)

no_return : (b : ℕ) → IsBetween 32 126 b → (b == 13) ≡ false
no_return b is = let low = is.0 in grind (arith, nat_tests)

plain : (b : ℕ) → IsBetween 32 126 b → not (is_plain b) ≡ false
plain b is = let low = is.0 in let high = is.1 in grind (arith, nat_tests)

ends_at : (bs : List ℕ) (from : ℕ) (l : TextLine) (more : List ℕ) → Stands bs from l more → IsPrintedLine l → newline_from bs from ≡ end_of from l
ends_at bs from l more s is =
    first_is (length (line_body l)) (newline_at bs) from (length bs) (end_of from l) refl s.inside
    (λ k le lt. no_newline (get_or bs k 0) (prints_at bs from l more k s is le lt)) (ap (λ (b : ℕ). b == 10) (newline_there bs from l more s))

return_case : (from end : ℕ) (a b : Bool) → (a ≡ true → b ≡ false) → cond (a && b) (end - 1) end ≡ end
return_case from end true b none = rw (none refl) refl
return_case from end false b none = refl

no_return_at : (bs : List ℕ) (from : ℕ) (l : TextLine) (more : List ℕ) → Stands bs from l more → IsPrintedLine l →
    without_return bs from (end_of from l) ≡ end_of from l
no_return_at bs from l more s is =
    let dented = body_dented l is in
    let last = prints_at bs from l more (end_of from l - 1) s is (omega (arith, dented.inside)) (omega (arith, dented.inside)) in
    return_case from (end_of from l) (nat_lt from (end_of from l)) (slice_index bs (end_of from l - 1) == 13)
    (λ lt. no_return (get_or bs (end_of from l - 1) 0) last)

-- the line as a piece of the text
abbrev piece : ℕ → ℕ → TextLine → Piece
piece n from l = record { number = n; from = from; upto = end_of from l }

piece_is : (bs : List ℕ) (n from : ℕ) (l : TextLine) (more : List ℕ) → Stands bs from l more → IsPrintedLine l → piece_at bs (n, from) ≡ piece n from l
piece_is bs n from l more s is =
    ap (λ (e : ℕ). let p : Piece = record { number = n; from = from; upto = without_return bs from e } in p) (ends_at bs from l more s is)
    ∙ ap (λ (e : ℕ). let p : Piece = record { number = n; from = from; upto = e } in p) (no_return_at bs from l more s is)

range_is : (bs : List ℕ) (from : ℕ) (l : TextLine) (more : List ℕ) → Stands bs from l more → slice_range bs from (end_of from l) ≡ line_body l
range_is bs from l more s =
    let long : end_of from l - from ≡ length (line_body l) = omega arith in
    ap (λ (n : ℕ). take n (drop from bs)) long ∙ ap (take (length (line_body l))) s.goes_on ∙ take-append_seam (line_body l) (10 ∷ more)

words_at : (bs : List ℕ) (from : ℕ) (l : TextLine) (more : List ℕ) → Stands bs from l more → IsPrintedLine l →
    texts bs (words_between bs from (end_of from l)) ≡ l.words
words_at bs from l more s is =
    same_words bs from (end_of from l) (omega arith) (omega (arith, s.inside)) ∙ rw (range_is bs from l more s) (body_words l is)

indent_at : (bs : List ℕ) (from : ℕ) (l : TextLine) (more : List ℕ) → Stands bs from l more → IsPrintedLine l →
    indent_between bs from (end_of from l) ≡ l.indent
indent_at bs from l more s is =
    let dented = body_dented l is in
    let there : from + l.indent - from ≡ l.indent = omega arith in
    let blank : (k : ℕ) → from ≤ k → k < from + l.indent → not (blank_at bs k) ≡ false =
    λ k le lt. rw (byte_at bs from l more k s le (omega (arith, dented.inside)), dented.blank (k - from) (omega arith)) refl in
    let at : (from + l.indent) - from ≡ l.indent = omega arith in
    let full : not (blank_at bs (from + l.indent)) ≡ true =
    rw (byte_at bs from l more (from + l.indent) s (omega arith) (omega (arith, dented.inside)), at, dented.full) refl in
    ap (λ (e : ℕ). e - from) (first_is l.indent (λ (i : ℕ). not (blank_at bs i)) from (end_of from l) (from + l.indent) refl (omega (arith, dented.inside))
    blank full) ∙ there

odd_at : (bs : List ℕ) (from : ℕ) (l : TextLine) (more : List ℕ) → Stands bs from l more → IsPrintedLine l → odd_from bs from (end_of from l) ≡ end_of from l
odd_at bs from l more s is =
    first_none (length (line_body l)) (λ (i : ℕ). not (is_plain (slice_index bs i))) from (end_of from l) refl
    (λ k le lt. plain (get_or bs k 0) (prints_at bs from l more k s is le lt))

kind_cases : (odd from upto n : ℕ) → odd ≡ upto → upto - from ≤ 1024 → n ≤ 1000000 → (nat_lt odd upto ≡ false) × (nat_lt 1024 (upto - from) ≡ false)
    × (nat_lt 1000000 n ≡ false)
kind_cases odd from upto n none short few = (grind (arith, nat_tests), grind (arith, nat_tests), grind (arith, nat_tests))

no_fault_at : (bs : List ℕ) (n from : ℕ) (l : TextLine) (more : List ℕ) → Stands bs from l more → IsPrintedLine l → length (line_text l) ≤ 1025 → n ≤ 1000000 →
    kind_at bs (piece n from l) ≡ None
no_fault_at bs n from l more s is short few =
    let long : length (line_text l) ≡ length (line_body l) + 1 = ap length (text_is_body l) ∙ length-append (line_body l) (10 ∷ []) in
    let cases = kind_cases (odd_from bs from (end_of from l)) from (end_of from l) n (odd_at bs from l more s is) (omega (arith, short, long)) few in
    rw (cases.0, cases.1, cases.2) refl

-- ---- which lines are kept

first_of : (bs : List ℕ) (w : Span) → 1 ≤ length (text_of bs w) → get_or (text_of bs w) 0 0 ≡ slice_index bs w.from
first_of bs w some =
    let from : w.from + 0 ≡ w.from = omega arith in
    get_or-take (w.upto - w.from) (drop w.from bs) 0 0 (omega (arith, length-take (w.upto - w.from) (drop w.from bs))) ∙ get_or-drop w.from bs 0 0
    ∙ ap (λ (i : ℕ). get_or bs i 0) from

kept_words : (bs : List ℕ) (ws : List Span) → AllByRecursion IsPrintedWord (texts bs ws) → are_kept bs ws ≡ are_read (texts bs ws)
kept_words bs [] each = refl
kept_words bs (w ∷ ws) each = ap (λ (b : ℕ). not (b == 33)) (sym (first_of bs w each.0.0))

kept_at : (bs : List ℕ) (n from : ℕ) (l : TextLine) (more : List ℕ) → Stands bs from l more → IsPrintedLine l → is_kept bs (piece n from l) ≡ is_read l
kept_at bs n from l more s is =
    let says = words_at bs from l more s is in
    kept_words bs (words_between bs from (end_of from l)) (rw says is.words) ∙ ap are_read says

-- the line that is read of the piece
line_back : (bs : List ℕ) (n from : ℕ) (l : TextLine) (more : List ℕ) → Stands bs from l more → IsPrintedLine l →
    bare_line (text_line bs (line_of bs (piece n from l))) ≡ bare_line l
line_back bs n from l more s is =
    ap (λ (d : ℕ). let t : TextLine = record { number = 0; indent = d; words = texts bs (words_between bs from (end_of from l)) } in t)
    (indent_at bs from l more s is)
    ∙ ap (λ (ws : List (List ℕ)). let t : TextLine = record { number = 0; indent = l.indent; words = ws } in t) (words_at bs from l more s is)

-- ---- the lines of a text, one after the other

-- from the place on, the text is that of these lines
pub record GoesOn (bs : List ℕ) (from : ℕ) (ls : List TextLine) : Type 0 where
  pub text : drop from bs ≡ lines_text ls
  pub inside : from ≤ length bs

body_first : (l : TextLine) (rest : List ℕ) → line_text l ++ rest ≡ line_body l ++ 10 ∷ rest
body_first l rest = ap (λ (xs : List ℕ). xs ++ rest) (text_is_body l) ∙ append_assoc (line_body l) (10 ∷ []) rest

stands : (bs : List ℕ) (from : ℕ) (l : TextLine) (ls : List TextLine) → GoesOn bs from (l ∷ ls) → Stands bs from l (lines_text ls)
stands bs from l ls on =
    let text : drop from bs ≡ line_body l ++ 10 ∷ lines_text ls = on.text ∙ body_first l (lines_text ls) in
    let long : length (drop from bs) ≡ length (line_body l) + (length (lines_text ls) + 1) = ap length text ∙ length-append (line_body l) (10 ∷ lines_text ls)
    ∙ omega arith in
    record { goes_on = text; inside = omega (arith, long, length-drop from bs, on.inside) }

goes_further : (bs : List ℕ) (from : ℕ) (l : TextLine) (ls : List TextLine) → GoesOn bs from (l ∷ ls) → GoesOn bs (end_of from l + 1) ls
goes_further bs from l ls on =
    let s = stands bs from l ls on in
    let body = line_body l in
    let front : length (body ++ 10 ∷ []) ≡ length body + 1 = length-append body (10 ∷ []) in
    let place : end_of from l + 1 ≡ from + (length body + 1) = omega arith in
    record {
      text = ap (λ (k : ℕ). drop k bs) place ∙ sym (drop-drop (length body + 1) from bs)
          ∙ ap (drop (length body + 1)) (s.goes_on ∙ sym (append_assoc body (10 ∷ []) (lines_text ls)))
          ∙ ap (λ (k : ℕ). drop k ((body ++ 10 ∷ []) ++ lines_text ls)) (sym front) ∙ drop-append_seam (body ++ 10 ∷ []) (lines_text ls);
      inside = omega (arith, s.inside);
    }

-- the pieces that the lines are
abbrev pub pieces_of : ℕ → ℕ → List TextLine → List Piece
pieces_of n from [] = []
pieces_of n from (l ∷ ls) = piece n from l ∷ pieces_of (n + 1) (end_of from l + 1) ls

pieces_back : (ls : List TextLine) (bs : List ℕ) (n from : ℕ) → GoesOn bs from ls → (from < length bs → begins_line bs from ≡ true) →
    AllByRecursion IsPrintedLine ls → pieces_from bs n from ≡ pieces_of n from ls
pieces_back [] bs n from on begins each =
    let none : length (drop from bs) ≡ 0 = ap length on.text in
    pieces_end bs n from (omega (arith, none, length-drop from bs))
pieces_back (l ∷ ls) bs n from on begins each =
    let s = stands bs from l ls on in
    let here : from < length bs = omega (arith, s.inside) in
    let end = ends_at bs from l (lines_text ls) s each.0 in
    let next : end_of from l + 1 < length bs → begins_line bs (end_of from l + 1) ≡ true = λ lt. ap (λ (e : ℕ). begins_line bs (e + 1)) (sym end)
    ∙ begins_next bs from here (rw end lt) in
    pieces_next bs n from here (begins here)
    ∙ ap (λ (p : Piece). p ∷ pieces_from bs (n + 1) (newline_from bs from + 1)) (piece_is bs n from l (lines_text ls) s each.0)
    ∙ ap (λ (e : ℕ). piece n from l ∷ pieces_from bs (n + 1) (e + 1)) end
    ∙ ap (λ (ps : List Piece). piece n from l ∷ ps) (pieces_back ls bs (n + 1) (end_of from l + 1) (goes_further bs from l ls on) next each.1)

-- ---- all lines

read_back : (ls : List TextLine) (bs : List ℕ) (n from : ℕ) → GoesOn bs from ls → AllByRecursion IsPrintedLine ls →
    map bare_line (map (text_line bs) (map (line_of bs) (pieces_of n from ls))) ≡ map bare_line ls
read_back [] bs n from on each = refl
read_back (l ∷ ls) bs n from on each =
    let more = map bare_line (map (text_line bs) (map (line_of bs) (pieces_of (n + 1) (end_of from l + 1) ls))) in
    ap (λ (t : TextLine). t ∷ more) (line_back bs n from l (lines_text ls) (stands bs from l ls on) each.0)
    ∙ ap (λ (ts : List TextLine). bare_line l ∷ ts) (read_back ls bs (n + 1) (end_of from l + 1) (goes_further bs from l ls on) each.1)

at_front : (ls : List TextLine) → GoesOn (lines_text ls) 0 ls
at_front ls = record { text = refl; inside = omega arith }

-- all lines of the text are those that were printed
pub all_lines_back : (ls : List TextLine) → AllByRecursion IsPrintedLine ls →
    map bare_line (map (text_line (lines_text ls)) (all_lines_of (lines_text ls))) ≡ map bare_line ls
all_lines_back ls each =
    let bs = lines_text ls in
    ap (λ (ps : List Piece). map bare_line (map (text_line bs) (map (line_of bs) ps))) (pieces_back ls bs 1 0 (at_front ls) (λ lt. refl) each)
    ∙ read_back ls bs 1 0 (at_front ls) each

-- ---- the lines that are read

abbrev AreShort : List TextLine → Type 0
AreShort ls = AllByRecursion (λ (l : TextLine). length (line_text l) ≤ 1025) ls

no_faults : (ls : List TextLine) (bs : List ℕ) (n from : ℕ) → GoesOn bs from ls → AllByRecursion IsPrintedLine ls → AreShort ls → n + length ls ≤ 1000001 →
    line_faults bs (pieces_of n from ls) ≡ []
no_faults [] bs n from on each short few = refl
no_faults (l ∷ ls) bs n from on each short few =
    rw (no_fault_at bs n from l (lines_text ls) (stands bs from l ls on) each.0 short.0 (omega arith))
    (no_faults ls bs (n + 1) (end_of from l + 1) (goes_further bs from l ls on) each.1 short.1 (omega arith))

abbrev kept_of : List ℕ → List Piece → List Line
kept_of bs ps = map (line_of bs) (filter (is_kept bs) ps)

kept_case : (b : Bool) (l : TextLine) (ls : List TextLine) (bs : List ℕ) (n from : ℕ) → is_read l ≡ b → GoesOn bs from (l ∷ ls) → IsPrintedLine l
    → map bare_line (texts_of bs (kept_of bs (pieces_of (n + 1) (end_of from l + 1) ls))) ≡ filter is_read (map bare_line ls)
    → map bare_line (texts_of bs (kept_of bs (pieces_of n from (l ∷ ls)))) ≡ filter is_read (map bare_line (l ∷ ls))
kept_case true l ls bs n from e on is rest =
    let s = stands bs from l ls on in
    let kept : is_kept bs (piece n from l) ≡ true = kept_at bs n from l (lines_text ls) s is ∙ e in
    rw (kept, e) (ap (λ (t : TextLine). t ∷ map bare_line (texts_of bs (kept_of bs (pieces_of (n + 1) (end_of from l + 1) ls))))
    (line_back bs n from l (lines_text ls) s is) ∙ ap (λ (ts : List TextLine). bare_line l ∷ ts) rest)
kept_case false l ls bs n from e on is rest =
    let kept : is_kept bs (piece n from l) ≡ false = kept_at bs n from l (lines_text ls) (stands bs from l ls on) is ∙ e in
    rw (kept, e) rest

kept_back : (ls : List TextLine) (bs : List ℕ) (n from : ℕ) → GoesOn bs from ls → AllByRecursion IsPrintedLine ls →
    map bare_line (texts_of bs (kept_of bs (pieces_of n from ls))) ≡ filter is_read (map bare_line ls)
kept_back [] bs n from on each = refl
kept_back (l ∷ ls) bs n from on each = kept_case (is_read l) l ls bs n from refl on each.0
    (kept_back ls bs (n + 1) (end_of from l + 1) (goes_further bs from l ls on) each.1)

-- the lines of the text that are not skipped are those that were printed and are no comments
pub lines_back : (ls : List TextLine) → AllByRecursion IsPrintedLine ls → length ls ≤ 1000000 →
    AllByRecursion (λ (l : TextLine). length (line_text l) ≤ 1025) ls
    → (kept : List Line) × (lines_of (lines_text ls) ≡ Ok kept) × (map bare_line (texts_of (lines_text ls) kept) ≡ filter is_read (map bare_line ls))
unfolding lines_in
lines_back ls each few short =
    let bs = lines_text ls in
    let ps = pieces_of 1 0 ls in
    let kept = kept_of bs ps in (
      kept,
      ap (lines_in bs) (pieces_back ls bs 1 0 (at_front ls) (λ lt. refl) each)
          ∙ ap (λ (fs : List ReadRefusal). unless_refused fs kept) (no_faults ls bs 1 0 (at_front ls) each short (omega arith)),
      kept_back ls bs 1 0 (at_front ls) each,
    )
