-- Texts that grow at their end.
use Rattle.std.proofs.Common.{◌≡◌, ℕ, ◌+◌, ◌<◌, List, ◌∷◌, ◌++◌, length, get_or, drop, map, Result, Ok, Err, sym, ap, ◌∙◌, append_assoc}
use Rattle.std.specs.Prelude.{OnOk, is_ok, if◌then◌else◌}
use Rattle.std.proofs.lemmas.Grind.{flat_map-append}
use Rattle.std.proofs.lemmas.List.{drop_more}
use Rattle.std.specs.declared.alloc.AllocError.{AllocError}
use Rattle.cfg_ast.specs.text.TextLines.{TextLine}
use Rattle.cfg_ast.specs.printing.Printed.{line_text, lines_text}

-- one piece more
pub grown : (old a t b new : List ℕ) → t ≡ old ++ a → new ≡ t ++ b → new ≡ old ++ (a ++ b)
grown old a t b new first second = second ∙ ap (λ (xs : List ℕ). xs ++ b) first ∙ append_assoc old a b

-- the last piece, by which the line is whole
pub ends : (r : Result (Unit {0}) AllocError) (old a t b new line : List ℕ) → t ≡ old ++ a → OnOk r (new ≡ t ++ b) → line ≡ a ++ b → OnOk r (new ≡ old ++ line)
ends (Ok x) old a t b new line first second whole = grown old a t b new first second ∙ ap (λ (xs : List ℕ). old ++ xs) (sym whole)
ends (Err e) old a t b new line first second whole = tt

-- one piece alone
pub written : (r : Result (Unit {0}) AllocError) (old a new line : List ℕ) → OnOk r (new ≡ old ++ a) → line ≡ a → OnOk r (new ≡ old ++ line)
written (Ok x) old a new line first whole = first ∙ ap (λ (xs : List ℕ). old ++ xs) (sym whole)
written (Err e) old a new line first whole = tt

-- a piece that one call appends
pub pushed : (r : Result (Unit {0}) AllocError) (old a new line : List ℕ) → new ≡ (if is_ok r then old ++ a else old) → a ≡ line → OnOk r (new ≡ old ++ line)
pushed (Ok x) old a new line is whole = is ∙ ap (λ (xs : List ℕ). old ++ xs) whole
pushed (Err e) old a new line is whole = tt

-- lines more
pub lines_grown : (old : List ℕ) (xs : List TextLine) (t : List ℕ) (ys : List TextLine) (new : List ℕ) → t ≡ old ++ lines_text xs → new ≡ t ++ lines_text ys →
    new ≡ old ++ lines_text (xs ++ ys)
lines_grown old xs t ys new first second = grown old (lines_text xs) t (lines_text ys) new first second
    ∙ ap (λ (zs : List ℕ). old ++ zs) (sym (flat_map-append line_text xs ys))

pub lines_end : (r : Result (Unit {0}) AllocError) (old : List ℕ) (xs : List TextLine) (t : List ℕ) (ys : List TextLine) (new : List ℕ) →
    t ≡ old ++ lines_text xs → OnOk r (new ≡ t ++ lines_text ys) → OnOk r (new ≡ old ++ lines_text (xs ++ ys))
lines_end (Ok x) old xs t ys new first second = lines_grown old xs t ys new first second
lines_end (Err e) old xs t ys new first second = tt

-- a line for one item more
pub item_grown : {X : Type 0} (write : X → TextLine) (xs : List X) (i : ℕ) (x : X) (t new all : List ℕ) → i < length xs → x ≡ get_or xs i x →
    t ++ lines_text (map write (drop i xs)) ≡ all → new ≡ t ++ line_text (write x) → new ++ lines_text (map write (drop (i + 1) xs)) ≡ all
item_grown {X} write xs i x t new all lt is whole second =
    let rest = lines_text (map write (drop (i + 1) xs)) in
    let front : drop i xs ≡ x ∷ drop (i + 1) xs = drop_more xs i x lt ∙ ap (λ (y : X). y ∷ drop (i + 1) xs) (sym is) in
    ap (λ (ys : List ℕ). ys ++ rest) second ∙ append_assoc t (line_text (write x)) rest ∙ ap (λ (ys : List X). t ++ lines_text (map write ys)) (sym front)
    ∙ whole
