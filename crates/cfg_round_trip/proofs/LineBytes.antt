-- The bytes of a printed line: blanks, words with a blank between each two, and a newline.
use Rattle.std.proofs.Common.{◌≡◌, ℕ, zero, suc, ◌<◌, ◌≤◌, true, false, List, [], ◌∷◌, ◌++◌, length, get_or, filter, refl, sym, ap, ◌∙◌, arith, length-append}
use Rattle.std.specs.Prelude.{replicate}
use Rattle.std.specs.List.{AllByRecursion, join_with_byte}
use Rattle.std.proofs.Math.ListN.{get_or-append, length-replicate, get_or-replicate}
use Rattle.std.proofs.Math.Seq.{get_or-append_seam}
use Rattle.std.proofs.lemmas.Bool.Decides.{nat_tests}
use Rattle.std.proofs.lemmas.List.Elements.{All-from_recursion}
use Rattle.std.proofs.lemmas.List.Splits.{slice_split_at, slice_split_none}
use Rattle.cfg_ast.specs.text.TextLines.{TextLine}
use Rattle.cfg_ast.specs.text.Lines.{is_blank, is_some_word, words_of}
use Rattle.cfg_ast.specs.printing.Printed.{line_text}
use Rattle.cfg_ast.specs.printing.WellFormed.{IsBetween}
use Rattle.cfg_round_trip.proofs.PrintedLines.{IsPrintedWord, IsPrintedLine}

-- a line without its newline
abbrev pub line_body : TextLine → List ℕ
line_body l = replicate l.indent 32 ++ join_with_byte 32 l.words

pub text_is_body : (l : TextLine) → line_text l ≡ line_body l ++ 10 ∷ []
text_is_body l = refl

-- ---- its bytes

pub each_append : {X : Type 0} (P : X → Type 0) (xs ys : List X) → AllByRecursion P xs → AllByRecursion P ys → AllByRecursion P (xs ++ ys)
each_append P [] ys p q = q
each_append P (x ∷ xs) ys p q = (p.0, each_append P xs ys p.1 q)

blanks_print : (n : ℕ) → AllByRecursion (IsBetween 32 126) (replicate n 32)
blanks_print zero = tt
blanks_print (suc n) = ((omega arith, omega arith), blanks_print n)

word_prints : (w : List ℕ) → AllByRecursion (IsBetween 33 126) w → AllByRecursion (IsBetween 32 126) w
word_prints [] each = tt
word_prints (b ∷ w) each = let low = each.0.0 in ((omega arith, each.0.1), word_prints w each.1)

words_print : (ws : List (List ℕ)) → AllByRecursion IsPrintedWord ws → AllByRecursion (IsBetween 32 126) (join_with_byte 32 ws)
words_print [] each = tt
words_print (w ∷ []) each = word_prints w each.0.1
words_print (w ∷ v ∷ ws) each = each_append (IsBetween 32 126) w (32 ∷ join_with_byte 32 (v ∷ ws)) (word_prints w each.0.1)
    ((omega arith, omega arith), words_print (v ∷ ws) each.1)

pub body_prints : (l : TextLine) → IsPrintedLine l → AllByRecursion (IsBetween 32 126) (line_body l)
body_prints l is = each_append (IsBetween 32 126) (replicate l.indent 32) (join_with_byte 32 l.words) (blanks_print l.indent) (words_print l.words is.words)

-- ---- its words

blank_passed : (xs : List ℕ) → words_of (32 ∷ xs) ≡ words_of xs
unfolding words_of
blank_passed xs = refl

blanks_passed : (n : ℕ) (xs : List ℕ) → words_of (replicate n 32 ++ xs) ≡ words_of xs
blanks_passed zero xs = refl
blanks_passed (suc n) xs = blank_passed (replicate n 32 ++ xs) ∙ blanks_passed n xs

no_blank_byte : (b : ℕ) → IsBetween 33 126 b → is_blank b ≡ false
no_blank_byte b is = let low = is.0 in grind (arith, nat_tests)

no_blanks : (w : List ℕ) → AllByRecursion (IsBetween 33 126) w → AllByRecursion (λ b. is_blank b ≡ false) w
no_blanks [] each = tt
no_blanks (b ∷ w) each = (no_blank_byte b each.0, no_blanks w each.1)

some_word : (w : List ℕ) → 1 ≤ length w → is_some_word w ≡ true
some_word [] long = absurd (omega arith)
some_word (b ∷ w) long = refl

words_joined : (ws : List (List ℕ)) → 1 ≤ length ws → AllByRecursion IsPrintedWord ws → words_of (join_with_byte 32 ws) ≡ ws
unfolding words_of
words_joined [] some each = absurd (omega arith)
words_joined (w ∷ []) some each =
    ap (filter is_some_word) (slice_split_none is_blank w (All-from_recursion (λ b. is_blank b ≡ false) w (no_blanks w each.0.1)))
    ∙ rw (some_word w each.0.0) refl
words_joined (w ∷ v ∷ ws) some each =
    ap (filter is_some_word) (slice_split_at is_blank w 32 (join_with_byte 32 (v ∷ ws)) (All-from_recursion (λ b. is_blank b ≡ false) w (no_blanks w each.0.1))
    refl)
    ∙ rw (some_word w each.0.0) (ap (λ (us : List (List ℕ)). w ∷ us) (words_joined (v ∷ ws) (omega arith) each.1))

pub body_words : (l : TextLine) → IsPrintedLine l → words_of (line_body l) ≡ l.words
body_words l is = blanks_passed l.indent (join_with_byte 32 l.words) ∙ words_joined l.words is.some is.words

-- ---- its first byte that is no blank

first_byte : (ws : List (List ℕ)) → 1 ≤ length ws → AllByRecursion IsPrintedWord ws → (b : ℕ) × (more : List ℕ) × (join_with_byte 32 ws ≡ b ∷ more)
    × IsBetween 33 126 b
first_byte [] some each = absurd (omega arith)
first_byte ([] ∷ ws) some each = let long = each.0.0 in absurd (omega arith)
first_byte ((b ∷ w) ∷ []) some each = (b, w, refl, each.0.1.0)
first_byte ((b ∷ w) ∷ v ∷ ws) some each = (b, w ++ 32 ∷ join_with_byte 32 (v ∷ ws), refl, each.0.1.0)

-- where the line is no more blank
pub record Dented (l : TextLine) : Type 0 where
  pub inside : l.indent < length (line_body l)
  pub blank : (k : ℕ) → k < l.indent → get_or (line_body l) k 0 ≡ 32
  pub full : is_blank (get_or (line_body l) l.indent 0) ≡ false

at_seam : (n : ℕ) (b : ℕ) (more : List ℕ) → get_or (replicate n 32 ++ b ∷ more) n 0 ≡ b
at_seam n b more = ap (λ (k : ℕ). get_or (replicate n 32 ++ b ∷ more) k 0) (sym (length-replicate {A = ℕ} n 32)) ∙ get_or-append_seam (replicate n 32) b more 0

pub body_dented : (l : TextLine) → IsPrintedLine l → Dented l
body_dented l is =
    let first = first_byte l.words is.some is.words in
    let body : line_body l ≡ replicate l.indent 32 ++ first.0 ∷ first.1 = ap (λ (xs : List ℕ). replicate l.indent 32 ++ xs) first.2 in
    record {
      inside = rw body (omega (arith, length-append (replicate l.indent 32) (first.0 ∷ first.1), length-replicate {A = ℕ} l.indent 32));
      blank = λ k lt. get_or-append (replicate l.indent 32) (join_with_byte 32 l.words) 0 k (omega (arith, length-replicate {A = ℕ} l.indent 32))
          ∙ get_or-replicate l.indent k 32 0 lt;
      full = ap (λ (xs : List ℕ). is_blank (get_or xs l.indent 0)) body ∙ ap is_blank (at_seam l.indent first.0 first.1) ∙ no_blank_byte first.0 first.3;
    }
