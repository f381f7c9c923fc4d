-- What is written of a label, piece by piece.
use Rattle.std.proofs.Common.{◌≡◌, ℕ, suc, ◌+◌, ◌-◌, ◌<◌, ◌≤◌, Bool, true, false, cond, not, true≢false, List, [], ◌∷◌, ◌++◌, length, take, drop, length-drop, length-take, flat_map, get_or, append_assoc, append-nil, refl, sym, ap, ◌∙◌, arith, drop-cons, add-one, Option}
use Rattle.std.specs.Prelude.{nat_eq, ◌==◌}
use Rattle.std.specs.List.{position_or_len, join_with_byte}
use Rattle.std.proofs.lemmas.Bool.{eqb-true, eq-eqb, ne_eqb}
use Rattle.std.proofs.lemmas.List.{take_all}
use Rattle.std.proofs.Math.Seq.{drop-drop}
use Rattle.cfg_ast.specs.printing.Printed.{line_text}
use Rattle.printed_words.specs.Spaced.{spaced_words}
use Rattle.printed_words.proofs.Joined.{joined, spaced_both}
use Rattle.srp_core.specs.declared.route.Route.{Route}
use Rattle.solution_text.specs.Printed.{with_run, runs_of, run_words, path_words, label_words, label_line, labels_text}

-- ---- words

pub label_text : (name : List ℕ) (label : Option Route) → line_text (label_line (name, label)) ≡ name ++ spaced_words (label_words label) ++ 10 ∷ []
label_text name label = ap (λ (xs : List ℕ). xs ++ 10 ∷ []) (joined name (label_words label))

-- ---- runs

abbrev is_other : ℕ → ℕ → Bool
is_other number other = not (other == number)

abbrev run_of : ℕ → List ℕ → ℕ
run_of number path = position_or_len (is_other number) path

run_here : (number : ℕ) (path : List ℕ) → run_of number (number ∷ path) ≡ suc (run_of number path)
run_here number path = ap (λ (b : Bool). cond (not (not b)) (1 + run_of number path) 0) (eq-eqb number number refl) ∙ omega arith

run_by : (number other : ℕ) (path : List ℕ) (b : Bool) → nat_eq number other ≡ b →
    runs_of (other ∷ path) ≡ (other, 1 + run_of other path) ∷ runs_of (drop (run_of other path) path)
    → with_run number (runs_of (other ∷ path)) ≡ (number, 1 + run_of number (other ∷ path)) ∷ runs_of (drop (run_of number (other ∷ path)) (other ∷ path))
run_by number other path true e rest =
    let same : number ≡ other = eqb-true number other e in
    let k = run_of other path in
    let behind = runs_of (drop k path) in
    let sum : 1 + k + 1 ≡ 1 + suc k = omega arith in
    ap (with_run number) rest
    ∙ ap (λ (b : Bool). cond b ((other, 1 + k + 1) ∷ behind) ((number, 1) ∷ (other, 1 + k) ∷ behind)) e
    ∙ ap (λ (m : ℕ). (other, m) ∷ behind) sum
    ∙ sym (ap (λ (m : ℕ). (other, 1 + m) ∷ runs_of (drop m (other ∷ path))) (run_here other path))
    ∙ ap (λ (n : ℕ). (n, 1 + run_of n (other ∷ path)) ∷ runs_of (drop (run_of n (other ∷ path)) (other ∷ path))) (sym same)
run_by number other path false e rest =
    let k = run_of other path in
    let behind = runs_of (drop k path) in
    let none : run_of number (other ∷ path) ≡ 0 =
    ap (λ (b : Bool). cond (not (not b)) (1 + run_of number path) 0) (ne_eqb other number (λ f. true≢false (sym (eq-eqb number other (sym f)) ∙ e))) in
    ap (with_run number) rest
    ∙ ap (λ (b : Bool). cond b ((other, 1 + k + 1) ∷ behind) ((number, 1) ∷ (other, 1 + k) ∷ behind)) e
    ∙ ap (λ (rs : List (ℕ × ℕ)). (number, 1) ∷ rs) (sym rest)
    ∙ sym (ap (λ (m : ℕ). (number, 1 + m) ∷ runs_of (drop m (other ∷ path))) none)

runs_first : (number : ℕ) (path : List ℕ) → runs_of (number ∷ path) ≡ (number, 1 + run_of number path) ∷ runs_of (drop (run_of number path) path)
runs_first number [] = refl
runs_first number (other ∷ path) = run_by number other path (nat_eq number other) refl (runs_first other path)

first_run : (number : ℕ) (path : List ℕ) → path_words (number ∷ path) ≡ run_words (number, suc (run_of number path))
    ++ path_words (drop (run_of number path) path)
unfolding path_words
first_run number path = ap (flat_map run_words)
    (runs_first number path ∙ ap (λ (m : ℕ). (number, m) ∷ runs_of (drop (run_of number path) path))
    (let e : 1 + run_of number path ≡ suc (run_of number path) = omega arith in e))

pub no_path : path_words [] ≡ []
unfolding path_words
no_path = refl

-- one run more of a path that is written from a place on
pub record IsRun (path : List ℕ) (from number count : ℕ) : Type 0 where
  pub words : path_words (drop from path) ≡ run_words (number, count) ++ path_words (drop (from + count) path)
  pub some : 0 < count

pub run_at : (path : List ℕ) (from number count : ℕ) → from < length path → number ≡ get_or path from number →
    count ≡ run_of number (take (length path - from) (drop from path)) → IsRun path from number count
run_at path from number count inside is counted =
    let whole : take (length path - from) (drop from path) ≡ drop from path =
    take_all (length path - from) (drop from path) (omega (arith, length-drop from path)) in
    let first : drop from path ≡ number ∷ drop (suc from) path = drop-cons path from number inside ∙ ap (λ (n : ℕ). n ∷ drop (suc from) path) (sym is) in
    let more : count ≡ suc (run_of number (drop (suc from) path)) = counted ∙ ap (run_of number) (whole ∙ first) ∙ run_here number (drop (suc from) path) in
    let k = run_of number (drop (suc from) path) in
    let place : k + suc from ≡ from + count = omega (arith, more) in
    let rest : drop k (drop (suc from) path) ≡ drop (from + count) path = drop-drop k (suc from) path
    ∙ ap (λ (n : ℕ). drop n path) (let e : suc from + k ≡ from + count = omega (arith, more) in e) in
    record {
      words = ap path_words first ∙ first_run number (drop (suc from) path)
          ∙ ap (λ (m : ℕ). run_words (number, m) ++ path_words (drop k (drop (suc from) path))) (sym more)
          ∙ ap (λ (xs : List ℕ). run_words (number, count) ++ path_words xs) rest;
      some = omega (arith, more);
    }

pub written_run : (text text' : List ℕ) (path : List ℕ) (from number count : ℕ) (all : List ℕ) → IsRun path from number count →
    text' ≡ text ++ spaced_words (run_words (number, count)) → text ++ spaced_words (path_words (drop from path)) ≡ all →
    text' ++ spaced_words (path_words (drop (from + count) path)) ≡ all
written_run text text' path from number count all run grown before =
    let rest = path_words (drop (from + count) path) in
    ap (λ (xs : List ℕ). xs ++ spaced_words rest) grown ∙ append_assoc text (spaced_words (run_words (number, count))) (spaced_words rest)
    ∙ ap (λ (xs : List ℕ). text ++ xs) (sym (spaced_both (run_words (number, count)) rest))
    ∙ ap (λ (ws : List (List ℕ)). text ++ spaced_words ws) (sym run.words) ∙ before

-- ---- lines

pub no_lines : labels_text [] [] ≡ []
unfolding labels_text
no_lines = refl

pub first_line : (name : List ℕ) (label : Option Route) (names : List (List ℕ)) (labels : List (Option Route)) →
    labels_text (name ∷ names) (label ∷ labels) ≡ line_text (label_line (name, label)) ++ labels_text names labels
unfolding labels_text
first_line name label names labels = refl

pub run_inside : (path : List ℕ) (from count : ℕ) → from ≤ length path → count ≤ length (take (length path - from) (drop from path)) →
    from + count ≤ length path
run_inside path from count le short = omega (arith, length-take (length path - from) (drop from path), length-drop from path)

-- a line is a name, what is said behind it, and a newline
pub line_written : (old front more all name : List ℕ) (label : Option Route) → front ≡ old ++ name → more ≡ front ++ spaced_words (label_words label) →
    all ≡ more ++ 10 ∷ [] → all ≡ old ++ line_text (label_line (name, label))
line_written old front more all name label first second third =
    third ∙ ap (λ (xs : List ℕ). xs ++ 10 ∷ []) (second ∙ ap (λ (xs : List ℕ). xs ++ spaced_words (label_words label)) first)
    ∙ regrouped old name (spaced_words (label_words label)) (10 ∷ []) ∙ ap (λ (xs : List ℕ). old ++ xs) (sym (label_text name label))
  where
    regrouped : (a b c d : List ℕ) → ((a ++ b) ++ c) ++ d ≡ a ++ ((b ++ c) ++ d)
    regrouped a b c d = simp append_assoc

pub lines_written : (names : List (List ℕ)) (labels : List (Option Route)) (i : ℕ) (name : List ℕ) (label : Option Route) (text text' all : List ℕ) →
    length labels ≡ length names → i < length names → name ≡ get_or names i name → label ≡ get_or labels i label
    → text' ≡ text ++ line_text (label_line (name, label)) → text ++ labels_text (drop i names) (drop i labels) ≡ all →
    text' ++ labels_text (drop (i + 1) names) (drop (i + 1) labels) ≡ all
lines_written names labels i name label text text' all same inside is_name is_label grown before =
    let first : drop i names ≡ name ∷ drop (i + 1) names = drop-cons names i name inside ∙ ap (λ (n : List ℕ). n ∷ drop (suc i) names) (sym is_name)
    ∙ ap (λ (k : ℕ). name ∷ drop k names) (sym (add-one i)) in
    let second : drop i labels ≡ label ∷ drop (i + 1) labels = drop-cons labels i label (omega arith)
    ∙ ap (λ (l : Option Route). l ∷ drop (suc i) labels) (sym is_label) ∙ ap (λ (k : ℕ). label ∷ drop k labels) (sym (add-one i)) in
    let rest = labels_text (drop (i + 1) names) (drop (i + 1) labels) in
    ap (λ (xs : List ℕ). xs ++ rest) grown ∙ append_assoc text (line_text (label_line (name, label))) rest
    ∙ ap (λ (xs : List ℕ). text ++ xs) (sym (first_line name label (drop (i + 1) names) (drop (i + 1) labels)))
    ∙ ap (λ (xs : List (List ℕ)). text ++ labels_text xs (label ∷ drop (i + 1) labels)) (sym first)
    ∙ ap (λ (xs : List (Option Route)). text ++ labels_text (drop i names) xs) (sym second) ∙ before
