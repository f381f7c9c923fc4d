-- The names that `reach` writes are the schedule that `run` reads.
use Rattle.std.proofs.Common.{◌≡◌, ◌<◌, ℕ, zero, suc, Bool, true, false, cond, List, [], ◌∷◌, ◌++◌, length, map, flat_map, refl, sym, ap, ◌∙◌, subst, arith, Option, Some, Ok, codes, true≢false}
use Rattle.std.specs.Prelude.{bytes_eq, position, slice_index_or}
use Rattle.std.specs.List.{AllByRecursion}
use Rattle.std.specs.Option.{option_map}
use Rattle.std.proofs.lemmas.Slice.Eq.{bytes_eq-Decides}
use Rattle.base_kit.specs.Names.{AreApart}
use Rattle.cfg_ast.specs.text.Members.{all_lines_of}
use Rattle.cfg_ast.specs.text.TextLines.{TextLine, text_line}
use Rattle.cfg_ast.specs.text.Words.{is_router_name}
use Rattle.cfg_ast.specs.printing.Bare.{bare_line}
use Rattle.cfg_ast.specs.printing.Printed.{line, lines_text}
use Rattle.cfg_round_trip.proofs.PrintedLines.{IsPrintedLine}
use Rattle.cfg_round_trip.proofs.PrintedWords.{router_name_prints}
use Rattle.cfg_round_trip.proofs.TextLines.{all_lines_back}
use Rattle.certificate_round_trip.proofs.ReadBack.{router_back}
use Rattle.srp_core.specs.Problem.{Problem}
use Rattle.route_run.specs.declared.schedule.Activation.{Activation}
use Rattle.route_run.specs.declared.schedule.Activation.TheVariants.{One, Round}
use Rattle.route_run.specs.Schedules.{activation_of, words_at, words_on, before, or_unknown, schedule_of_words, schedule_of_text, run_of}
use Rattle.answer_runs.specs.Reaches.{name_lines}

abbrev name_at : List (List ℕ) → ℕ → List ℕ
name_at names u = slice_index_or names u []

-- ---- the lines

abbrev lines_of_run : List (List ℕ) → List ℕ → List TextLine
lines_of_run names run = map (λ u. line 0 (name_at names u ∷ [])) run

text_is : (P : Problem) (run : List ℕ) → name_lines P run ≡ lines_text (lines_of_run P.names run)
text_is P [] = refl
text_is P (u ∷ run) = ap (λ (more : List ℕ). (name_at P.names u ++ codes "\n") ++ more) (text_is P run)

abbrev IsName : List ℕ → Type 0
IsName name = is_router_name name ≡ true

name_is : (names : List (List ℕ)) (u : ℕ) → AllByRecursion IsName names → u < length names → IsName (name_at names u)
name_is [] u all h = absurd (omega arith)
name_is (name ∷ names) zero all h = all.0
name_is (name ∷ names) (suc u) all h = name_is names u all.1 (omega arith)

abbrev AllInside : ℕ → List ℕ → Type 0
AllInside count run = AllByRecursion (λ u. u < count) run

lines_print : (names : List (List ℕ)) (run : List ℕ) → AllByRecursion IsName names → AllInside (length names) run
    → AllByRecursion IsPrintedLine (lines_of_run names run)
lines_print names [] all inside = tt
lines_print names (u ∷ run) all inside = (
  record { some = omega arith; words = (router_name_prints (name_at names u) (name_is names u all inside.0), tt) },
  lines_print names run all inside.1,
)

abbrev words_of : List TextLine → List (List (List ℕ))
words_of ls = map (λ (l : TextLine). l.words) ls

bare_words : (ls : List TextLine) → words_of (map bare_line ls) ≡ words_of ls
bare_words [] = refl
bare_words (l ∷ ls) = ap (λ (ws : List (List (List ℕ))). l.words ∷ ws) (bare_words ls)

words_same : (ls ks : List TextLine) → map bare_line ls ≡ map bare_line ks → words_of ls ≡ words_of ks
words_same ls ks same = sym (bare_words ls) ∙ ap words_of same ∙ bare_words ks

-- ---- the activations

star_is_none : is_router_name (codes "*") ≡ true → ⊥
unfolding is_router_name
star_is_none e = true≢false (sym e)

no_star : (name : List ℕ) → IsName name → bytes_eq name (codes "*") ≡ false
no_star name is = by (bytes_eq name (codes "*")) refl
  where
    by : (b : Bool) → bytes_eq name (codes "*") ≡ b → bytes_eq name (codes "*") ≡ false
    by true e =
        let same : name ≡ codes "*" = (bytes_eq-Decides name (codes "*")).0 e in
        let star : is_router_name (codes "*") ≡ true = subst IsName same is in
        absurd (star_is_none star)
    by false e = e

activation_is : (names : List (List ℕ)) (u : ℕ) → AreApart names → AllByRecursion IsName names → u < length names
    → activation_of names (name_at names u) ≡ Some (One u)
activation_is names u apart all h =
    ap (λ b. cond b (Some Round) (option_map One (position (bytes_eq (name_at names u)) names))) (no_star (name_at names u) (name_is names u all h))
    ∙ ap (option_map One) (router_back names u apart h)

first_words : (w : List (List ℕ)) (l : TextLine) (ls : List TextLine) (ws : List (List (List ℕ))) → words_of (l ∷ ls) ≡ w ∷ ws → l.words ≡ w
first_words w l ls ws e = cc

later_words : (w : List (List ℕ)) (l : TextLine) (ls : List TextLine) (ws : List (List (List ℕ))) → words_of (l ∷ ls) ≡ w ∷ ws → words_of ls ≡ ws
later_words w l ls ws e = cc

module _ (names : List (List ℕ)) (apart : AreApart names) (all : AllByRecursion IsName names) where
  schedule_is : (run : List ℕ) (ls : List TextLine) → AllInside (length names) run → words_of ls ≡ words_of (lines_of_run names run)
      → schedule_of_words names (flat_map words_on ls) ≡ Ok (map One run)
  unfolding schedule_of_words
  schedule_is [] [] inside same = refl
  schedule_is [] (l ∷ ls) inside same = cc
  schedule_is (u ∷ run) [] inside same = cc
  schedule_is (u ∷ run) (l ∷ ls) inside same =
      let here : l.words ≡ name_at names u ∷ [] = first_words (name_at names u ∷ []) l ls (words_of (lines_of_run names run)) same in
      let later : schedule_of_words names (flat_map words_on ls) ≡ Ok (map One run) =
      schedule_is run ls inside.1 (later_words (name_at names u ∷ []) l ls (words_of (lines_of_run names run)) same) in
      ap (λ (words : List (List ℕ)). schedule_of_words names (words_at l.number words ++ flat_map words_on ls)) here
      ∙ ap (λ (found : Option Activation). or_unknown l.number found (schedule_of_words names (flat_map words_on ls)))
      (activation_is names u apart all inside.0)
      ∙ ap (before (One u)) later

-- the text of a run is read as its activations
pub names_are_read : (P : Problem) (run : List ℕ) → AreApart P.names → AllByRecursion (λ (name : List ℕ). is_router_name name ≡ true) P.names
    → AllByRecursion (λ u. u < length P.names) run → schedule_of_text P.names (name_lines P run) ≡ Ok (map One run)
names_are_read P run apart all inside =
    let lines = lines_of_run P.names run in
    ap (schedule_of_text P.names) (text_is P run)
    ∙ schedule_is P.names apart all run (map (text_line (lines_text lines)) (all_lines_of (lines_text lines))) inside
    (words_same (map (text_line (lines_text lines)) (all_lines_of (lines_text lines))) lines (all_lines_back lines (lines_print P.names run all inside)))

-- and these are the run
pub run_is : (count : ℕ) (run : List ℕ) → run_of count (map One run) ≡ run
run_is count [] = refl
run_is count (u ∷ run) = ap (λ (more : List ℕ). u ∷ more) (run_is count run)
