-- What is written of the solutions of a class, once all have been seen.
use Rattle.std.proofs.Common.{◌≡◌, ℕ, ◌+◌, ◌<◌, Bool, true, false, List, [], ◌∷◌, ◌++◌, length, take, get_or, flat_map, refl, sym, ap, ◌∙◌, subst, arith, append_assoc, Option, Some, None}
use Rattle.std.specs.List.{enumerate_from}
use Rattle.std.proofs.lemmas.List.{take_more, length-take-le}
use Rattle.srp_core.specs.declared.route.Route.{Route}
use Rattle.srp_core.specs.Problem.{Problem}
use Rattle.srp_core.specs.Solutions.{AreAllSolutions}
use Rattle.srp_core.specs.Stability.{label}
use Rattle.solution_search.specs.declared.searching.Ending.{Ending}
use Rattle.solution_search.specs.declared.searching.Ending.TheVariants.{All as AllSeen, Stopped}
use Rattle.solution_search.specs.Endings.{EndsWith}
use Rattle.solution_answers.specs.Forwarding.{hops_words, hops_line}
use Rattle.solution_answers.specs.RouterNames.{name_at}
use Rattle.solution_answers.specs.Solutions.{count_line, IsCountPart, IsSolutionsPart}
use Rattle.solution_answers.specs.Told.{HasTold, IsToldAs}
use Rattle.solution_answers.specs.Writing.{Writes}
use Rattle.solution_answers.specs.declared.told.Told.{Told}
use Rattle.solution_answers.proofs.Pairs.{flat_more, numbered_more}

-- who always wants more has seen all
pub all_seen : (problem : Problem) (found : List (List (Option Route))) (ending : Ending) → EndsWith problem found true ending → AreAllSolutions problem found
all_seen problem found (AllSeen None) ends = ends.0
all_seen problem found (AllSeen (Some tie)) ends = ends.0
all_seen problem found Stopped ends = (let no : true ≡ false = ends.1 in absurd (cc))

pub count_written : (problem : Problem) (number count : ℕ) (found : List (List (Option Route))) (old new line : List ℕ) → AreAllSolutions problem found →
    count ≡ length found →
    line ≡ count_line number count → new ≡ old ++ line → Writes (IsCountPart number problem) old new true
count_written problem number count found old new line are counted told written = record {
  part = record { bytes = line; all = true };
  is = record { found = found; are = are; bytes = told ∙ ap (count_line number) counted; all = refl };
  bytes = written;
  all_is = refl;
}

pub texts_written : (problem : Problem) (what : Told) (one : Bool) (number count : ℕ) (found : List (List (Option Route))) (old new bytes : List ℕ) →
    AreAllSolutions problem found → HasTold problem what one number count bytes found → new ≡ old ++ bytes →
    Writes (IsSolutionsPart (IsToldAs what) one number problem) old new true
texts_written problem what one number count found old new bytes are told written = record {
  part = record { bytes = bytes; all = true };
  is = record { found = found; are = are; texts = told.texts; told = told.told; bytes = told.bytes_are; all = refl };
  bytes = written;
  all_is = refl;
}

-- nothing has been reported yet
pub none_told : (problem : Problem) (what : Told) (one : Bool) (number : ℕ) → HasTold problem what one number 0 [] []
none_told problem what one number = record { texts = []; told = tt; count_is = refl; bytes_are = refl }

-- the line of one router more
pub line_more : (names : List (List ℕ)) (labels : List (Option Route)) (hops : List (List ℕ)) (i : ℕ) (d t0 t1 t2 t3 : List ℕ) → i < length hops →
    t0 ≡ flat_map (hops_line names labels) (enumerate_from 0 (take i hops)) → t1 ≡ t0 ++ name_at names i →
    t2 ≡ t1 ++ hops_words names (label labels i) (get_or hops i d) → t3 ≡ t2 ++ 10 ∷ [] →
    t3 ≡ flat_map (hops_line names labels) (enumerate_from 0 (take (i + 1) hops))
line_more names labels hops i d t0 t1 t2 t3 inside before named told ended =
    let before_it = flat_map (hops_line names labels) (enumerate_from 0 (take i hops)) in
    let words = hops_words names (label labels i) (get_or hops i d) in
    let place : 0 + length (take i hops) ≡ i = (let l = length-take-le i hops (omega (arith, inside)) in omega (arith, l)) in
    ended ∙ ap (λ (t : List ℕ). t ++ 10 ∷ []) (told ∙ ap (λ (t : List ℕ). t ++ words) (named ∙ ap (λ (t : List ℕ). t ++ name_at names i) before))
    ∙ ap (λ (t : List ℕ). t ++ 10 ∷ []) (append_assoc before_it (name_at names i) words)
    ∙ append_assoc before_it (name_at names i ++ words) (10 ∷ [])
    ∙ ap (λ (k : ℕ). before_it ++ hops_line names labels (k, get_or hops i d)) (sym place)
    ∙ sym (flat_more (hops_line names labels) (enumerate_from 0 (take i hops)) (0 + length (take i hops), get_or hops i d))
    ∙ sym (ap (flat_map (hops_line names labels)) (ap (enumerate_from 0) (take_more hops i d inside) ∙ numbered_more 0 (take i hops) (get_or hops i d)))

-- what a visitor does stays
pub told_same : (p q : Problem) (a b : Told × Bool × ℕ) (count : ℕ) (bytes : List ℕ) (found : List (List (Option Route))) → p ≡ q → a ≡ b →
    HasTold p a.0 a.1 a.2 count bytes found → HasTold q b.0 b.1 b.2 count bytes found
told_same p q a b count bytes found e f told =
    subst (λ (t : Told × Bool × ℕ). HasTold q t.0 t.1 t.2 count bytes found) f (subst (λ (x : Problem). HasTold x a.0 a.1 a.2 count bytes found) e told)
