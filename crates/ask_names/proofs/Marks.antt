-- Marks of routers, and the routers that they stand for.
use Rattle.std.proofs.Common.{rules, ◌≡◌, ℕ, zero, suc, ◌+◌, ◌<◌, ◌≤◌, Bool, false, not, ◌&&◌, cond, List, [], ◌∷◌, length, All, refl, ap, ◌∙◌, arith}
use Rattle.std.specs.Prelude.{filter, slice_index_or}
use Rattle.std.specs.List.{range_with_len}
use Rattle.std.proofs.lemmas.List.{get_or-map, length-map}
use Rattle.std.proofs.lemmas.List.Elements.{All-filter}
use Rattle.srp_core.specs.Problem.{Problem, count}
use Rattle.srp_core.specs.Without.{Down, marked_down}
use Rattle.srp_questions.specs.Questions.{IsAskedOf}
use Rattle.ask_words.specs.declared.request.AskedOf.{AskedOf}
use Rattle.ask_words.specs.declared.request.AskedOf.TheVariants as asked
use Rattle.ask_words.specs.declared.request.Routers.{Routers}
use Rattle.ask_names.specs.Marks.{named_marks, marked_routers}
use Rattle.ask_names.specs.Routers.{name_at, is_named, routers_for, question_for}

-- tests that agree on a range pass the same numbers
same_passed : (p q : ℕ → Bool) (from len upto : ℕ) → from + len ≤ upto → ((u : ℕ) → u < upto → p u ≡ q u) →
    filter p (range_with_len from len) ≡ filter q (range_with_len from len)
same_passed p q from zero upto within same = refl
same_passed p q from (suc len) upto within same =
    ap (λ (b : Bool). cond b (from ∷ filter p (range_with_len (from + 1) len)) (filter p (range_with_len (from + 1) len))) (same from (omega arith))
    ∙ ap (λ (ns : List ℕ). cond (q from) (from ∷ ns) ns) (same_passed p q (from + 1) len upto (omega arith) same)

-- the marks stand for the routers that are named
pub marked_are_named : (names : List (List ℕ)) (of : Routers) (down links : List Bool) →
    marked_routers (named_marks names of) down ≡ routers_for names (marked_down down links) of
unfolding marked_routers routers_for
marked_are_named names of down links =
    let p : ℕ → Bool = λ u. slice_index_or (named_marks names of) u false && not (slice_index_or down u false) in
    let q : ℕ → Bool = λ u. is_named of (name_at names u) && not (slice_index_or down u false) in
    let many : length (named_marks names of) ≡ length names = length-map names (is_named of) in
    ap (λ (n : ℕ). filter p (range_with_len 0 n)) many
    ∙ same_passed p q 0 (length names) (length names) (omega arith)
    (λ u less. ap (λ (b : Bool). b && not (slice_index_or down u false)) (get_or-map (is_named of) names u [] false less))

range_below : (from len upto : ℕ) → from + len ≤ upto → All (λ u. u < upto) (range_with_len from len)
range_below from zero upto within = search rules
range_below from (suc len) upto within =
    let here : from < upto = omega arith in
    let rest = range_below (from + 1) len upto (omega arith) in
    grind (arith, here, rest)

routers_inside : (names : List (List ℕ)) (down : Down) (of : Routers) (n : ℕ) → length names ≡ n → All (λ u. u < n) (routers_for names down of)
unfolding routers_for
routers_inside names down of n many =
    All-filter (λ u. is_named of (name_at names u) && not (down.routers u)) (λ u. u < n) (range_with_len 0 (length names))
    (range_below 0 (length names) n (omega arith))

-- a question about routers that are named is asked of routers of the problem
pub asked_of_problem : (problem : Problem) (names : List (List ℕ)) (down : Down) (asks : AskedOf) → length names ≡ count problem →
    IsAskedOf problem (question_for names down asks)
asked_of_problem problem names down (asked.Route of) many = record { routers = routers_inside names down of (count problem) many; way = search rules }
asked_of_problem problem names down (asked.Isolated of) many = record { routers = routers_inside names down of (count problem) many; way = search rules }
asked_of_problem problem names down (asked.Hops most of) many = record { routers = routers_inside names down of (count problem) many; way = search rules }
asked_of_problem problem names down (asked.Through way of) many =
    record { routers = routers_inside names down of (count problem) many; way = routers_inside names down way (count problem) many }
asked_of_problem problem names down (asked.Avoids way of) many =
    record { routers = routers_inside names down of (count problem) many; way = routers_inside names down way (count problem) many }
asked_of_problem problem names down (asked.Carries community of) many =
    record { routers = routers_inside names down of (count problem) many; way = search rules }
asked_of_problem problem names down (asked.Lacks community of) many = record { routers = routers_inside names down of (count problem) many; way = search rules }
