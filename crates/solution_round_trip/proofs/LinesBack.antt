-- The lines of labels print.
use Rattle.std.proofs.Common.{◌≡◌, ℕ, zero, suc, ◌/◌, ◌%◌, ◌≤◌, Bool, true, false, cond, List, [], ◌∷◌, ◌++◌, map, flat_map, replicate, refl, arith, Option, Some, None, codes}
use Rattle.std.specs.Prelude.{nat_eq, nat_le}
use Rattle.std.specs.Fmt.{decimal}
use Rattle.std.specs.List.{AllByRecursion}
use Rattle.base_kit.specs.declared.protocol.Protocol.{Protocol}
use Rattle.cfg_ast.specs.text.Words.{is_router_name}
use Rattle.cfg_ast.specs.printing.Printed.{community_text}
use Rattle.cfg_ast.specs.printing.WellFormed.{IsBetween}
use Rattle.cfg_round_trip.proofs.PrintedLines.{IsPrintedWord, IsPrintedLine}
use Rattle.cfg_round_trip.proofs.PrintedWords.{word_as_tested, decimal_prints, glued, community_prints, router_name_prints}
use Rattle.srp_core.specs.declared.route.Route.{Route}
use Rattle.srp_core.specs.declared.route.Route.TheVariants.{Bgp, Ospf}
use Rattle.solution_text.specs.Printed.{runs_of, piece_word, rest_words, run_words, path_words, label_words, label_line, label_lines}
use Rattle.solution_round_trip.specs.Laws.{IsLabelInRange}
use Rattle.solution_round_trip.proofs.PathsBack.{IsAs, AreRuns, runs_are}

abbrev Print : List (List ℕ) → Type 0
Print words = AllByRecursion IsPrintedWord words

both_print : (first second : List (List ℕ)) → Print first → Print second → Print (first ++ second)
both_print [] second a b = b
both_print (w ∷ first) second a b = (a.0, both_print first second a.1 b)

piece_prints : (n count : ℕ) → IsAs n → count ≤ 11 → IsPrintedWord (piece_word n count)
piece_prints n count range few = step (nat_le count 1)
  where
    step : (b : Bool) → IsPrintedWord (cond b (decimal n) (decimal n ++ 42 ∷ decimal count))
    step true = decimal_prints n range.1
    step false = glued (decimal n) (decimal count) 42 (omega arith, omega arith) (decimal_prints n range.1) (decimal_prints count (omega arith))

several_print : (times : ℕ) (word : List ℕ) → IsPrintedWord word → Print (replicate times word)
several_print zero word is = tt
several_print (suc times) word is = (is, several_print times word is)

rest_prints : (n count : ℕ) → IsAs n → count ≤ 11 → Print (rest_words n count)
rest_prints n count range few = step (nat_eq count 0)
  where
    step : (b : Bool) → Print (cond b [] (piece_word n count ∷ []))
    step true = tt
    step false = (piece_prints n count range few, tt)

runs_print : (runs : List (ℕ × ℕ)) → AreRuns runs → Print (flat_map run_words runs)
runs_print [] are = tt
runs_print ((n, count) ∷ runs) are =
    both_print (run_words (n, count)) (flat_map run_words runs)
    (both_print (replicate (count / 11) (piece_word n 11)) (rest_words n (count % 11))
    (several_print (count / 11) (piece_word n 11) (piece_prints n 11 are.0 (omega arith))) (rest_prints n (count % 11) are.0 (omega arith)))
    (runs_print runs are.1)

path_prints : (path : List ℕ) → AllByRecursion IsAs path → Print (path_words path)
unfolding path_words
path_prints path each = runs_print (runs_of path) (runs_are path each)

communities_print : (comms : List ℕ) → AllByRecursion (IsBetween 1 4294901759) comms → Print (map community_text comms)
communities_print [] each = tt
communities_print (c ∷ comms) each = (community_prints c each.0, communities_print comms each.1)

label_prints : (protocol : Protocol) (label : Option Route) → IsLabelInRange protocol label → Print (label_words label)
label_prints protocol None range = (word_as_tested (codes "none") refl, tt)
label_prints protocol (Some (Ospf cost)) range = (word_as_tested (codes "cost") refl, (decimal_prints cost range.1, tt))
label_prints protocol (Some (Bgp lp path comms)) range = (
  word_as_tested (codes "bgp") refl,
  (
    decimal_prints lp range.1.preference,
    (
      word_as_tested (codes "path") refl,
      both_print (path_words path) (codes "comms" ∷ map community_text comms) (path_prints path range.1.numbers)
          (word_as_tested (codes "comms") refl, communities_print comms range.1.communities),
    ),
  ),
)

line_prints : (protocol : Protocol) (name : List ℕ) (label : Option Route) → is_router_name name ≡ true → IsLabelInRange protocol label →
    IsPrintedLine (label_line (name, label))
line_prints protocol name label named range = record { some = omega arith; words = (router_name_prints name named, label_prints protocol label range) }

pub lines_print : (protocol : Protocol) (names : List (List ℕ)) (labels : List (Option Route)) →
    AllByRecursion (λ (name : List ℕ). is_router_name name ≡ true) names → AllByRecursion (IsLabelInRange protocol) labels
    → AllByRecursion IsPrintedLine (label_lines names labels)
lines_print protocol [] labels named range = tt
lines_print protocol (name ∷ names) [] named range = tt
lines_print protocol (name ∷ names) (label ∷ labels) named range =
    (line_prints protocol name label named.0 range.0, lines_print protocol names labels named.1 range.1)
