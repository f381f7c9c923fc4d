-- The words of a line are read as the router's name and label.
use Rattle.std.proofs.Common.{◌≡◌, ℕ, ◌<◌, true, List, [], ◌∷◌, ◌++◌, map, refl, arith, Option, Some, None, codes}
use Rattle.std.specs.Prelude.{nat_lt}
use Rattle.std.specs.Fmt.{decimal}
use Rattle.std.specs.List.{AllByRecursion}
use Rattle.std.proofs.lemmas.Bool.Decides.{nat_tests}
use Rattle.base_kit.specs.declared.protocol.Protocol.{Protocol}
use Rattle.base_kit.specs.Sets.{AllAbove, IsAscending}
use Rattle.cfg_ast.specs.text.Words.{is_router_name}
use Rattle.cfg_ast.specs.printing.Printed.{community_text}
use Rattle.cfg_ast.specs.printing.WellFormed.{IsBetween}
use Rattle.cfg_round_trip.proofs.WordsBack.{number_back, community_back}
use Rattle.srp_core.specs.declared.route.Route.{Route}
use Rattle.srp_core.specs.declared.route.Route.TheVariants.{Bgp, Ospf}
use Rattle.solution_text.specs.Forms.{community_above, communities_above, bgp_label_form, label_form, saying, named_label_of}
use Rattle.solution_text.specs.Printed.{path_words, label_words}
use Rattle.solution_round_trip.specs.Laws.{IsBgpInRange, IsLabelInRange}
use Rattle.solution_round_trip.proofs.PathsBack.{path_back}

above_back : (bound c : ℕ) → bound < c → IsBetween 1 4294901759 c → community_above bound (community_text c) ≡ Some c
unfolding community_above
above_back bound c more range =
    let low : nat_lt bound c ≡ true = grind (arith, nat_tests) in
    let top = range.1 in
    let high : nat_lt c 4294901760 ≡ true = grind (arith, nat_tests) in
    rw (community_back c range, low, high) refl

communities_back : (bound : ℕ) (comms : List ℕ) → AllAbove bound comms → IsAscending comms → AllByRecursion (IsBetween 1 4294901759) comms →
    communities_above bound (map community_text comms) ≡ Some comms
unfolding communities_above
communities_back bound [] above ascending each = refl
communities_back bound (c ∷ comms) above ascending each = rw (above_back bound c above.0 each.0, communities_back c comms ascending.0 ascending.1 each.1) refl

all_above_none : (comms : List ℕ) → AllByRecursion (IsBetween 1 4294901759) comms → AllAbove 0 comms
all_above_none [] each = tt
all_above_none (c ∷ comms) each = (let low = each.0.0 in omega (arith, low), all_above_none comms each.1)

bgp_back : (lp : ℕ) (path comms : List ℕ) → IsBgpInRange lp path comms
    → bgp_label_form (decimal lp ∷ codes "path" ∷ path_words path ++ (codes "comms" ∷ map community_text comms)) ≡ Some (Bgp lp path comms)
unfolding bgp_label_form
bgp_back lp path comms range =
    rw (
      number_back lp range.preference,
      path_back path (map community_text comms) range.numbers,
      communities_back 0 comms (all_above_none comms range.communities) range.is_set range.communities,
    )
    refl

-- the first word of a label, and the words behind it
abbrev pub first_word : List (List ℕ) → List ℕ
first_word [] = []
first_word (word ∷ words) = word

abbrev pub more_words : List (List ℕ) → List (List ℕ)
more_words [] = []
more_words (word ∷ words) = words

label_back : (protocol : Protocol) (label : Option Route) → IsLabelInRange protocol label →
    label_form (first_word (label_words label)) (more_words (label_words label)) ≡ Some label
unfolding label_form
label_back protocol None range = refl
label_back protocol (Some (Ospf cost)) range = rw (number_back cost range.1) refl
label_back protocol (Some (Bgp lp path comms)) range = rw (bgp_back lp path comms range.1) refl

-- the words of a line
pub words_back : (protocol : Protocol) (name : List ℕ) (label : Option Route) → is_router_name name ≡ true → IsLabelInRange protocol label →
    named_label_of (name ∷ label_words label) ≡ Some (saying name label)
unfolding named_label_of
words_back protocol name None named range = rw (named, label_back protocol None range) refl
words_back protocol name (Some (Ospf cost)) named range = rw (named, label_back protocol (Some (Ospf cost)) range) refl
words_back protocol name (Some (Bgp lp path comms)) named range = rw (named, label_back protocol (Some (Bgp lp path comms)) range) refl
