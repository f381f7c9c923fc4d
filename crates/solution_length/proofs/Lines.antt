-- The bytes of the text of labels, by the words of their paths and the number of their communities.
use Rattle.std.proofs.Common.{◌≡◌, ◌≤◌, ℕ, true, ◌+◌, ◌*◌, List, [], ◌∷◌, map, length, Option, Some, None, arith, codes, length-append}
use Rattle.std.specs.List.{AllByRecursion}
use Rattle.base_kit.specs.declared.protocol.Protocol.{Protocol}
use Rattle.cfg_ast.specs.printing.Printed.{line_text, lines_text, community_text}
use Rattle.cfg_ast.specs.printing.WellFormed.{IsBetween}
use Rattle.cfg_ast.specs.text.Words.{is_router_name}
use Rattle.cfg_round_trip.proofs.ShortNames.{line_length}
use Rattle.cfg_round_trip.proofs.ShortWords.{weight, joined_weight, number_short, community_short, router_name_short}
use Rattle.solution_round_trip.specs.Laws.{IsLabelInRange}
use Rattle.solution_text.specs.Printed.{path_words, label_words, label_line, label_lines, labels_text}
use Rattle.srp_core.specs.declared.route.Route.{Route}
use Rattle.srp_core.specs.declared.route.Route.TheVariants.{Bgp, Ospf}
use Rattle.srp_core.specs.Routes.{path_of, comms_of}
use Rattle.solution_length.proofs.PathWords.{weight_both}
use Rattle.solution_length.proofs.Places.{behind, behind_all}

-- a label with few communities, whose path has a word for each smaller label at most
pub record IsShortRoute (labels : List (Option Route)) (r : Route) : Type 0 where
  pub path : weight (path_words (path_of r)) ≤ 14 * behind labels (Some r)
  pub comms : length (comms_of r) ≤ 1024

abbrev pub IsShortLabel : List (Option Route) → Option Route → Type 0
IsShortLabel labels None = Unit {0}
IsShortLabel labels (Some r) = IsShortRoute labels r

communities_light : (comms : List ℕ) → AllByRecursion (IsBetween 1 4294901759) comms → weight (map community_text comms) ≤ 12 * length comms
communities_light [] each = omega arith
communities_light (c ∷ comms) each = omega (arith, community_short c each.0, communities_light comms each.1)

label_light : (protocol : Protocol) (labels : List (Option Route)) (o : Option Route) → IsLabelInRange protocol o → IsShortLabel labels o
    → weight (label_words o) ≤ 12314 + 14 * behind labels o
label_light protocol labels None range short = omega arith
label_light protocol labels (Some (Ospf cost)) range short = omega (arith, number_short cost range.1)
label_light protocol labels (Some (Bgp lp path comms)) range short =
    let words = short.path in
    let few = short.comms in
    omega (
      arith,
      number_short lp range.1.preference,
      weight_both (path_words path) (codes "comms" ∷ map community_text comms),
      communities_light comms
          range.1.communities,
      words,
      few,
    )

module _ (protocol : Protocol) (labels : List (Option Route)) where
  line_light : (name : List ℕ) (o : Option Route) → is_router_name name ≡ true → IsLabelInRange protocol o → IsShortLabel labels o
      → length (line_text (label_line (name, o))) ≤ 12379 + 14 * behind labels o
  line_light name o named range short =
      omega (
        arith,
        router_name_short name named,
        line_length (label_line (name, o)),
        joined_weight (name ∷ label_words o),
        label_light protocol labels o
            range short,
      )

  lines_light : (names : List (List ℕ)) (others : List (Option Route)) → AllByRecursion (λ (name : List ℕ). is_router_name name ≡ true) names
      → AllByRecursion (IsLabelInRange protocol) others → AllByRecursion (IsShortLabel labels) others
      → length (lines_text (label_lines names others)) ≤ 12379 * length others + 14 * behind_all labels others
  lines_light [] others named range short = omega arith
  lines_light (name ∷ names) [] named range short = omega arith
  lines_light (name ∷ names) (o ∷ others) named range short =
      omega (
        arith,
        length-append (line_text (label_line (name, o))) (lines_text (label_lines names others)),
        line_light name o named.0 range.0 short.0,
        lines_light names others named.1 range.1 short.1,
      )

  pub text_light : (names : List (List ℕ)) → AllByRecursion (λ (name : List ℕ). is_router_name name ≡ true) names
      → AllByRecursion (IsLabelInRange protocol) labels → AllByRecursion (IsShortLabel labels) labels
      → length (labels_text names labels) ≤ 12379 * length labels + 14 * behind_all labels labels
  unfolding labels_text
  text_light names named range short = lines_light names labels named range short
