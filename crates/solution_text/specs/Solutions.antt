-- The labels of a text for the routers of a problem, or the first line at fault.
use Rattle.std.specs.Prelude.{ℕ, ◌+◌, Bool, true, false, not, List, [], ◌∷◌, length, map, filter, if◌then◌else◌, Option, Some, None, Result, Ok, Err, bytes_eq}
use Rattle.std.specs.Option.{option_map}
use Rattle.std.specs.List.{list_any, find, filter_map}
use Rattle.base_kit.specs.declared.protocol.Protocol.{Protocol}
use Rattle.base_kit.specs.Options.{all_given}
use Rattle.base_kit.specs.declared.protocol.Protocol.TheVariants.{Bgp as OverBgp, Ospf as OverOspf}
use Rattle.cfg_ast.specs.text.TextLines.{TextLine, text_line}
use Rattle.cfg_ast.specs.text.Members.{all_lines_of}
use Rattle.srp_core.specs.declared.route.Route.{Route}
use Rattle.srp_core.specs.declared.route.Route.TheVariants.{Bgp, Ospf}
use Rattle.solution_text.specs.declared.refusal.SolKind.{SolKind}
use Rattle.solution_text.specs.declared.refusal.SolKind.TheVariants.{BadForm, UnknownRouter, Repeated, Missing, WrongProtocol}
use Rattle.solution_text.specs.declared.refusal.SolRefusal.{SolRefusal}
use Rattle.solution_text.specs.declared.refusal.SolRefusal.TheVariants.{At}
use Rattle.solution_text.specs.Forms.{NamedLabel, named_label_of}

-- ---- the lines that say something

abbrev pub are_some : List (List ℕ) → Bool
are_some [] = false
are_some (word ∷ words) = true

abbrev pub has_words : TextLine → Bool
has_words line = are_some line.words

-- all lines of the text that have words
unfoldable pub solution_lines : List ℕ → List TextLine
solution_lines bs = filter has_words (map (text_line bs) (all_lines_of bs))

abbrev pub named_labels : List TextLine → List NamedLabel
named_labels lines = filter_map (λ (l : TextLine). named_label_of l.words) lines

-- ---- faults

-- a route of the other protocol
abbrev pub is_foreign : Protocol → Option Route → Bool
is_foreign protocol None = false
is_foreign OverBgp (Some (Bgp lp path comms)) = false
is_foreign OverBgp (Some (Ospf cost)) = true
is_foreign OverOspf (Some (Bgp lp path comms)) = true
is_foreign OverOspf (Some (Ospf cost)) = false

-- what is at fault with a line, where these routers were named on earlier lines
abbrev pub kind_of : Protocol → List (List ℕ) → List (List ℕ) → Option NamedLabel → Option SolKind
kind_of protocol names earlier None = Some BadForm
kind_of protocol names earlier (Some s) =
    if not (list_any (bytes_eq s.name) names) then Some UnknownRouter
    else (if list_any (bytes_eq s.name) earlier then Some Repeated
    else (if is_foreign protocol s.label then Some WrongProtocol
    else None))

abbrev pub named_too : Option NamedLabel → List (List ℕ) → List (List ℕ)
named_too None earlier = earlier
named_too (Some s) earlier = s.name ∷ earlier

abbrev pub first_at_line : ℕ → Option SolKind → Option SolRefusal → Option SolRefusal
first_at_line line None later = later
first_at_line line (Some kind) later = Some (At line kind)

-- the first line at fault
unfoldable pub first_fault : Protocol → List (List ℕ) → List (List ℕ) → List TextLine → Option SolRefusal
first_fault protocol names earlier [] = None
first_fault protocol names earlier (l ∷ ls) =
    first_at_line l.number (kind_of protocol names earlier (named_label_of l.words))
    (first_fault protocol names (named_too (named_label_of l.words) earlier) ls)

-- ---- labels

-- what is said of a router
abbrev pub said_of : List NamedLabel → List ℕ → Option (Option Route)
said_of says name = option_map (λ (s : NamedLabel). s.label) (find (λ (s : NamedLabel). bytes_eq s.name name) says)

-- one label for each name
unfoldable pub labels_by : List NamedLabel → List (List ℕ) → Option (List (Option Route))
labels_by says names = all_given (map (said_of says) names)

-- the labels, unless a line is at fault or a router is missing
abbrev pub labels_unless : Option SolRefusal → ℕ → Option (List (Option Route)) → Result (List (Option Route)) SolRefusal
labels_unless (Some fault) line labels = Err fault
labels_unless None line None = Err (At line Missing)
labels_unless None line (Some labels) = Ok labels

-- The labels of a text for routers of these names, or the first line at fault. Where a router has no
-- line, that is the line behind the last one.
unfoldable pub labels_of_text : Protocol → List (List ℕ) → List ℕ → Result (List (Option Route)) SolRefusal
labels_of_text protocol names bs =
    labels_unless (first_fault protocol names [] (solution_lines bs)) (length (all_lines_of bs) + 1) (labels_by (named_labels (solution_lines bs)) names)
