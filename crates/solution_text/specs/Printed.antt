-- The text of labels: a line for each router, in order. Each longest run of one number on a path is
-- written in pieces of at most 11.
use Rattle.std.specs.Prelude.{ℕ, ◌+◌, ◌/◌, ◌%◌, List, [], ◌∷◌, ◌++◌, map, flat_map, nat_eq, nat_le, replicate, if◌then◌else◌, Option, Some, None, codes, decimal}
use Rattle.std.specs.List.{zip}
use Rattle.cfg_ast.specs.text.TextLines.{TextLine}
use Rattle.cfg_ast.specs.printing.Printed.{line, lines_text, community_text}
use Rattle.srp_core.specs.declared.route.Route.{Route}
use Rattle.srp_core.specs.declared.route.Route.TheVariants.{Bgp, Ospf}

-- ---- paths

-- a number and how often it stands there in a row
abbrev pub with_run : ℕ → List (ℕ × ℕ) → List (ℕ × ℕ)
with_run number [] = (number, 1) ∷ []
with_run number ((other, count) ∷ runs) = if nat_eq number other then (other, count + 1) ∷ runs else (number, 1) ∷ (other, count) ∷ runs

-- the longest runs of one number
abbrev pub runs_of : List ℕ → List (ℕ × ℕ)
runs_of [] = []
runs_of (number ∷ path) = with_run number (runs_of path)

-- a number so many times, as one word
abbrev pub piece_word : ℕ → ℕ → List ℕ
piece_word number count = if nat_le count 1 then decimal number else decimal number ++ 42 ∷ decimal count

abbrev pub rest_words : ℕ → ℕ → List (List ℕ)
rest_words number count = if nat_eq count 0 then [] else piece_word number count ∷ []

-- pieces of 11 from the left, then the rest
abbrev pub run_words : ℕ × ℕ → List (List ℕ)
run_words (number, count) = replicate (count / 11) (piece_word number 11) ++ rest_words number (count % 11)

unfoldable pub path_words : List ℕ → List (List ℕ)
path_words path = flat_map run_words (runs_of path)

-- ---- lines

-- the words behind a router's name
abbrev pub label_words : Option Route → List (List ℕ)
label_words None = codes "none" ∷ []
label_words (Some (Ospf cost)) = codes "cost" ∷ decimal cost ∷ []
label_words (Some (Bgp lp path comms)) = codes "bgp" ∷ decimal lp ∷ codes "path" ∷ path_words path ++ (codes "comms" ∷ map community_text comms)

abbrev pub label_line : List ℕ × Option Route → TextLine
label_line (name, label) = line 0 (name ∷ label_words label)

abbrev pub label_lines : List (List ℕ) → List (Option Route) → List TextLine
label_lines names labels = map label_line (zip names labels)

-- the text of labels for routers of these names
unfoldable pub labels_text : List (List ℕ) → List (Option Route) → List ℕ
labels_text names labels = lines_text (label_lines names labels)
