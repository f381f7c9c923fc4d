-- The text of a certificate.
use Rattle.std.specs.Prelude.{ℕ, List, [], ◌∷◌, ◌++◌, map, slice_index, slice_index_or, codes}
use Rattle.std.specs.Fmt.{decimal}
use Rattle.base_kit.specs.declared.act_graph.Edge.{Edge}
use Rattle.cfg_ast.specs.printing.Printed.{line, lines_text}
use Rattle.cfg_ast.specs.text.TextLines.{TextLine}
use Rattle.cut_certificate.specs.declared.certificate.Split.{Split}
use Rattle.cut_certificate.specs.declared.certificate.Certificate.{Certificate}

abbrev pub printed_name : List (List ℕ) → ℕ → List ℕ
printed_name names router = slice_index_or names router []

abbrev pub edge_importer : List Edge → ℕ → ℕ
edge_importer edges place = slice_index (map (λ (e : Edge). e.importer) edges) place

abbrev pub edge_link : List Edge → ℕ → ℕ
edge_link edges place = slice_index (map (λ (e : Edge). e.link) edges) place

abbrev pub head_line : TextLine
head_line = line 0 (codes "bonsai" ∷ codes "certificate" ∷ codes "1" ∷ [])

-- the edge by its importer and its link
abbrev pub split_line : List Edge → List (List ℕ) → Split → TextLine
split_line edges names s =
    line 0 (codes "split" ∷ decimal s.block ∷ decimal s.by ∷ printed_name names (edge_importer edges s.edge) ∷ decimal (edge_link edges s.edge) ∷ [])

abbrev pub named_group_line : List (List ℕ) → List ℕ → TextLine
named_group_line names group = line 0 (codes "group" ∷ map (printed_name names) group)

abbrev pub end_line : TextLine
end_line = line 0 (codes "end" ∷ [])

abbrev pub certificate_lines : List Edge → List (List ℕ) → Certificate → List TextLine
certificate_lines edges names c =
    head_line ∷ map (split_line edges names) c.splits ++ map (named_group_line names) c.groups ++ end_line ∷ []

-- the text of a certificate for routers of these names
unfoldable pub certificate_text : List Edge → List (List ℕ) → Certificate → List ℕ
certificate_text edges names c = lines_text (certificate_lines edges names c)
