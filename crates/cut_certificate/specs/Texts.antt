-- The certificate of a text, or its first line at fault.
use Rattle.std.specs.Prelude.{ℕ, ◌+◌, Bool, false, ◌&&◌, ◌==◌, List, [], ◌∷◌, ◌++◌, length, map, if◌then◌else◌, Option, Some, None, Result, Ok, Err, bytes_eq, slice_get}
use Rattle.std.specs.List.{position}
use Rattle.base_kit.specs.declared.act_graph.Edge.{Edge}
use Rattle.base_kit.specs.Options.{all_given}
use Rattle.base_kit.specs.declared.act_graph.ActGraph.{ActGraph}
use Rattle.cfg_ast.specs.text.TextLines.{TextLine, text_line}
use Rattle.cfg_ast.specs.text.Members.{all_lines_of}
use Rattle.cut_certificate.specs.declared.certificate.Split.{Split}
use Rattle.cut_certificate.specs.declared.certificate.Certificate.{Certificate}
use Rattle.cut_certificate.specs.declared.refusal.CutKind.{CutKind}
use Rattle.cut_certificate.specs.declared.refusal.CutKind.TheVariants.{BadForm, UnknownRouter, NoEdge, WrongGroups, NotAdmissible, NoEnd}
use Rattle.cut_certificate.specs.declared.refusal.CutRefusal.{CutRefusal}
use Rattle.cut_certificate.specs.declared.refusal.CutRefusal.TheVariants.{At}
use Rattle.cut_certificate.specs.declared.standing.Stage.{Stage}
use Rattle.cut_certificate.specs.declared.standing.Stage.TheVariants.{Opening, Splitting, Naming, Closed}
use Rattle.cut_certificate.specs.Blocks.{Blocks, first_blocks, groups_of, split_by}
use Rattle.cut_certificate.specs.Evenness.{are_even}
use Rattle.cut_certificate.specs.Forms.{CertificateLine, certificate_line_of}
use Rattle.cut_certificate.specs.Forms.CertificateLine.{Head, Divide, Group, End}

-- how far a certificate has been read: its splits, the blocks behind them, and how many groups were named
pub record Standing : Type 0 where
  pub stage : Stage
  pub splits : List Split
  pub blocks : Blocks
  pub named : ℕ

abbrev pub opening : ActGraph → Standing
opening graph = record { stage = Opening; splits = []; blocks = first_blocks graph; named = 0 }

-- ---- names

abbrev pub router_named : List (List ℕ) → List ℕ → Option ℕ
router_named names name = position (bytes_eq name) names

-- In what follows `routers` gives the router of a name.
abbrev pub routers_named : (List ℕ → Option ℕ) → List (List ℕ) → Option (List ℕ)
routers_named routers words = all_given (map routers words)

abbrev pub is_edge_over : ℕ → ℕ → Edge → Bool
is_edge_over router link edge = edge.importer == router && edge.link == link

-- the place of the edge by which the router imports over the link
abbrev pub edge_named : List Edge → ℕ → ℕ → Option ℕ
edge_named edges router link = position (is_edge_over router link) edges

-- ---- the head

abbrev pub with_head : Standing → Stage → Result Standing CutKind
with_head s Opening = Ok (record s { stage = Splitting })
with_head s stage = Err BadForm

-- ---- splits

abbrev pub with_blocks : Standing → Split → Result Blocks CutKind → Result Standing CutKind
with_blocks s split (Err kind) = Err kind
with_blocks s split (Ok blocks) = Ok (record s { splits = s.splits ++ split ∷ []; blocks = blocks })

abbrev pub with_edge : List Edge → Standing → ℕ → ℕ → Option ℕ → Result Standing CutKind
with_edge edges s block by None = Err NoEdge
with_edge edges s block by (Some place) =
    with_blocks s (record { block = block; by = by; edge = place }) (split_by edges s.blocks (record { block = block; by = by; edge = place }))

abbrev pub with_router : List Edge → Standing → ℕ → ℕ → ℕ → Option ℕ → Result Standing CutKind
with_router edges s block by link None = Err UnknownRouter
with_router edges s block by link (Some router) = with_edge edges s block by (edge_named edges router link)

abbrev pub with_split : List Edge → (List ℕ → Option ℕ) → Standing → ℕ → ℕ → List ℕ → ℕ → Stage → Result Standing CutKind
with_split edges routers s block by name link Splitting = with_router edges s block by link (routers name)
with_split edges routers s block by name link stage = Err BadForm

-- ---- groups

-- the next group has exactly these members, in this order
abbrev pub is_next_group : Option (List ℕ) → List ℕ → Bool
is_next_group None members = false
is_next_group (Some group) members = bytes_eq group members

abbrev pub with_members : Standing → Option (List ℕ) → Result Standing CutKind
with_members s None = Err UnknownRouter
with_members s (Some members) =
    if is_next_group (slice_get (groups_of s.blocks.numbers) s.named) members then Ok (record s { stage = Naming; named = s.named + 1 }) else Err WrongGroups

abbrev pub with_group : (List ℕ → Option ℕ) → Standing → List (List ℕ) → Stage → Result Standing CutKind
with_group routers s words Splitting = with_members s (routers_named routers words)
with_group routers s words Naming = with_members s (routers_named routers words)
with_group routers s words stage = Err BadForm

-- ---- the end

abbrev pub with_all_groups : List Edge → Standing → Result Standing CutKind
with_all_groups edges s =
    if s.named == length (groups_of s.blocks.numbers) then (if are_even edges s.blocks.numbers then Ok (record s { stage = Closed }) else Err NotAdmissible)
    else Err WrongGroups

abbrev pub with_closing : List Edge → Standing → Stage → Result Standing CutKind
with_closing edges s Splitting = with_all_groups edges s
with_closing edges s Naming = with_all_groups edges s
with_closing edges s stage = Err BadForm

-- ---- lines

abbrev pub with_saying : List Edge → (List ℕ → Option ℕ) → Standing → Option CertificateLine → Result Standing CutKind
with_saying edges routers s None = Err BadForm
with_saying edges routers s (Some Head) = with_head s s.stage
with_saying edges routers s (Some (Divide block by name link)) = with_split edges routers s block by name link s.stage
with_saying edges routers s (Some (Group words)) = with_group routers s words s.stage
with_saying edges routers s (Some End) = with_closing edges s s.stage

-- a line without words says nothing
abbrev pub with_line : List Edge → (List ℕ → Option ℕ) → Standing → List (List ℕ) → Result Standing CutKind
with_line edges routers s [] = Ok s
with_line edges routers s (word ∷ words) = with_saying edges routers s (certificate_line_of word words)

-- ---- texts

abbrev pub certificate_of : Standing → Certificate
certificate_of s = record { splits = s.splits; groups = groups_of s.blocks.numbers }

-- the certificate, if it has come to its end
abbrev pub ended : ℕ → Standing → Stage → Result Certificate CutRefusal
ended line s Closed = Ok (certificate_of s)
ended line s stage = Err (At line NoEnd)

abbrev pub go_on : ℕ → Result Standing CutKind → (Standing → Result Certificate CutRefusal) → Result Certificate CutRefusal
go_on line (Ok s) rest = rest s
go_on line (Err kind) rest = Err (At line kind)

-- what the lines that are left give, where `end` is the number behind the last line
unfoldable pub certificate_from : List Edge → (List ℕ → Option ℕ) → ℕ → List TextLine → Standing → Result Certificate CutRefusal
certificate_from edges routers end [] s = ended end s s.stage
certificate_from edges routers end (l ∷ ls) s = go_on l.number (with_line edges routers s l.words) (certificate_from edges routers end ls)

-- the certificate that a text spells for routers of these names, or its first line at fault
unfoldable pub certificate_of_text : ActGraph → List (List ℕ) → List ℕ → Result Certificate CutRefusal
certificate_of_text graph names bs =
    certificate_from graph.edges (router_named names) (length (all_lines_of bs) + 1) (map (text_line bs) (all_lines_of bs)) (opening graph)
