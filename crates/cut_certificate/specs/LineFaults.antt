-- The faults of the lines of a certificate: each line is judged by what the lines before it say, and the
-- first line with a fault decides. Lines without a fault spell their splits, and the groups of the blocks behind them.
use Rattle.std.specs.Prelude.{◌≡◌, ℕ, ◌+◌, Bool, true, false, ◌==◌, List, [], ◌∷◌, ◌++◌, length, map, Option, Some, None, Result, Ok, Err, slice_get}
use Rattle.std.specs.List.{cons_option}
use Rattle.base_kit.specs.declared.act_graph.ActGraph.{ActGraph}
use Rattle.cfg_ast.specs.text.TextLines.{TextLine, text_line}
use Rattle.cfg_ast.specs.text.Members.{all_lines_of}
use Rattle.cut_certificate.specs.declared.certificate.Split.{Split}
use Rattle.cut_certificate.specs.declared.certificate.Certificate.{Certificate}
use Rattle.cut_certificate.specs.declared.refusal.CutKind.{CutKind}
use Rattle.cut_certificate.specs.declared.refusal.CutKind.TheVariants.{BadForm, UnknownRouter, NoEdge, WrongGroups, NotAdmissible, NoEnd}
use Rattle.cut_certificate.specs.declared.refusal.CutRefusal.{CutRefusal}
use Rattle.cut_certificate.specs.declared.refusal.CutRefusal.TheVariants.{At}
use Rattle.cut_certificate.specs.Blocks.{Blocks, first_blocks, groups_of, blocks_after, split_by}
use Rattle.cut_certificate.specs.Evenness.{are_even}
use Rattle.cut_certificate.specs.Forms.{CertificateLine, certificate_line_of}
use Rattle.cut_certificate.specs.Forms.CertificateLine.{Head, Divide, Group, End}
use Rattle.cut_certificate.specs.Texts.{router_named, edge_named, routers_named, is_next_group, certificate_of_text}

-- ---- what the lines before say, the nearest first

-- what a line says; one without words says nothing
abbrev pub said_on : List (List ℕ) → Option CertificateLine
said_on [] = None
said_on (word ∷ words) = certificate_line_of word words

-- a split may follow the head or a split
abbrev pub may_split : List CertificateLine → Bool
may_split (Head ∷ past) = true
may_split (Divide _ _ _ _ ∷ past) = true
may_split past = false

-- a group or the end may follow any line but the end
abbrev pub may_name : List CertificateLine → Bool
may_name [] = false
may_name (End ∷ past) = false
may_name past = true

abbrev pub is_ended : List CertificateLine → Bool
is_ended (End ∷ past) = true
is_ended past = false

-- how many groups are named
abbrev pub groups_named : List CertificateLine → ℕ
groups_named [] = 0
groups_named (Group _ ∷ past) = groups_named past + 1
groups_named (said ∷ past) = groups_named past

-- the edge by which a router of that name imports over the link
abbrev pub edge_by_name : ActGraph → List (List ℕ) → Option ℕ → ℕ → Option ℕ
edge_by_name graph names None link = None
edge_by_name graph names (Some router) link = edge_named graph.edges router link

abbrev pub split_at : ℕ → ℕ → ℕ → Split
split_at block by edge = record { block = block; by = by; edge = edge }

-- the blocks behind a split by the edge at a place
abbrev pub divided : ActGraph → Blocks → ℕ → ℕ → Option ℕ → Blocks
divided graph blocks block by None = blocks
divided graph blocks block by (Some place) = blocks_after graph.edges blocks (split_at block by place)

-- the blocks behind the splits
abbrev pub blocks_behind : ActGraph → List (List ℕ) → List CertificateLine → Blocks
blocks_behind graph names [] = first_blocks graph
blocks_behind graph names (Divide block by name link ∷ past) =
    divided graph (blocks_behind graph names past) block by (edge_by_name graph names (router_named names name) link)
blocks_behind graph names (said ∷ past) = blocks_behind graph names past

-- the splits so far, and one by the edge at a place
abbrev pub split_more : List Split → ℕ → ℕ → Option ℕ → List Split
split_more splits block by None = splits
split_more splits block by (Some place) = splits ++ split_at block by place ∷ []

-- the splits, in their order
abbrev pub splits_said : ActGraph → List (List ℕ) → List CertificateLine → List Split
splits_said graph names [] = []
splits_said graph names (Divide block by name link ∷ past) =
    split_more (splits_said graph names past) block by (edge_by_name graph names (router_named names name) link)
splits_said graph names (said ∷ past) = splits_said graph names past

-- ---- the fault of a line

-- the fault, unless the condition holds
abbrev pub unless : Bool → CutKind → Option CutKind
unless true kind = None
unless false kind = Some kind

-- the first fault, or else the second
abbrev pub kind_or_else : Option CutKind → Option CutKind → Option CutKind
kind_or_else None b = b
kind_or_else (Some a) b = Some a

abbrev pub is_first : List CertificateLine → Bool
is_first [] = true
is_first past = false

abbrev pub kind_in : {X : Type 0} → Result X CutKind → Option CutKind
kind_in (Ok x) = None
kind_in (Err kind) = Some kind

-- the fault of a split by an edge, if there is one
abbrev pub edge_fault : ActGraph → Blocks → ℕ → ℕ → Option ℕ → Option CutKind
edge_fault graph blocks block by None = Some NoEdge
edge_fault graph blocks block by (Some place) = kind_in (split_by graph.edges blocks (split_at block by place))

-- the fault of a split by the edge of a router, if there is one
abbrev pub split_fault : ActGraph → Blocks → ℕ → ℕ → Option ℕ → ℕ → Option CutKind
split_fault graph blocks block by None link = Some UnknownRouter
split_fault graph blocks block by (Some router) link = edge_fault graph blocks block by (edge_named graph.edges router link)

-- the fault of a group of these routers, if there are some
abbrev pub group_fault : Blocks → ℕ → Option (List ℕ) → Option CutKind
group_fault blocks named None = Some UnknownRouter
group_fault blocks named (Some members) = unless (is_next_group (slice_get (groups_of blocks.numbers) named) members) WrongGroups

-- the fault of the end
abbrev pub end_fault : ActGraph → Blocks → ℕ → Option CutKind
end_fault graph blocks named =
    kind_or_else (unless (named == length (groups_of blocks.numbers)) WrongGroups) (unless (are_even graph.edges blocks.numbers) NotAdmissible)

-- the fault of a line that says this, after what the lines before say
abbrev pub fault_of_said : ActGraph → List (List ℕ) → List CertificateLine → Option CertificateLine → Option CutKind
fault_of_said graph names past None = Some BadForm
fault_of_said graph names past (Some Head) = unless (is_first past) BadForm
fault_of_said graph names past (Some (Divide block by name link)) =
    kind_or_else (unless (may_split past) BadForm) (split_fault graph (blocks_behind graph names past) block by (router_named names name) link)
fault_of_said graph names past (Some (Group words)) =
    kind_or_else (unless (may_name past) BadForm) (group_fault (blocks_behind graph names past) (groups_named past) (routers_named (router_named names) words))
fault_of_said graph names past (Some End) =
    kind_or_else (unless (may_name past) BadForm) (end_fault graph (blocks_behind graph names past) (groups_named past))

-- a line without words has no fault
abbrev pub line_fault : ActGraph → List (List ℕ) → List CertificateLine → List (List ℕ) → Option CutKind
line_fault graph names past [] = None
line_fault graph names past (word ∷ words) = fault_of_said graph names past (certificate_line_of word words)

-- ---- the first fault

abbrev pub at_line : ℕ → Option CutKind → Option CutRefusal → Option CutRefusal
at_line n None later = later
at_line n (Some kind) later = Some (At n kind)

-- the fault of the first line that has one, or else of a missing end, where `end` is the number behind the last line
abbrev pub first_refusal : ActGraph → List (List ℕ) → ℕ → List CertificateLine → List TextLine → Option CutRefusal
first_refusal graph names end past [] = at_line end (unless (is_ended past) NoEnd) None
first_refusal graph names end past (l ∷ ls) =
    at_line l.number (line_fault graph names past l.words) (first_refusal graph names end (cons_option (said_on l.words) past) ls)

-- ---- all lines

-- what all lines say
abbrev pub lines_said : List CertificateLine → List TextLine → List CertificateLine
lines_said past [] = past
lines_said past (l ∷ ls) = lines_said (cons_option (said_on l.words) past) ls

-- the splits, and the groups of the blocks behind them
abbrev pub certificate_said : ActGraph → List (List ℕ) → List CertificateLine → Certificate
certificate_said graph names past = record { splits = splits_said graph names past; groups = groups_of (blocks_behind graph names past).numbers }

-- the certificate, unless there is a fault
abbrev pub unless_at_fault : Option CutRefusal → Certificate → Result Certificate CutRefusal
unless_at_fault None c = Ok c
unless_at_fault (Some fault) c = Err fault

-- A text is refused with the first fault of its lines, each judged by the lines before it, and with no other. Without a fault
-- it spells the splits that its lines say.
abbrev pub FirstLineDecides : Type 0
FirstLineDecides = (graph : ActGraph) (names : List (List ℕ)) (bs : List ℕ) → certificate_of_text graph names bs
    ≡ unless_at_fault (first_refusal graph names (length (all_lines_of bs) + 1) [] (map (text_line bs) (all_lines_of bs)))
    (certificate_said graph names (lines_said [] (map (text_line bs) (all_lines_of bs))))
