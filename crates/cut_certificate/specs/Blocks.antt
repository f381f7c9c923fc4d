-- The routers of a graph in blocks, numbered from 1, and how a split divides one of them.
use Rattle.std.specs.Prelude.{ℕ, ◌+◌, Bool, not, ◌&&◌, ◌==◌, nat_le, List, [], ◌∷◌, ◌++◌, length, map, slice_index, if◌then◌else◌, Result, Ok, Err}
use Rattle.std.specs.List.{list_any, position_or_len, range_with_len}
use Rattle.base_kit.specs.declared.act_graph.Edge.{Edge}
use Rattle.base_kit.specs.declared.act_graph.ActGraph.{ActGraph}
use Rattle.base_kit.specs.Sets.{has}
use Rattle.base_kit.specs.Partition.{members_of}
use Rattle.cut_certificate.specs.declared.certificate.Split.{Split}
use Rattle.cut_certificate.specs.declared.refusal.CutKind.{CutKind}
use Rattle.cut_certificate.specs.declared.refusal.CutKind.TheVariants.{NoBlock, SameBlock, NothingSplit}

-- the number of each router's block, and how many blocks there are
pub record Blocks : Type 0 where
  pub numbers : List ℕ
  pub count : ℕ

-- ---- the first blocks

abbrev pub with_new : List ℕ → ℕ → List ℕ
with_new seen n = if has seen n then seen else seen ++ n ∷ []

abbrev pub seen_after : List ℕ → List ℕ → List ℕ
seen_after seen [] = seen
seen_after seen (n ∷ ns) = seen_after (with_new seen n) ns

-- numbers in the order in which they first stand, each once
unfoldable pub distinct : List ℕ → List ℕ
distinct ns = seen_after [] ns

-- the place of a number, from 0
abbrev pub place_among : List ℕ → ℕ → ℕ
place_among ns n = position_or_len (λ other. other == n) ns

-- the number of a key among all, from 1
abbrev pub number_among : List ℕ → ℕ → ℕ
number_among keys key = place_among (distinct keys) key + 1

-- one block for each color, in the order of their least members
unfoldable pub first_blocks : ActGraph → Blocks
first_blocks graph = record { numbers = map (number_among graph.colors) graph.colors; count = length (distinct graph.colors) }

-- the members of the blocks, each ascending, in the order of their least ones
unfoldable pub groups_of : List ℕ → List (List ℕ)
groups_of numbers = map (members_of numbers) (distinct numbers)

-- ---- splits

-- an edge with this act into the block, and one of this router
abbrev pub leads_into : List ℕ → ℕ → ℕ → Edge → Bool
leads_into numbers block act edge = edge.act == act && slice_index numbers edge.exporter == block

abbrev pub leads_from : List ℕ → ℕ → ℕ → ℕ → Edge → Bool
leads_from numbers block act router edge = edge.importer == router && leads_into numbers block act edge

-- whether the router has one
unfoldable pub reaches : List Edge → List ℕ → ℕ → ℕ → ℕ → Bool
reaches edges numbers block act router = list_any (leads_from numbers block act router) edges

-- the members of a block that reach another one go to the next block
abbrev pub number_after : List Edge → List ℕ → ℕ → ℕ → ℕ → ℕ → ℕ → ℕ
number_after edges numbers block by act next router =
    if slice_index numbers router == block && reaches edges numbers by act router then next else slice_index numbers router

unfoldable pub numbers_after : List Edge → List ℕ → ℕ → ℕ → ℕ → ℕ → List ℕ
numbers_after edges numbers block by act next = map (number_after edges numbers block by act next) (range_with_len 0 (length numbers))

-- how the edge at a place acts
abbrev pub edge_act : List Edge → ℕ → ℕ
edge_act edges place = slice_index (map (λ (e : Edge). e.act) edges) place

abbrev pub blocks_after : List Edge → Blocks → Split → Blocks
blocks_after edges blocks split =
    record { numbers = numbers_after edges blocks.numbers split.block split.by (edge_act edges split.edge) (blocks.count + 1); count = blocks.count + 1 }

abbrev pub is_block : Blocks → ℕ → Bool
is_block blocks number = nat_le 1 number && nat_le number blocks.count

-- both parts of a divided block have members
abbrev pub are_parts : ℕ → Blocks → Bool
are_parts block after = has after.numbers block && has after.numbers after.count

-- a split of one block by another one after which both parts have members
unfoldable pub split_by : List Edge → Blocks → Split → Result Blocks CutKind
split_by edges blocks split =
    if not (is_block blocks split.block && is_block blocks split.by) then Err NoBlock
    else (if split.block == split.by then Err SameBlock
    else (if are_parts split.block (blocks_after edges blocks split) then Ok (blocks_after edges blocks split)
    else Err NothingSplit))
