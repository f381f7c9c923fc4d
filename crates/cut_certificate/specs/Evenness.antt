-- Blocks whose members mirror each other's edges into other blocks, as a test.
use Rattle.std.specs.Prelude.{ℕ, Bool, true, not, ◌&&◌, ◌||◌, ◌==◌, List, [], ◌∷◌, slice_index}
use Rattle.std.specs.List.{list_all}
use Rattle.base_kit.specs.declared.act_graph.Edge.{Edge}
use Rattle.cut_certificate.specs.Blocks.{groups_of, reaches}

-- the edge lies inside its block, or the other router has an edge into the exporter's block with the
-- same act
abbrev pub is_matched : List Edge → List ℕ → ℕ → ℕ → Edge → Bool
is_matched edges numbers router other edge =
    slice_index numbers edge.exporter == slice_index numbers router || reaches edges numbers (slice_index numbers edge.exporter) edge.act other

abbrev pub is_matched_if_own : List Edge → List ℕ → ℕ → ℕ → Edge → Bool
is_matched_if_own edges numbers router other edge = not (edge.importer == router) || is_matched edges numbers router other edge

-- each edge of `router` into another block has a twin at `other`
unfoldable pub is_mirrored : List Edge → List ℕ → ℕ → ℕ → Bool
is_mirrored edges numbers router other = list_all (is_matched_if_own edges numbers router other) edges

abbrev pub mirror_each_other : List Edge → List ℕ → ℕ → ℕ → Bool
mirror_each_other edges numbers router other = is_mirrored edges numbers router other && is_mirrored edges numbers other router

-- all members mirror the first one, and the first one all
abbrev pub is_even : List Edge → List ℕ → List ℕ → Bool
is_even edges numbers [] = true
is_even edges numbers (first ∷ members) = list_all (mirror_each_other edges numbers first) members

-- so do the members of each block
unfoldable pub are_even : List Edge → List ℕ → Bool
are_even edges numbers = list_all (is_even edges numbers) (groups_of numbers)
