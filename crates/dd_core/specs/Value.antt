-- What the nodes of a store mean.
use Rattle.std.specs.Prelude.{◌≡◌, ℕ, Bool, false, List, [], ◌∷◌, ◌++◌, Some, slice_get, if◌then◌else◌}
use Rattle.std.specs.List.{slice_index_or}
use Rattle.dd_core.specs.declared.table.Node.{Node}
use Rattle.dd_core.specs.declared.table.Node.TheVariants.{Constant, Choice}

-- the value of a node, given the values of the nodes before it and which variables the set has
abbrev pub node_value : (ℕ → Bool) → List Bool → Node → Bool
node_value has values (Constant b) = b
node_value has values (Choice variable high low) =
    if has variable then slice_index_or values high false else slice_index_or values low false

-- the values of more nodes, after those of the nodes before them
abbrev pub values_after : (ℕ → Bool) → List Bool → List Node → List Bool
values_after has values [] = values
values_after has values (node ∷ nodes) = values_after has (values ++ node_value has values node ∷ []) nodes

-- the value of the node at a place
abbrev pub value : List Node → (ℕ → Bool) → ℕ → Bool
value nodes has place = slice_index_or (values_after has [] nodes) place false
