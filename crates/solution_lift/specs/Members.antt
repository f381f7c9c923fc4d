-- What the members of a group give it.
use Rattle.std.specs.Prelude.{ℕ, List, [], ◌∷◌, nat_eq, slice_index, if◌then◌else◌}

-- the first number of these routers that is not 0, or 0
abbrev pub first_nonzero_number : List ℕ → List ℕ → ℕ
first_nonzero_number numbers [] = 0
first_nonzero_number numbers (router ∷ routers) = if nat_eq (slice_index numbers router) 0 then first_nonzero_number numbers routers
    else slice_index numbers router
