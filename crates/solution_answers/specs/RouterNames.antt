-- The names of routers.
use Rattle.std.specs.Prelude.{ℕ, List, [], slice_index_or}

-- the name of a router
abbrev pub name_at : List (List ℕ) → ℕ → List ℕ
name_at names u = slice_index_or names u []
