-- The links that end at a router.
use Rattle.std.specs.Prelude.{ℕ, ◌==◌, ◌||◌, List, filter, length}
use Rattle.cfg_ast.specs.declared.topology.Link.{Link}

-- how many of the links have the router as one of their ends
abbrev pub degree_of : ℕ → List Link → ℕ
degree_of router links = length (filter (λ (link : Link). link.low == router || link.high == router) links)
