-- What the routers of the network of the groups originate.
use Rattle.std.specs.Prelude.{◌≡◌, map, Contains}
use Rattle.base_kit.specs.Prefixes.{Prefix}
use Rattle.srp_core.specs.ProblemOf.{start_route}
use Rattle.config_emit.specs.Emitted.{emitted}
use Rattle.config_emit.specs.Laws.{IsPlan}
use Rattle.config_emit.specs.Plan.{Plan, small}

-- The initial routes of the network of the groups are those of the problem of the groups, for every prefix
-- of the class.
abbrev pub GroupsOriginate : Type 0
GroupsOriginate = (e : Plan) → IsPlan e → (p : Prefix) → Contains e.class.prefixes p → map (start_route p) (emitted e).routers ≡ (small e).init
