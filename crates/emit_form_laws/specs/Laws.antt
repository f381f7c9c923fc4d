-- What holds of the groups of a plan.
use Rattle.std.specs.Prelude.{◌≤◌, length}
use Rattle.cfg_ast.specs.meaning.Topology.{links_of}
use Rattle.config_emit.specs.Laws.{IsPlan}
use Rattle.config_emit.specs.Plan.{Plan}

-- There are no more groups than routers.
abbrev pub GroupsAreNoMore : Type 0
GroupsAreNoMore = (e : Plan) → IsPlan e → e.count ≤ length e.network.routers

-- Between the groups there are no more links than in the network read.
abbrev pub GroupsHaveNoMoreLinks : Type 0
GroupsHaveNoMoreLinks = (e : Plan) → IsPlan e → length e.links ≤ length (links_of e.network)

-- So they are few.
abbrev pub GroupsHaveFewLinks : Type 0
GroupsHaveFewLinks = (e : Plan) → IsPlan e → length e.links ≤ 1048576
