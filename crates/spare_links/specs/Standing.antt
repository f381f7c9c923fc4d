-- How routes over edges stand to the labels of their routers, where no router is lone.
use Rattle.std.specs.Prelude.{Bool, ◌&&◌, nat_eq, bytes_eq, List, Option, Some, None, if◌then◌else◌}
use Rattle.base_kit.specs.declared.act_graph.Edge.{Edge}
use Rattle.srp_core.specs.declared.route.Route.{Route}
use Rattle.srp_core.specs.Candidates.{over}
use Rattle.srp_core.specs.Problem.{Problem}
use Rattle.srp_core.specs.Routes.{preference_of, size_of, comms_of}
use Rattle.srp_core.specs.Stability.{label}
use Rattle.spare_links.specs.declared.standing.Standing.{Standing}
use Rattle.spare_links.specs.declared.standing.Standing.TheVariants.{Apart, Same, Tied}

-- whether two routes have one preference and one size
abbrev pub is_level : Route → Route → Bool
is_level candidate route = nat_eq (preference_of candidate) (preference_of route) && nat_eq (size_of candidate) (size_of route)

-- of a candidate to a label
abbrev pub standing_of : Route → Route → Standing
standing_of candidate route = if is_level candidate route then (if bytes_eq (comms_of candidate) (comms_of route) then Same else Tied) else Apart

-- of a candidate, if there is one, to a label, if there is one
abbrev pub standing_to : Option Route → Option Route → Standing
standing_to None label = Apart
standing_to (Some candidate) None = Apart
standing_to (Some candidate) (Some route) = standing_of candidate route

-- of what the edge gives its importer
abbrev pub standing_over : Problem → List (Option Route) → Edge → Standing
standing_over problem labels edge = standing_to (over problem labels edge) (label labels edge.importer)
