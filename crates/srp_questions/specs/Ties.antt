-- Whether a route has the key of a label.
use Rattle.std.specs.Prelude.{ℕ, Bool, false, ◌&&◌, fold, List, [], Option, Some, None, nat_eq, bytes_eq, if◌then◌else◌}
use Rattle.base_kit.specs.Sets.{with_number}
use Rattle.base_kit.specs.declared.act_graph.Edge.{Edge}
use Rattle.srp_core.specs.declared.route.Route.{Route}
use Rattle.srp_core.specs.Candidates.{over}
use Rattle.srp_core.specs.Problem.{Problem, key_of}
use Rattle.srp_core.specs.Routes.{Key}

-- whether two keys are equal
abbrev pub same_key : Key → Key → Bool
same_key a b = nat_eq a.preference b.preference && (nat_eq a.size b.size && (bytes_eq a.comms b.comms && bytes_eq a.lone b.lone))

-- whether there is a candidate, and it has the key of the route
abbrev pub has_key_of : Problem → Route → Option Route → Bool
has_key_of problem route None = false
has_key_of problem route (Some candidate) = same_key (key_of problem candidate) (key_of problem route)

-- the exporter of the edge put among these, if what the edge gives has the key of the route
abbrev pub with_tied : Problem → List (Option Route) → Route → List ℕ → Edge → List ℕ
with_tied problem labels route found edge = if has_key_of problem route (over problem labels edge) then with_number edge.exporter found else found

-- the exporters of those of the edges that give a route of that key
abbrev pub tied_exporters : Problem → List (Option Route) → Route → List Edge → List ℕ
tied_exporters problem labels route edges = fold (with_tied problem labels route) [] edges
