use Rattle.std.proofs.Common.{◌≡◌, map, take, nat_eq}
use Rattle.std.specs.HashSet.{contains}
use Rattle.route_offers.specs.Lone.{chosen_on_path}
use Rattle.route_offers.proofs.lone.lone_paths.Given as goal

abbrev pub invariant-loop-label : goal.invariant-loop-label
invariant-loop-label l = l.paths ≡ map (chosen_on_path (contains nat_eq l.numbers)) (take l.label-index l.labels)
