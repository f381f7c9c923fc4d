use Rattle.std.proofs.Common.{nat_eq, ◌∙◌}
use Rattle.std.specs.HashSet.{contains}
use Rattle.route_keys.proofs.LonePaths.{chosen_is}
use Rattle.route_keys.proofs.lone.chosen.Goals as goal

pub returns : goal.returns
returns c = chosen_is (contains nat_eq c.args.numbers.now) c.args.path.now c.as_set.result c.as_set.ensures.ascending
    (λ n. c.as_set.ensures.members n ∙ c.in_ok-found.ensures n)
