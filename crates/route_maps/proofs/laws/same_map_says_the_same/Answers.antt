use Rattle.route_maps.proofs.SameVerdicts.{same_verdict}
use Rattle.route_maps.proofs.laws.same_map_says_the_same.Goals as goal

pub returns : goal.returns
returns c = λ a b comms same. same_verdict a b comms same
