use Rattle.canon_policy.proofs.ListLaws.{two_universes}
use Rattle.canon_policy.proofs.laws.universe_does_not_matter.Goals as goal

pub returns : goal.returns
returns c = two_universes
