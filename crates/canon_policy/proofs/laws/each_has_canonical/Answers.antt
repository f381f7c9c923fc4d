use Rattle.canon_policy.proofs.Exists.{each_has_canonical}
use Rattle.canon_policy.proofs.laws.each_has_canonical.Goals as goal

pub returns : goal.returns
returns c = each_has_canonical
