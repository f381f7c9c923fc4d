use Rattle.canon_policy.proofs.ListLaws.{import_alike}
use Rattle.canon_policy.proofs.laws.canonical_lists_import_alike.Goals as goal

pub returns : goal.returns
returns c = import_alike
