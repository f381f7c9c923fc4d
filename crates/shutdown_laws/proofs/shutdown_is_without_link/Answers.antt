use Rattle.shutdown_laws.proofs.OneLinkShut.{without_link}
use Rattle.shutdown_laws.proofs.shutdown_is_without_link.Goals as goal

pub returns : goal.returns
returns c = without_link c.neighbor_ends_one_link.ensures
