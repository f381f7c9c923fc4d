use Rattle.emit_origin_laws.proofs.Origins.{originate}
use Rattle.emit_origin_laws.proofs.laws.groups_originate.Goals as goal

pub returns : goal.returns
returns c = originate c.few_links.ensures
