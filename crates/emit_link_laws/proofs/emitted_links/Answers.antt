use Rattle.emit_link_laws.proofs.Links.{emitted_links}
use Rattle.emit_link_laws.proofs.emitted_links.Goals as goal

pub returns : goal.returns
returns c = emitted_links c.quotient_carries.ensures
