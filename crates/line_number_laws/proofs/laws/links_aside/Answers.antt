use Rattle.line_number_laws.proofs.Links as links
use Rattle.line_number_laws.proofs.laws.links_aside.Goals as goal

pub returns : goal.returns
returns c = links.aside
