use Rattle.emit_form_laws.proofs.FewLinks as few_links
use Rattle.emit_form_laws.proofs.laws.no_more_links.Goals as goal

pub returns : goal.returns
returns c = few_links.no_more_links c.no_more_links.ensures
