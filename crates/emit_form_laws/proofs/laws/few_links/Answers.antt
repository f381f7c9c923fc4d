use Rattle.emit_form_laws.proofs.FewLinks as few_links
use Rattle.emit_form_laws.proofs.laws.few_links.Goals as goal

pub returns : goal.returns
returns c = few_links.few c.no_more_links.ensures c.few_links.ensures
