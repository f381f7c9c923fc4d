use Rattle.emit_form_laws.proofs.Routers as routers
use Rattle.emit_form_laws.proofs.laws.emitted_can_be_printed.Goals as goal

pub returns : goal.returns
returns c = routers.can_be_printed c.few_links.ensures c.quotient_carries.ensures c.short_names_give_short_lines.ensures
