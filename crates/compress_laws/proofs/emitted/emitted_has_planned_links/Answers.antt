use Rattle.std.proofs.Common.{◌∙◌}
use Rattle.compress_laws.proofs.emitted.emitted_has_planned_links.Goals as goal

pub returns : goal.returns
returns c = λ e plan n same. c.links_aside.ensures n _ same ∙ c.emitted_links.ensures e plan (c.emitted_is_faultless.ensures e plan)
