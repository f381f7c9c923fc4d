use Rattle.spare_links.proofs.Staying.{stays}
use Rattle.spare_links.proofs.laws.spare_links_keep_verdicts.Goals as goal

pub returns : goal.returns
returns c = stays c.none_becomes_lone.ensures c.one_is_all.ensures c.no_tie_holds.ensures c.spare_links_bring_no_tie.ensures c.spare_links_keep_answers.ensures
