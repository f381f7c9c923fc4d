use Rattle.answer_groups.proofs.CanonLaws.{alike_across, alike_edges}
use Rattle.answer_groups.proofs.laws.alike_edges_have_one_act.Goals as goal

pub returns-clause-one : goal.returns-clause-one
returns-clause-one c = alike_edges c.equal_functions_have_equal_lists.ensures

pub returns-clause-across : goal.returns-clause-across
returns-clause-across c = alike_across c.built_fits.ensures c.alike_acts_are_written_alike.ensures
