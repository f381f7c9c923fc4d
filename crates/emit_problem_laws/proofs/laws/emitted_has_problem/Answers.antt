use Rattle.emit_problem_laws.proofs.Problem.{emitted_has_problem}
use Rattle.emit_problem_laws.proofs.laws.emitted_has_problem.Goals as goal

pub returns : goal.returns
returns c = emitted_has_problem c.quotient_is_problem.ensures c.few_links.ensures c.groups_originate.ensures c.quotient_carries.ensures
    c.sessions_import_acts.ensures c.emitted_links.ensures
