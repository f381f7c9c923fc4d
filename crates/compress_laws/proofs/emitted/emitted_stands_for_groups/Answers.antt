use Rattle.compress_laws.proofs.Stands as stands
use Rattle.compress_laws.proofs.emitted.emitted_stands_for_groups.Goals as goal

pub returns : goal.returns
returns c = stands.stands c.emitted_is_faultless.ensures c.emitted_has_problem.ensures c.faults_aside.ensures c.protocol_aside.ensures c.problem_aside.ensures
