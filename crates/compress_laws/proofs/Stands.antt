-- What a network stands for if it is the network of the groups except for line numbers.
use Rattle.line_number_laws.specs.Laws.{FaultsAside, ProblemAside, ProtocolAside}
use Rattle.config_emit.specs.Emitted.{emitted}
use Rattle.config_emit.specs.Laws.{EmittedStandsForGroups}
use Rattle.config_emit.specs.Plan.{small}
use Rattle.emit_fault_laws.specs.Laws.{EmittedIsFaultless}
use Rattle.emit_problem_laws.specs.Laws.{EmittedHasProblem}

pub stands : EmittedIsFaultless → EmittedHasProblem → FaultsAside → ProtocolAside → ProblemAside → EmittedStandsForGroups
stands faultless has_problem faults protocol problem e plan n same =
    let none = faultless e plan in
    record {
      faultless = faults n (emitted e) same none;
      problem = λ p p_in. problem n (emitted e) p (small e) same (protocol n (emitted e) same none) (has_problem e plan none p p_in);
    }
