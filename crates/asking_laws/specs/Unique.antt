-- Problems with one solution.
use Rattle.std.specs.Prelude.{◌≡◌, [], ◌∷◌, List, Option}
use Rattle.base_kit.specs.declared.protocol.Protocol.TheVariants.{Ospf as OverOspf}
use Rattle.route_run.specs.Rounds.{HasNoLone}
use Rattle.srp_core.specs.declared.route.Route.{Route}
use Rattle.srp_core.specs.Problem.{Problem, IsProblem}
use Rattle.srp_core.specs.Solutions.{HaveEqualKeys, AreAllSolutions}
use Rattle.srp_core.specs.Stability.{IsStable}

-- Where no router is lone any two stable labels have equal keys.
abbrev pub SolutionsAreOne : Type 0
SolutionsAreOne = (problem : Problem) (first second : List (Option Route)) → IsProblem problem → HasNoLone problem → IsStable problem first
    → IsStable problem second → HaveEqualKeys problem first second

-- In OSPF no router is lone.
abbrev pub OspfHasNoLone : Type 0
OspfHasNoLone = (problem : Problem) → IsProblem problem → problem.protocol ≡ OverOspf → HasNoLone problem

-- So stable labels are a whole list of solutions where no router is lone.
abbrev pub OneIsAll : Type 0
OneIsAll = (problem : Problem) (labels : List (Option Route)) → IsProblem problem → HasNoLone problem → IsStable problem labels
    → AreAllSolutions problem (labels ∷ [])

pub record HasSolution (problem : Problem) : Type 0 where
  pub labels : List (Option Route)
  pub stable : IsStable problem labels

-- Where no router is lone there are stable labels.
abbrev pub OneExists : Type 0
OneExists = (problem : Problem) → IsProblem problem → HasNoLone problem → HasSolution problem
