-- The report on a grouping is that on the plan of its class.
use Rattle.std.proofs.Common.{◌≡◌, ℕ, List, ◌++◌, length, refl, sym, ap, ◌∙◌, subst}
use Rattle.base_kit.specs.Partition.{IsNumbered}
use Rattle.cfg_ast.specs.declared.network.Network.{Network}
use Rattle.cfg_ast.specs.declared.classes.DestClass.{DestClass}
use Rattle.cfg_ast.specs.meaning.Topology.{links_of, unmatched_of}
use Rattle.cfg_ast.specs.declared.topology.Unmatched.{Unmatched}
use Rattle.abstract_net.specs.Links.{quotient_links}
use Rattle.compress_laws.specs.Built.{IsPlanOf}
use Rattle.srp_build.specs.Built.{IsBuiltFor}
use Rattle.srp_core.specs.Problem.{Problem, count}
use Rattle.srp_core.specs.Quotient.{IsCoarsest}
use Rattle.driver.specs.declared.grouping.Grouping.{Grouping}
use Rattle.driver.specs.Steps.{IsGroupingOf}
use Rattle.driver.proofs.Emitting.{plan_by}
use Rattle.group_report.specs.Reports.{Report, HasReport, count_line}
use Rattle.answer_kit.specs.Outcome.{done}
use Rattle.answer_reports.specs.ReportAnswers.{IsReported}
use Rattle.answer_reports.specs.Summaries.{HasLineOf}

is_plan : (network : Network) (class : DestClass) (problem : Problem) (g : Grouping) (count : ℕ) → IsBuiltFor network class problem → IsGroupingOf problem g
    → IsNumbered g.groups count → IsPlanOf network class (plan_by network class g count)
is_plan network class problem g count built is numbered = record {
  network_is = refl;
  class_is = refl;
  built = subst (IsBuiltFor network class) (sym is.problem_is) built;
  coarsest = is.coarsest;
  numbered = numbered;
  links = is.links count numbered;
}

pub reported : (text : Report → List ℕ) (network : Network) (number : ℕ) (class : DestClass) (problem : Problem) (g : Grouping)
    (before : ℕ) (neighbors : List Unmatched) (bytes : List ℕ)
    → IsBuiltFor network class problem → IsGroupingOf problem g
    → before ≡ length (links_of network) → neighbors ≡ unmatched_of network
    → HasReport (λ r. bytes ≡ text r) number g.problem before g.groups g.quotient.links neighbors → IsReported text network number class (done bytes)
reported text network number class problem g before neighbors bytes built is links those has = record {
  plan = plan_by network class g has.group_count;
  is = is_plan network class problem g has.group_count built is has.numbered;
  written = ap done (has.said ∙ (λ j. text (record {
    class_number = number;
    problem = g.problem;
    links_before = links j;
    groups = g.groups;
    group_count =
        has.group_count;
    links = g.quotient.links;
    unmatched = those j;
  })));
}

-- the line of the counts of the coarsest groups, whose links are only counted, is that of the plan of the class
pub counted : (network : Network) (number : ℕ) (class : DestClass) (problem : Problem) (groups : List ℕ) (routers before group_count after : ℕ)
    (old new : List ℕ)
    → IsBuiltFor network class problem → IsCoarsest problem groups → IsNumbered groups group_count
    → routers ≡ count problem → before ≡ length (links_of network) → after ≡ length (quotient_links problem.edges groups group_count)
    → new ≡ old ++ count_line number routers before group_count after → HasLineOf network number class old new
counted network number class problem groups routers before group_count after old new built coarsest numbered same_routers same_before same_after line = record {
  plan = record {
    network = network;
    class = class;
    problem = problem;
    groups = groups;
    count = group_count;
    links =
        quotient_links problem.edges groups group_count;
  };
  is = record { network_is = refl; class_is = refl; built = built; coarsest = coarsest; numbered = numbered; links = refl };
  line = line ∙ (λ j. old ++ count_line number (same_routers j) (same_before j) group_count (same_after j));
}
