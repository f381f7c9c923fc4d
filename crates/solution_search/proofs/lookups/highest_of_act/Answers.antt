use Rattle.std.proofs.Common.{sym, subst}
use Rattle.srp_core.specs.declared.route.Act.{Act}
use Rattle.solution_search.specs.Lookups.{IsHighest}
use Rattle.solution_search.proofs.Highest.{import_highest, cost_highest}
use Rattle.solution_search.proofs.lookups.highest_of_act.Goals as goal

pub returns-in-Import : goal.returns-in-Import
returns-in-Import c = subst (λ (a : Act). IsHighest a c.highest_of_map.result) (sym c.in-Import.is)
    (import_highest c.highest_of_map.result c.in-Import.out c.in-Import.sends c.in-Import.into c.highest_of_map.ensures)

pub returns-in-Cost : goal.returns-in-Cost
returns-in-Cost c = subst (λ (a : Act). IsHighest a 0) (sym c.in-Cost.is) (cost_highest c.in-Cost.field-0)
