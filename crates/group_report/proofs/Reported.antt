-- What is said of a report, from what is said of the same report.
use Rattle.std.proofs.Common.{ℕ, List}
use Rattle.cfg_ast.specs.declared.topology.Unmatched.{Unmatched}
use Rattle.abstract_net.specs.declared.qlink.QLink.{QLink}
use Rattle.srp_core.specs.Problem.{Problem}
use Rattle.group_report.specs.Reports.{Report, HasReport}

pub said_as : (A B : Report → Type 0) (number : ℕ) (problem : Problem) (before : ℕ) (groups : List ℕ) (links : List QLink) (unmatched : List Unmatched)
    → ((r : Report) → A r → B r) → HasReport A number problem before groups links unmatched → HasReport B number problem before groups links unmatched
said_as A B number problem before groups links unmatched more has = record { group_count = has.group_count; numbered = has.numbered; said = more _ has.said }
