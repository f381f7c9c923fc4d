use Rattle.std.proofs.Common.{◌≡◌, drop}
use Rattle.std.specs.List.{list_any}
use Rattle.srp_questions.specs.Walks.{is_marked}
use Rattle.srp_questions.proofs.walks.is_any_marked.Given as goal

-- some of those that are left are marked where some of all are
abbrev pub invariant-loop-router : goal.invariant-loop-router
invariant-loop-router l = list_any (is_marked l.marks) (drop l.router-index l.router-items) ≡ list_any (is_marked l.marks) l.router-items
