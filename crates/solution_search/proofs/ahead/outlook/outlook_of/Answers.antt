use Rattle.std.proofs.Common.{◌≡◌, ◌∙◌, inl, inr, ap, subst, arith}
use Rattle.std.proofs.lemmas.Bool.{cases_lt}
use Rattle.srp_core.specs.Problem.{Problem, count, IsProblem}
use Rattle.solution_search.specs.Boards.{case_of, state_of}
use Rattle.solution_search.specs.Outlooks.{Table, IsClosedAt}
use Rattle.solution_search.proofs.Outlooking.{closed_foresees}
use Rattle.solution_search.proofs.ahead.outlook.outlook_of.Goals as goal

pub loop-router-preserved : goal.loop-router-preserved
loop-router-preserved c = λ u less. elim (cases_lt u c.loop-router.router) [
  | inl old ↦ c.loop-router.invariant u old
  | inr new ↦
      let same : c.loop-router.router ≡ u = omega (arith, less, new) in
      subst (IsClosedAt c.args.lookups.now (case_of (state_of c.args.board.now)) c.args.without c.in_ok-table.table.items) same
      (subst
      (λ (table : Table). IsClosedAt c.args.lookups.now (case_of (state_of c.args.board.now)) c.args.without table c.loop-router.router)
      c.as_slice.ensures.value (c.in_ok-is_closed_at.ensures c.if-not-branch.false))
]

pub returns : goal.returns
returns c =
    let P = c.args.lookups.now in
    let good = subst IsProblem c.lookups.view_is c.count-router-end.ensures.rules in
    let total : c.count-router-end.result ≡ count P = c.count-router-end.ensures.count ∙ ap (λ (p : Problem). count p) c.lookups.view_is in
    let far = c.loop-router-test.false in
    closed_foresees P good (case_of (state_of c.args.board.now)) c.args.without c.in_ok-table.table.items
    (λ u less. c.loop-router.invariant u (omega (arith, less, far, total))) c.in_ok-table.ensures
