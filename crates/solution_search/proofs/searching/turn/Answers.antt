use Rattle.std.proofs.Common.{◌≡◌, ◌++◌, ◌∷◌, [], false, rules, subst}
use Rattle.srp_core.specs.Problem.{IsProblem}
use Rattle.solution_search.proofs.Turning.{settled_searched, dead_left, dead_searched, solved_left, solved_searched, gone_board, gone_turned, stops}
use Rattle.solution_search.proofs.searching.turn.Goals as goal

pub returns-in-Settled-clause-turned : goal.returns-in-Settled-clause-turned
returns-in-Settled-clause-turned g c =
    let P = c.args.lookups.now in
    let good = subst IsProblem c.lookups.view_is c.count-routers.ensures.rules in
    let old = c.args.board.now in
    let mid = c.advance.new.board in
    let look = c.in_ok-advance.field-0 in
    let left = c.in_ok-advance.ensures.steps.left in
    let lighter = c.in_ok-advance.ensures.steps.lighter in
    let looked = c.in_ok-advance.ensures.steps.looked in
    λ found saw searched. (found, saw, settled_searched P good old mid look left lighter looked c.in-Settled.is found searched)

pub returns-in_ok-ending-in-Dead-clause-board : goal.returns-in_ok-ending-in-Dead-clause-board
returns-in_ok-ending-in-Dead-clause-board g c =
    let P = c.args.lookups.now in
    let good = subst IsProblem c.lookups.view_is c.count-routers.ensures.rules in
    let old = c.args.board.now in
    let mid = c.advance.new.board in
    let look = c.in_ok-advance.field-0 in
    let left = c.in_ok-advance.ensures.steps.left in
    let lighter = c.in_ok-advance.ensures.steps.lighter in
    let looked = c.in_ok-advance.ensures.steps.looked in
    let put_off = dead_left P good old mid look left lighter looked c.in-Dead.is in
    let new = c.go_back.new.board in
    let back = c.in_ok-ending-in-Dead.ensures in
    gone_board P good mid new put_off back.tie back.fits c.in_ok-ending-in-Dead.ending back.pending

pub returns-in_ok-ending-in-Dead-clause-turned : goal.returns-in_ok-ending-in-Dead-clause-turned
returns-in_ok-ending-in-Dead-clause-turned g c =
    let P = c.args.lookups.now in
    let good = subst IsProblem c.lookups.view_is c.count-routers.ensures.rules in
    let old = c.args.board.now in
    let mid = c.advance.new.board in
    let look = c.in_ok-advance.field-0 in
    let left = c.in_ok-advance.ensures.steps.left in
    let lighter = c.in_ok-advance.ensures.steps.lighter in
    let looked = c.in_ok-advance.ensures.steps.looked in
    let put_off = dead_left P good old mid look left lighter looked c.in-Dead.is in
    let new = c.go_back.new.board in
    let back = c.in_ok-ending-in-Dead.ensures in
    λ found saw searched. (
      found,
      saw,
      gone_turned P good mid new put_off back.tie back.fits c.in_ok-ending-in-Dead.ending back.pending found (g.V.Visitor.wants c.args.visitor.now)
          (dead_searched P good old mid look left lighter looked c.in-Dead.is found searched),
    )

pub returns-in_ok-ending-in-Solved-clause-board : goal.returns-in_ok-ending-in-Solved-clause-board
returns-in_ok-ending-in-Solved-clause-board g c =
    let P = c.args.lookups.now in
    let good = subst IsProblem c.lookups.view_is c.count-routers.ensures.rules in
    let old = c.args.board.now in
    let mid = c.advance.new.board in
    let look = c.in_ok-advance.field-0 in
    let left = c.in_ok-advance.ensures.steps.left in
    let lighter = c.in_ok-advance.ensures.steps.lighter in
    let looked = c.in_ok-advance.ensures.steps.looked in
    let put_off = (solved_left P good old mid look left lighter looked c.in-Solved.is).0 in
    let new = c.go_back-in-Solved.new.board in
    let back = c.in_ok-ending-in-Solved.ensures in
    gone_board P good mid new put_off back.tie back.fits c.in_ok-ending-in-Solved.ending back.pending

pub returns-in_ok-ending-in-Solved-clause-turned : goal.returns-in_ok-ending-in-Solved-clause-turned
returns-in_ok-ending-in-Solved-clause-turned g c =
    let P = c.args.lookups.now in
    let good = subst IsProblem c.lookups.view_is c.count-routers.ensures.rules in
    let old = c.args.board.now in
    let mid = c.advance.new.board in
    let look = c.in_ok-advance.field-0 in
    let left = c.in_ok-advance.ensures.steps.left in
    let lighter = c.in_ok-advance.ensures.steps.lighter in
    let looked = c.in_ok-advance.ensures.steps.looked in
    let put_off = (solved_left P good old mid look left lighter looked c.in-Solved.is).0 in
    let new = c.go_back-in-Solved.new.board in
    let back = c.in_ok-ending-in-Solved.ensures in
    λ found saw searched. (
      found ++ mid.labels ∷ [],
      c.in_ok-see-in-Solved.ensures.saw found saw,
      gone_turned P good mid new put_off back.tie back.fits c.in_ok-ending-in-Solved.ending back.pending (found ++ mid.labels ∷ [])
          (g.V.Visitor.wants c.see.new.self) (solved_searched P good old mid look left lighter looked c.in-Solved.is found searched),
    )

pub returns-then-not-wants_more-clause-turned : goal.returns-then-not-wants_more-clause-turned
returns-then-not-wants_more-clause-turned g c =
    let P = c.args.lookups.now in
    let good = subst IsProblem c.lookups.view_is c.count-routers.ensures.rules in
    let old = c.args.board.now in
    let mid = c.advance.new.board in
    let look = c.in_ok-advance.field-0 in
    let left = c.in_ok-advance.ensures.steps.left in
    let lighter = c.in_ok-advance.ensures.steps.lighter in
    let looked = c.in_ok-advance.ensures.steps.looked in
    let put_off = (solved_left P good old mid look left lighter looked c.in-Solved.is).0 in
    let no : g.V.Visitor.wants c.see.new.self ≡ false = search rules in
    λ found saw searched. (
      found ++ mid.labels ∷ [],
      c.in_ok-see-in-Solved.ensures.saw found saw,
      stops P good mid put_off (found ++ mid.labels ∷ []) (g.V.Visitor.wants c.see.new.self) no
          (solved_searched P good old mid look left lighter looked c.in-Solved.is found searched),
    )
