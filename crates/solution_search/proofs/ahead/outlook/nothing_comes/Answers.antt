use Rattle.std.proofs.Common.{◌≡◌, ◌<◌, ◌≤◌, All, List, length, None, ap, sym, ◌∙◌, subst, arith}
use Rattle.std.specs.Prelude.{Contains}
use Rattle.base_kit.specs.declared.act_graph.Edge.{Edge}
use Rattle.srp_core.specs.Problem.{Problem, IsProblem}
use Rattle.srp_core.specs.Stability.{label}
use Rattle.solution_search.specs.Boards.{case_of, state_of}
use Rattle.solution_search.specs.Outlooks.{GivesNothing, foreseen_at}
use Rattle.solution_search.proofs.Outlooking.{nothing_foreseen}
use Rattle.solution_search.proofs.Owned.{owned_more, owned_all}
use Rattle.solution_search.proofs.Sure.{edge_inside}
use Rattle.solution_search.proofs.ahead.outlook.nothing_comes.Goals as goal

pub edge_gives_nothing-requires : goal.edge_gives_nothing-requires
edge_gives_nothing-requires c =
    let P = c.args.lookups.now in
    let good = subst IsProblem c.lookups.view_is c.count-known.ensures.rules in
    let same = c.edges-edges.ensures ∙ ap (λ (p : Problem). p.edges) c.lookups.view_is in
    let own = c.own_edges-first.ensures in
    let end = own.inside in
    let d : Edge = record { importer = 0; exporter = 0; act = 0; link = 0 } in
    let e = edge_inside P good c.edges-edges.result.now same c.loop-place.place d (let t = c.loop-place-test.true in omega (arith, end, t)) in
    let forward : c.own_edges-first.result.0 ≤ c.loop-place.place = c.loop-place.auto.place in
    let imp = own.own c.loop-place.place d forward c.loop-place-test.true in
    record {
      board = c.requires.board;
      table = c.requires.table;
      exporter = e.exporter_in;
      importer = e.importer_in;
      act = e.act_in;
      unsettled = subst (λ v. label c.args.board.now.labels v ≡ None) (sym imp) c.requires.unsettled;
    }

pub loop-place-preserved : goal.loop-place-preserved
loop-place-preserved c =
    let end = c.own_edges-first.ensures.inside in
    let d : Edge = record { importer = 0; exporter = 0; act = 0; link = 0 } in
    let less : c.loop-place.place < length c.edges-edges.result.now = let t = c.loop-place-test.true in omega (arith, end, t) in
    owned_more c.edges-edges.result.now
    (λ (e : Edge). label c.args.board.now.labels e.exporter ≡ None →
    All (GivesNothing c.args.lookups.now (case_of (state_of c.args.board.now)) e) (foreseen_at c.args.outlook.now.table.items e.exporter))
    c.own_edges-first.result.0 c.loop-place.place d c.loop-place.invariant less
    (c.in_ok-edge_gives_nothing.ensures c.if-not-branch.false)

pub returns : goal.returns
returns c =
    let P = c.args.lookups.now in
    let good = subst IsProblem c.lookups.view_is c.count-known.ensures.rules in
    let edges = c.edges-edges.result.now in
    let same = c.edges-edges.ensures ∙ ap (λ (p : Problem). p.edges) c.lookups.view_is in
    let case = case_of (state_of c.args.board.now) in
    λ t without foresees. nothing_foreseen P good case without c.args.outlook.now.table.items foresees c.args.router
    (λ e i imp. owned_all edges
    (λ (e : Edge). label c.args.board.now.labels e.exporter ≡ None → All (GivesNothing P case e) (foreseen_at c.args.outlook.now.table.items e.exporter))
    c.args.router c.own_edges-first.result.0 c.own_edges-first.result.1 c.loop-place.place c.own_edges-first.ensures c.loop-place.invariant
    c.loop-place-test.false e (subst (λ (l : List Edge). Contains l e) (sym same) i) imp)
