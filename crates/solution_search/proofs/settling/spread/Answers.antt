use Rattle.std.proofs.Common.{◌≡◌, ℕ, ◌<◌, List, length, get_or, take, ap, sym, ◌∙◌, subst, arith, take_all, Vec, Global}
use Rattle.std.specs.Prelude.{Contains, filter_map}
use Rattle.std.proofs.lemmas.List.{get_or_default, take_more}
use Rattle.refine_partition.specs.declared.imports.Import.{Import}
use Rattle.refine_partition.specs.Index.{import_from}
use Rattle.srp_core.specs.Problem.{Problem, count, IsProblem}
use Rattle.solution_search.specs.Settled.{HasGiven}
use Rattle.solution_search.proofs.Giving.{import_inside, listed_edge, Spread, spread_none, spread_more, spread_upset, spread_all}
use Rattle.solution_search.proofs.settling.spread.Goals as goal

listed_at : (items : List Import) (i : ℕ) (d : Import) → i < length items → Contains items (get_or items i d)
listed_at items i d h = (i, h, get_or_default items i (get_or items i d) d h)

pub loop-import-init : goal.loop-import-init
loop-import-init c =
    let good = subst IsProblem c.lookups.view_is c.count-known.ensures.rules in
    let tables = c.lookups.invariant.1 in
    let total = tables.total in
    let inside = c.requires.router in
    let same : count c.lookups.inside.srp.now ≡ count c.args.lookups.now = ap (λ (p : Problem). count p) c.lookups.view_is in
    record {
      all = c.deref-import-items.ensures.value ∙ ap (λ (v : Vec Import Global). v.items) c.index.ensures
          ∙ tables.index.each c.args.router c.index.result.now (omega (arith, total, inside, same))
          ∙ ap (λ (p : Problem). filter_map (import_from c.args.router) p.edges) c.lookups.view_is;
      spread = spread_none c.args.lookups.now good c.args.board.now c.args.router c.requires.fits;
      queued = λ q. q;
    }

pub loop-import-preserved : goal.loop-import-preserved
loop-import-preserved c =
    let good = subst IsProblem c.lookups.view_is c.count-known.ensures.rules in
    let items = c.deref-import-items.result.now in
    let d : Import = record { importer = 0; act = 0 } in
    let i = get_or items c.loop-import.import-index d in
    let e = listed_edge c.args.lookups.now good c.args.router items i c.loop-import.invariant.all
    (listed_at items c.loop-import.import-index d c.loop-import-test.true) in
    let given = subst (HasGiven c.args.lookups.now c.loop-import.board c.give.new.board c.args.router i) c.in-Fine.is c.in_ok-give.ensures.given in
    record {
      all = c.loop-import.invariant.all;
      spread = subst (Spread c.args.lookups.now c.args.board.now c.give.new.board c.args.router)
          (sym (take_more items c.loop-import.import-index d c.loop-import-test.true))
          (spread_more c.args.lookups.now good c.args.board.now c.loop-import.board c.give.new.board c.args.router
          (take c.loop-import.import-index items) i e.0 e.1 e.2
          c.loop-import.invariant.spread given);
      queued = λ q. c.in_ok-give.ensures.queued (c.loop-import.invariant.queued q);
    }

pub give-requires : goal.give-requires
give-requires c =
    let good = subst IsProblem c.lookups.view_is c.count-known.ensures.rules in
    let items = c.deref-import-items.result.now in
    let d : Import = record { importer = 0; act = 0 } in
    let i = get_or items c.loop-import.import-index d in
    let e = listed_edge c.args.lookups.now good c.args.router items i c.loop-import.invariant.all
    (listed_at items c.loop-import.import-index d c.loop-import-test.true) in
    let ends = import_inside c.args.lookups.now good c.args.router i e.0 e.1 e.2 in
    let so_far = c.loop-import.invariant.spread in
    record { fits = so_far.fits; router = c.requires.router; importer = ends.0; act = ends.1 }

pub returns-clause-spread : goal.returns-clause-spread
returns-clause-spread c =
    let good = subst IsProblem c.lookups.view_is c.count-known.ensures.rules in
    let items = c.deref-import-items.result.now in
    spread_all c.args.lookups.now good c.args.board.now c.loop-import.board c.args.router (take c.loop-import.import-index items) c.requires.router
    (take_all c.loop-import.import-index items c.loop-import-test.false ∙ c.loop-import.invariant.all) c.loop-import.invariant.spread

pub returns-in-Upset-clause-spread : goal.returns-in-Upset-clause-spread
returns-in-Upset-clause-spread c =
    let good = subst IsProblem c.lookups.view_is c.count-known.ensures.rules in
    let items = c.deref-import-items.result.now in
    let d : Import = record { importer = 0; act = 0 } in
    let i = get_or items c.loop-import.import-index d in
    let e = listed_edge c.args.lookups.now good c.args.router items i c.loop-import.invariant.all
    (listed_at items c.loop-import.import-index d c.loop-import-test.true) in
    let given = subst (HasGiven c.args.lookups.now c.loop-import.board c.give.new.board c.args.router i) c.in-Upset.is c.in_ok-give.ensures.given in
    spread_upset c.args.lookups.now good c.args.board.now c.loop-import.board c.give.new.board c.args.router
    (take c.loop-import.import-index items) i e.0 e.1 e.2
    c.loop-import.invariant.spread given
