use Rattle.std.proofs.Common.{◌≡◌, ℕ, ◌<◌, All, List, length, get_or, ap, ◌∙◌, subst, arith, take_all, Vec, Global}
use Rattle.std.specs.Prelude.{Contains, filter_map}
use Rattle.std.proofs.lemmas.List.{get_or_default}
use Rattle.std.proofs.lemmas.List.Elements.{All-more}
use Rattle.refine_partition.specs.declared.imports.Import.{Import}
use Rattle.refine_partition.specs.Index.{import_from}
use Rattle.srp_core.specs.Problem.{Problem, count, IsProblem}
use Rattle.solution_search.specs.Boards.{case_of, state_of}
use Rattle.solution_search.specs.Outlooks.{IsFollowedOver}
use Rattle.solution_search.proofs.Giving.{import_inside, listed_edge}
use Rattle.solution_search.proofs.Outlooking.{all_in, followed_all}
use Rattle.solution_search.proofs.ahead.outlook.is_followed.Goals as goal

listed_at : (items : List Import) (i : ℕ) (d : Import) → i < length items → Contains items (get_or items i d)
listed_at items i d h = (i, h, get_or_default items i (get_or items i d) d h)

pub loop-import-init : goal.loop-import-init
loop-import-init c =
    let tables = c.lookups.invariant.1 in
    let total = tables.total in
    let inside = c.requires.exporter in
    let same : count c.lookups.inside.srp.now ≡ count c.args.lookups.now = ap (λ (p : Problem). count p) c.lookups.view_is in
    record {
      all = c.deref-import-items.ensures.value ∙ ap (λ (v : Vec Import Global). v.items) c.index.ensures
          ∙ tables.index.each c.args.exporter c.index.result.now (omega (arith, total, inside, same))
          ∙ ap (λ (p : Problem). filter_map (import_from c.args.exporter) p.edges) c.lookups.view_is;
      followed = λ k d less. absurd (omega (arith, less));
    }

pub loop-import-preserved : goal.loop-import-preserved
loop-import-preserved c =
    let items = c.deref-import-items.result.now in
    let d : Import = record { importer = 0; act = 0 } in
    record {
      all = c.loop-import.invariant.all;
      followed = All-more
          (λ (i : Import). IsFollowedOver c.args.lookups.now
          (case_of (state_of c.args.board.now)) c.args.without c.args.table.now i.importer i.act c.args.from.now)
          items c.loop-import.import-index d c.loop-import-test.true c.loop-import.invariant.followed
          (c.in_ok-is_followed_over.ensures c.if-not-branch.false);
    }

pub is_followed_over-requires : goal.is_followed_over-requires
is_followed_over-requires c =
    let good = subst IsProblem c.lookups.view_is c.count-known.ensures.rules in
    let items = c.deref-import-items.result.now in
    let d : Import = record { importer = 0; act = 0 } in
    let i = get_or items c.loop-import.import-index d in
    let e = listed_edge c.args.lookups.now good c.args.exporter items i c.loop-import.invariant.all
    (listed_at items c.loop-import.import-index d c.loop-import-test.true) in
    let ends = import_inside c.args.lookups.now good c.args.exporter i e.0 e.1 e.2 in
    record { board = c.requires.board; table = c.requires.table; importer = ends.0; act = ends.1 }

pub returns : goal.returns
returns c =
    let P = c.args.lookups.now in
    let good = subst IsProblem c.lookups.view_is c.count-known.ensures.rules in
    let items = c.deref-import-items.result.now in
    let case = case_of (state_of c.args.board.now) in
    λ t. followed_all P good case c.args.without c.args.table.now c.args.exporter c.args.from.now items c.loop-import.invariant.all
    (λ i at. all_in (λ (k : Import). IsFollowedOver P case c.args.without c.args.table.now k.importer k.act c.args.from.now) items i
    (subst (All (λ (k : Import). IsFollowedOver P case c.args.without c.args.table.now k.importer k.act c.args.from.now))
    (take_all c.loop-import.import-index items c.loop-import-test.false) c.loop-import.invariant.followed) at)
