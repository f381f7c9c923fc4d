use Rattle.std.proofs.Common.{◌≡◌, ℕ, ◌<◌, List, length, get_or, ap, ◌∙◌, subst, arith, Vec, Global}
use Rattle.std.specs.Prelude.{Contains, filter_map}
use Rattle.std.proofs.lemmas.List.{get_or_default}
use Rattle.refine_partition.specs.declared.imports.Import.{Import}
use Rattle.refine_partition.specs.Index.{import_from}
use Rattle.srp_core.specs.Problem.{Problem, count, IsProblem}
use Rattle.solution_search.proofs.Giving.{import_inside, listed_edge}
use Rattle.solution_search.proofs.ahead.growing.follow.Goals as goal

listed_at : (items : List Import) (i : ℕ) (d : Import) → i < length items → Contains items (get_or items i d)
listed_at items i d h = (i, h, get_or_default items i (get_or items i d) d h)

pub loop-import-init : goal.loop-import-init
loop-import-init c =
    let tables = c.lookups.invariant.1 in
    let total = tables.total in
    let inside = c.requires.exporter in
    let same : count c.lookups.inside.srp.now ≡ count c.args.lookups.now = ap (λ (p : Problem). count p) c.lookups.view_is in
    record {
      all = c.deref-import-items.ensures.value ∙ ap (λ (v : Vec Import Global). v.items) c.index.ensures
          ∙ tables.index.each c.args.exporter c.index.result.now (omega (arith, total, inside, same))
          ∙ ap (λ (p : Problem). filter_map (import_from c.args.exporter) p.edges) c.lookups.view_is;
      growing = c.requires.growing;
    }

pub loop-import-preserved : goal.loop-import-preserved
loop-import-preserved c = record { all = c.loop-import.invariant.all; growing = c.in_ok-follow_edge.ensures }

pub follow_edge-requires : goal.follow_edge-requires
follow_edge-requires c =
    let good = subst IsProblem c.lookups.view_is c.count-known.ensures.rules in
    let items = c.deref-import-items.result.now in
    let d : Import = record { importer = 0; act = 0 } in
    let i = get_or items c.loop-import.import-index d in
    let e = listed_edge c.args.lookups.now good c.args.exporter items i c.loop-import.invariant.all
    (listed_at items c.loop-import.import-index d c.loop-import-test.true) in
    let ends = import_inside c.args.lookups.now good c.args.exporter i e.0 e.1 e.2 in
    record { fits = c.requires.fits; importer = ends.0; act = ends.1; growing = c.loop-import.invariant.growing }
