use Rattle.std.proofs.Common.{◌≡◌, ℕ, ◌<◌, List, length, get_or, ap, sym, ◌∙◌, subst, arith, length-set, true, false, refl, Vec, Global}
use Rattle.std.specs.Prelude.{Contains, filter_map}
use Rattle.std.proofs.lemmas.List.{get_or_default}
use Rattle.refine_partition.specs.declared.imports.Import.{Import}
use Rattle.refine_partition.specs.Index.{import_from}
use Rattle.srp_core.specs.Problem.{Problem, count, IsProblem}
use Rattle.route_run.specs.Rests.{is_at_rest}
use Rattle.route_run.proofs.KnownRests.{importer_inside, set_unmarked, woken_more, has_woken}
use Rattle.route_run.proofs.activation.Runner.wake.Goals as goal

listed_at : (items : List Import) (i : ℕ) (d : Import) → i < length items → Contains items (get_or items i d)
listed_at items i d h = (i, h, get_or_default items i (get_or items i d) d h)

abbrev none : Import
none = record { importer = 0; act = 0 }

pub loop-import-init : goal.loop-import-init
loop-import-init c =
    let exports = c.self.invariant.1 in
    let total = exports.total in
    let inside = c.requires.router in
    let same : count c.self.inside.srp.now ≡ count c.args.self.now = ap (λ (p : Problem). count p) c.self.view_is in
    record {
      all = c.deref-import-items.ensures.value ∙ ap (λ (v : Vec Import Global). v.items) c.index.ensures
          ∙ exports.index.each c.args.router c.index.result.now (omega (arith, total, inside, same))
          ∙ ap (λ (p : Problem). filter_map (import_from c.args.router) p.edges) c.self.view_is;
      total = refl;
      still = λ u t. t;
      woken = λ k d h. absurd (omega (arith, h));
    }

pub index_mut-requires : goal.index_mut-requires
index_mut-requires c =
    let items = c.deref-import-items.result.now in
    let inside = importer_inside c.args.self.now c.count-known.ensures.rules c.args.router items c.loop-import.import-index none c.loop-import.invariant.all
    (listed_at items c.loop-import.import-index none c.loop-import-test.true) in
    let total = c.loop-import.invariant.total in
    let marks = c.requires.total in
    omega (arith, inside, total, marks)

pub loop-import-preserved : goal.loop-import-preserved
loop-import-preserved c =
    let items = c.deref-import-items.result.now in
    let i = get_or items c.loop-import.import-index none in
    let inside = importer_inside c.args.self.now c.count-known.ensures.rules c.args.router items c.loop-import.import-index none c.loop-import.invariant.all
    (listed_at items c.loop-import.import-index none c.loop-import-test.true) in
    let total = c.loop-import.invariant.total in
    let marks = c.requires.total in
    record {
      all = c.loop-import.invariant.all;
      total = length-set c.loop-import.rests.items i.importer false ∙ total;
      still = λ u t. c.loop-import.invariant.still u (set_unmarked c.loop-import.rests.items i.importer u t);
      woken = woken_more c.loop-import.rests.items items c.loop-import.import-index i (omega (arith, inside, total, marks)) c.loop-import-test.true
          (sym (get_or_default items c.loop-import.import-index i none c.loop-import-test.true)) c.loop-import.invariant.woken;
    }

pub returns : goal.returns
returns c =
    let items = c.deref-import-items.result.now in
    has_woken c.args.self.now c.args.router c.args.rests.now.items c.loop-import.rests.items items c.loop-import.import-index
    c.loop-import.invariant.total c.loop-import.invariant.still c.loop-import.invariant.all c.loop-import-test.false c.loop-import.invariant.woken
