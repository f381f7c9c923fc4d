use Rattle.std.proofs.Common.{rules, ◌≡◌, ◌<◌, List, length, Some, ap, sym, ◌∙◌, subst, arith, Option, None}
use Rattle.std.specs.Prelude.{slice_index_or}
use Rattle.std.proofs.lemmas.List.{get_or_default}
use Rattle.srp_core.specs.declared.route.Route.{Route}
use Rattle.srp_core.specs.Problem.{IsProblem}
use Rattle.srp_core.specs.Stability.{label}
use Rattle.solution_search.specs.Boards.{best_at}
use Rattle.solution_search.proofs.Giving.{beaten_by_best, beaten_by_own}
use Rattle.solution_search.proofs.settling.is_beaten.Goals as goal

pub returns-in-Some-as_slice : goal.returns-in-Some-as_slice
returns-in-Some-as_slice c = λ t.
    let labelled : label c.args.board.now.labels c.args.router ≡ Some c.in-Some.from =
    get_or_default c.args.board.now.labels c.args.router None c.index-as_slice-router.result
    (let r = c.requires.router in let f = c.requires.fits.labels in omega (arith, r, f))
    ∙ sym (c.index-as_slice-router.is ∙ ap (λ (l : List (Option Route)). slice_index_or l c.args.router c.index-as_slice-router.result) c.as_slice.ensures)
    ∙ c.in-Some.is in
    let settled : label c.args.board.now.labels c.args.importer ≡ Some c.in-Some-as_slice.label =
    get_or_default c.args.board.now.labels c.args.importer None c.index-as_slice-importer.result
    (let r = c.requires.importer in let f = c.requires.fits.labels in omega (arith, r, f))
    ∙ sym (c.index-as_slice-importer.is
    ∙ ap (λ (l : List (Option Route)). slice_index_or l c.args.importer c.index-as_slice-importer.result) c.as_slice-2.ensures)
    ∙ c.in-Some-as_slice.is in
    beaten_by_own c.args.lookups.now (subst IsProblem c.lookups.view_is c.count-known.ensures.rules) c.args.board.now c.args.router
    (record { importer = c.args.importer; act = c.args.act }) c.in-Some.from c.in-Some-as_slice.label c.requires.fits c.requires.importer labelled settled
    (c.are_worse.ensures t)

pub returns : goal.returns
returns c = λ t.
    let bests = c.args.board.now.bests.items in
    let inside : c.args.importer < length bests = (let r = c.requires.importer in let f = c.requires.fits.bests in omega (arith, r, f)) in
    let known : best_at bests c.args.importer ≡ Some c.in-Some-index.best =
    get_or_default bests c.args.importer None c.index.result.now inside ∙ sym c.index.ensures ∙ c.in-Some-index.is in
    let labelled : label c.args.board.now.labels c.args.router ≡ Some c.in-Some.from =
    get_or_default c.args.board.now.labels c.args.router None c.index-as_slice-router.result
    (let r = c.requires.router in let f = c.requires.fits.labels in omega (arith, r, f))
    ∙ sym (c.index-as_slice-router.is ∙ ap (λ (l : List (Option Route)). slice_index_or l c.args.router c.index-as_slice-router.result) c.as_slice.ensures)
    ∙ c.in-Some.is in
    let unsettled : label c.args.board.now.labels c.args.importer ≡ None = search rules in
    beaten_by_best c.args.lookups.now (subst IsProblem c.lookups.view_is c.count-known.ensures.rules) c.args.board.now c.args.router
    (record { importer = c.args.importer; act = c.args.act }) c.in-Some.from c.in-Some-index.best c.requires.fits c.requires.importer labelled unsettled known
    (c.are_worse-2.ensures t)
