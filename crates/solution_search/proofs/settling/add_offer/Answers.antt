use Rattle.std.proofs.Common.{rules, ◌≡◌, ◌<◌, length, Some, None, sym, ◌∙◌, arith}
use Rattle.std.specs.Prelude.{slice_index_or}
use Rattle.std.proofs.lemmas.List.{get_or_default}
use Rattle.srp_core.specs.Stability.{label}
use Rattle.solution_search.specs.Bests.{rank_of, replaced}
use Rattle.solution_search.specs.Boards.{best_at}
use Rattle.solution_search.proofs.Adding.{adds_nothing, adds_better}
use Rattle.solution_search.proofs.settling.add_offer.Goals as goal

pub returns-in-None-2-clause-adds : goal.returns-in-None-2-clause-adds
returns-in-None-2-clause-adds c =
    let bests = c.args.board.now.bests.items in
    let inside : c.args.router < length bests = (let r = c.requires.router in let f = c.requires.fits.bests in omega (arith, r, f)) in
    let at : c.index.result.now ≡ slice_index_or bests c.args.router c.index.result.now = c.index.ensures in
    let best = c.in-Some-index.best in
    let known : best_at bests c.args.router ≡ Some best = get_or_default bests c.args.router None c.index.result.now inside ∙ sym at ∙ c.in-Some-index.is in
    let unsettled : label c.args.board.now.labels c.args.router ≡ None = search rules in
    let is : c.in_ok-replacement-in-Some-index.field-0 ≡ replaced (rank_of c.args.offer best) best c.args.offer = c.in_ok-replacement-in-Some-index.ensures in
    adds_nothing c.args.lookups.now c.args.board.now c.args.router c.args.offer unsettled best known (sym is ∙ c.in-None-2.is)

pub returns-in_ok-put_best-in-Some-2-clause-adds : goal.returns-in_ok-put_best-in-Some-2-clause-adds
returns-in_ok-put_best-in-Some-2-clause-adds c =
    let bests = c.args.board.now.bests.items in
    let inside : c.args.router < length bests = (let r = c.requires.router in let f = c.requires.fits.bests in omega (arith, r, f)) in
    let at : c.index.result.now ≡ slice_index_or bests c.args.router c.index.result.now = c.index.ensures in
    let best = c.in-Some-index.best in
    let known : best_at bests c.args.router ≡ Some best = get_or_default bests c.args.router None c.index.result.now inside ∙ sym at ∙ c.in-Some-index.is in
    let unsettled : label c.args.board.now.labels c.args.router ≡ None = search rules in
    let is : c.in_ok-replacement-in-Some-index.field-0 ≡ replaced (rank_of c.args.offer best) best c.args.offer = c.in_ok-replacement-in-Some-index.ensures in
    adds_better c.args.lookups.now c.args.board.now c.args.router c.args.offer unsettled best known c.put_best-in-Some-2.new.board c.in-Some-2.better
    (sym is ∙ c.in-Some-2.is) c.in_ok-put_best-in-Some-2.ensures.same c.in_ok-put_best-in-Some-2.ensures.bests
    c.in_ok-put_best-in-Some-2.ensures.changes
