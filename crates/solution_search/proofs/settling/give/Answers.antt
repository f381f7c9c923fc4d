use Rattle.std.proofs.Common.{subst}
use Rattle.refine_partition.specs.declared.imports.Import.{Import}
use Rattle.srp_core.specs.Candidates.{over}
use Rattle.srp_core.specs.Problem.{IsProblem}
use Rattle.solution_search.specs.Boards.{edge_of}
use Rattle.solution_search.proofs.Giving.{offers_none, offers_some, given_nothing, given_offer}
use Rattle.solution_search.proofs.settling.give.Goals as goal

pub returns-in-None-clause-given : goal.returns-in-None-clause-given
returns-in-None-clause-given c =
    let good = subst IsProblem c.lookups.view_is c.count-known.ensures.rules in
    let i : Import = record { importer = c.args.importer; act = c.args.act } in
    given_nothing c.args.lookups.now good c.args.board.now c.args.router i c.requires.fits
    (offers_none c.args.lookups.now (over c.args.lookups.now c.args.board.now.labels (edge_of c.args.router i)) c.in_ok-offer_over.field-0
    c.in_ok-offer_over.ensures c.in-None.is)

pub returns-in_ok-outcome-in-Some-clause-given : goal.returns-in_ok-outcome-in-Some-clause-given
returns-in_ok-outcome-in-Some-clause-given c =
    let good = subst IsProblem c.lookups.view_is c.count-known.ensures.rules in
    let i : Import = record { importer = c.args.importer; act = c.args.act } in
    let some = offers_some c.args.lookups.now (over c.args.lookups.now c.args.board.now.labels (edge_of c.args.router i)) c.in_ok-offer_over.field-0
    c.in-Some.offer
    c.in_ok-offer_over.ensures c.in-Some.is in
    given_offer c.args.lookups.now good c.args.board.now c.add_offer.new.board c.args.router i c.in-Some.offer c.in_ok-outcome-in-Some.outcome some.0
    c.requires.fits
    c.requires.importer some.1 some.2 c.in_ok-outcome-in-Some.ensures.adds
