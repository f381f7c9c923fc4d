use Rattle.std.proofs.Common.{◌≡◌, ◌∙◌, ap, sym, Vec, arith}
use Rattle.std.specs.declared.alloc.Global.{Global}
use Rattle.cut_certificate.specs.declared.outgoing.Placed.{Placed}
use Rattle.cut_certificate.specs.Outgoing.{edges_of}
use Rattle.cut_certificate.proofs.Movers.{mover_as, mover_elsewhere, mover_outside}
use Rattle.cut_certificate.proofs.PlacedEdges.{list_is, list_known, reaches_is}
use Rattle.cut_certificate.proofs.moving.is_mover.Goals as goal

pub returns-then-router-graph : goal.returns-then-router-graph
returns-then-router-graph c = sym (mover_outside c.args.graph.now.edges c.args.numbers.now c.args.split.block c.args.split.by c.args.act c.args.router
    (omega (arith, c.if-router-graph.true, c.requires.total)))

pub returns-then-number-split : goal.returns-then-number-split
returns-then-number-split c = sym (mover_elsewhere c.args.graph.now.edges c.args.numbers.now c.args.split.block c.args.split.by c.args.act c.args.router
    c.if-number-split.true)

pub leads_into-requires : goal.leads_into-requires
leads_into-requires c =
    let are : c.as_slice-list.result.now ≡ edges_of c.args.graph.now.edges c.args.router = c.as_slice-list.ensures.value
    ∙ ap (λ (v : Vec Placed Global). v.items) c.index-outgoing-router.is
    ∙ list_is c.args.graph.now c.args.outgoing.now c.args.router c.index-outgoing-router.result c.requires.index
    (omega (arith, c.if-router-graph.false)) in
    list_known c.args.graph.now c.args.numbers.now c.args.router c.as_slice-list.result.now are c.requires.total

pub returns : goal.returns
returns c =
    let are : c.as_slice-list.result.now ≡ edges_of c.args.graph.now.edges c.args.router = c.as_slice-list.ensures.value
    ∙ ap (λ (v : Vec Placed Global). v.items) c.index-outgoing-router.is
    ∙ list_is c.args.graph.now c.args.outgoing.now c.args.router c.index-outgoing-router.result c.requires.index
    (omega (arith, c.if-router-graph.false)) in
    sym (mover_as c.args.graph.now.edges c.args.numbers.now c.args.split.block c.args.split.by c.args.act c.args.router c.leads_into.result
    (omega (arith, c.if-router-graph.false, c.requires.total)) c.if-number-split.false
    (sym (reaches_is c.args.graph.now c.args.numbers.now c.args.split.by c.args.act c.args.router c.as_slice-list.result.now are) ∙ sym c.leads_into.ensures))
