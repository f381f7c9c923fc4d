use Rattle.std.proofs.Common.{◌≡◌, ◌∙◌, ap, sym, subst, Vec, Option, ℕ}
use Rattle.std.specs.declared.alloc.Global.{Global}
use Rattle.cut_certificate.specs.declared.outgoing.Placed.{Placed}
use Rattle.cut_certificate.specs.Answers.{Steps}
use Rattle.cut_certificate.specs.Outgoing.{edges_of}
use Rattle.cut_certificate.specs.Texts.{with_edge}
use Rattle.cut_certificate.proofs.PlacedEdges.{list_is, named_there, named_nowhere, named_act}
use Rattle.cut_certificate.proofs.lines.with_edge.Goals as goal

pub with_split-requires-clause-act : goal.with_split-requires-clause-act
with_split-requires-clause-act c =
    let are : c.as_slice-list.result.now ≡ edges_of c.args.graph.now.edges c.args.router = c.as_slice-list.ensures.value
    ∙ ap (λ (v : Vec Placed Global). v.items) c.index-outgoing-router.is
    ∙ list_is c.args.graph.now c.args.outgoing.now c.args.router c.index-outgoing-router.result c.requires.index c.requires.router in
    named_act c.args.graph.now.edges c.args.router c.args.link c.as_slice-list.result.now c.in-Some.found are (sym c.in-Some.ensures)

pub returns-in-Some : goal.returns-in-Some
returns-in-Some c =
    let are : c.as_slice-list.result.now ≡ edges_of c.args.graph.now.edges c.args.router = c.as_slice-list.ensures.value
    ∙ ap (λ (v : Vec Placed Global). v.items) c.index-outgoing-router.is
    ∙ list_is c.args.graph.now c.args.outgoing.now c.args.router c.index-outgoing-router.result c.requires.index c.requires.router in
    let there = named_there c.args.graph.now.edges c.args.router c.args.link c.as_slice-list.result.now c.in-Some.found are (sym c.in-Some.ensures) in
    let P : Option ℕ → Type 0 = λ o. Steps c.with_split.result (with_edge c.args.graph.now.edges c.args.standing c.args.block c.args.by o) in
    subst P (sym there) c.with_split.ensures

pub returns-in-None : goal.returns-in-None
returns-in-None c =
    let are : c.as_slice-list.result.now ≡ edges_of c.args.graph.now.edges c.args.router = c.as_slice-list.ensures.value
    ∙ ap (λ (v : Vec Placed Global). v.items) c.index-outgoing-router.is
    ∙ list_is c.args.graph.now c.args.outgoing.now c.args.router c.index-outgoing-router.result c.requires.index c.requires.router in
    ap (with_edge c.args.graph.now.edges c.args.standing c.args.block c.args.by)
    (named_nowhere c.args.graph.now.edges c.args.router c.args.link c.as_slice-list.result.now are (sym c.in-None.ensures))
