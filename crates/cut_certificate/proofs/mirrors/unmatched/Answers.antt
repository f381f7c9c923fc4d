use Rattle.std.proofs.Common.{◌≡◌, ◌∙◌, Bool, true, Vec, get_or, sym, ap}
use Rattle.std.specs.declared.alloc.Global.{Global}
use Rattle.cut_certificate.specs.declared.outgoing.Placed.{Placed}
use Rattle.cut_certificate.specs.Evenness.{is_matched}
use Rattle.cut_certificate.specs.Outgoing.{edges_of}
use Rattle.cut_certificate.proofs.PlacedEdges.{list_is, list_known, mirrored_is, listed, matched_inside, matched_there, matched_nowhere, unmatched_is}
use Rattle.cut_certificate.proofs.Scans.{all_next, all_fails}
use Rattle.cut_certificate.proofs.mirrors.unmatched.Goals as goal
use Rattle.cut_certificate.proofs.mirrors.unmatched.Goals.{else-into-block-via-then-into-block+else-not-leads_into, else-into-block-via-else-into-block}

abbrev none : Placed
none = record { place = 0; edge = record { importer = 0; exporter = 0; act = 0; link = 0 } }

pub loop-p-init : goal.loop-p-init
loop-p-init c =
    let are : c.as_slice-list.result.now ≡ edges_of c.args.graph.now.edges c.args.router = c.as_slice-list.ensures.value
    ∙ ap (λ (v : Vec Placed Global). v.items) c.index-outgoing-router.is
    ∙ list_is c.args.graph.now c.args.outgoing.now c.args.router c.index-outgoing-router.result c.requires.index c.requires.router in
    mirrored_is c.args.graph.now c.args.numbers.now c.args.router c.args.other c.as_slice-list.result.now are

pub bounds-numbers-p : goal.bounds-numbers-p
bounds-numbers-p c =
    let are : c.as_slice-list.result.now ≡ edges_of c.args.graph.now.edges c.args.router = c.as_slice-list.ensures.value
    ∙ ap (λ (v : Vec Placed Global). v.items) c.index-outgoing-router.is
    ∙ list_is c.args.graph.now c.args.outgoing.now c.args.router c.index-outgoing-router.result c.requires.index c.requires.router in
    list_known c.args.graph.now c.args.numbers.now c.args.router c.as_slice-list.result.now are c.requires.total c.loop-p.p-index none c.loop-p-test.true

pub leads_into-requires : goal.leads_into-requires
leads_into-requires c =
    let are : c.as_slice-others.result.now ≡ edges_of c.args.graph.now.edges c.args.other = c.as_slice-others.ensures.value
    ∙ ap (λ (v : Vec Placed Global). v.items) c.index-outgoing-other.is
    ∙ list_is c.args.graph.now c.args.outgoing.now c.args.other c.index-outgoing-other.result c.requires.index c.requires.other in
    list_known c.args.graph.now c.args.numbers.now c.args.other c.as_slice-others.result.now are c.requires.total

pub returns-then-not-leads_into-clause-mirrored : goal.returns-then-not-leads_into-clause-mirrored
returns-then-not-leads_into-clause-mirrored c =
    let are : c.as_slice-others.result.now ≡ edges_of c.args.graph.now.edges c.args.other = c.as_slice-others.ensures.value
    ∙ ap (λ (v : Vec Placed Global). v.items) c.index-outgoing-other.is
    ∙ list_is c.args.graph.now c.args.outgoing.now c.args.other c.index-outgoing-other.result c.requires.index c.requires.other in
    let p = get_or c.as_slice-list.result.now c.loop-p.p-index none in
    sym (all_fails (λ (q : Placed). is_matched c.args.graph.now.edges c.args.numbers.now c.args.router c.args.other q.edge) c.as_slice-list.result.now
    c.loop-p.p-index none c.loop-p-test.true
    (matched_nowhere c.args.graph.now c.args.numbers.now c.args.router c.args.other p.edge c.as_slice-others.result.now are c.if-into-block.true
    (sym c.if-not-leads_into.ensures))) ∙ c.loop-p.invariant

pub returns-then-not-leads_into-clause-found : goal.returns-then-not-leads_into-clause-found
returns-then-not-leads_into-clause-found c =
    let these : c.as_slice-list.result.now ≡ edges_of c.args.graph.now.edges c.args.router = c.as_slice-list.ensures.value
    ∙ ap (λ (v : Vec Placed Global). v.items) c.index-outgoing-router.is
    ∙ list_is c.args.graph.now c.args.outgoing.now c.args.router c.index-outgoing-router.result c.requires.index c.requires.router in
    let are : c.as_slice-others.result.now ≡ edges_of c.args.graph.now.edges c.args.other = c.as_slice-others.ensures.value
    ∙ ap (λ (v : Vec Placed Global). v.items) c.index-outgoing-other.is
    ∙ list_is c.args.graph.now c.args.outgoing.now c.args.other c.index-outgoing-other.result c.requires.index c.requires.other in
    let p = get_or c.as_slice-list.result.now c.loop-p.p-index none in
    unmatched_is c.args.graph.now c.args.numbers.now c.args.router c.args.other p c.as_slice-others.result.now are
    (listed c.args.graph.now c.args.router c.as_slice-list.result.now these c.loop-p.p-index none c.loop-p-test.true)
    (list_known c.args.graph.now c.args.numbers.now c.args.router c.as_slice-list.result.now these c.requires.total c.loop-p.p-index none c.loop-p-test.true)
    c.if-into-block.true (sym c.if-not-leads_into.ensures)

pub loop-p-preserved : goal.loop-p-preserved
loop-p-preserved c =
    let are : c.as_slice-others.result.now ≡ edges_of c.args.graph.now.edges c.args.other = c.as_slice-others.ensures.value
    ∙ ap (λ (v : Vec Placed Global). v.items) c.index-outgoing-other.is
    ∙ list_is c.args.graph.now c.args.outgoing.now c.args.other c.index-outgoing-other.result c.requires.index c.requires.other in
    let p = get_or c.as_slice-list.result.now c.loop-p.p-index none in
    let test : Placed → Bool = λ q. is_matched c.args.graph.now.edges c.args.numbers.now c.args.router c.args.other q.edge in
    let passes : test p ≡ true = elim c.else-into-block.branch [
      | else-into-block-via-then-into-block+else-not-leads_into w ↦
          matched_there c.args.graph.now c.args.numbers.now c.args.router c.args.other p.edge c.as_slice-others.result.now are (sym w.if-not-leads_into.ensures)
      | else-into-block-via-else-into-block w ↦ matched_inside c.args.graph.now.edges c.args.numbers.now c.args.router c.args.other p.edge w.if-into-block.false
    ] in
    sym (all_next test c.as_slice-list.result.now c.loop-p.p-index none c.loop-p-test.true passes) ∙ c.loop-p.invariant
