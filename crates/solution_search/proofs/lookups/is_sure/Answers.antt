use Rattle.std.proofs.Common.{◌≡◌, ◌<◌, true, false, not, List, length, get_or, Option, ap, sym, ◌∙◌, subst, arith}
use Rattle.std.specs.Prelude.{is_some}
use Rattle.std.proofs.lemmas.List.{get_or_default}
use Rattle.base_kit.specs.declared.act_graph.Edge.{Edge}
use Rattle.srp_core.specs.declared.route.Route.{Route}
use Rattle.srp_core.specs.Problem.{Problem, count}
use Rattle.solution_search.specs.Cases.{IsSure}
use Rattle.solution_search.proofs.Sure.{edge_inside, sure_more, sure_at_end}
use Rattle.solution_search.proofs.lookups.is_sure.Goals as goal
use Rattle.solution_search.proofs.lookups.is_sure.Goals.{else-is_none-via-then-is_none+else-preference-index, else-is_none-via-else-is_none}

pub bounds-as_slice-edge : goal.bounds-as_slice-edge
bounds-as_slice-edge c =
    let own = c.own_edges-first.ensures in
    let end = own.inside in
    let d : Edge = record { importer = 0; exporter = 0; act = 0; link = 0 } in
    let e = edge_inside c.lookups.inside.srp.now c.count-known.ensures.rules c.edges-edges.result.now c.edges-edges.ensures c.loop-place.place d
    (let t = c.loop-place-test.true in omega (arith, end, t)) in
    let inside = e.exporter_in in
    let total = c.requires ∙ ap (λ (p : Problem). count p) (sym c.lookups.view_is) in
    let same = ap (λ (l : List (Option Route)). length l) c.as_slice.ensures in
    omega (arith, inside, total, same)

pub index-requires : goal.index-requires
index-requires c =
    let own = c.own_edges-first.ensures in
    let end = own.inside in
    let d : Edge = record { importer = 0; exporter = 0; act = 0; link = 0 } in
    let e = edge_inside c.lookups.inside.srp.now c.count-known.ensures.rules c.edges-edges.result.now c.edges-edges.ensures c.loop-place.place d
    (let t = c.loop-place-test.true in omega (arith, end, t)) in
    let inside = e.act_in in
    let tables = c.lookups.invariant.1 in
    let total = tables.acts in
    omega (arith, inside, total)

pub loop-place-preserved : goal.loop-place-preserved
loop-place-preserved c =
    let own = c.own_edges-first.ensures in
    let end = own.inside in
    let d : Edge = record { importer = 0; exporter = 0; act = 0; link = 0 } in
    let less : c.loop-place.place < length c.edges-edges.result.now = let t = c.loop-place-test.true in omega (arith, end, t) in
    let e = edge_inside c.lookups.inside.srp.now c.count-known.ensures.rules c.edges-edges.result.now c.edges-edges.ensures c.loop-place.place d less in
    let inside = e.exporter_in in
    let total = c.requires ∙ ap (λ (p : Problem). count p) (sym c.lookups.view_is) in
    let at = c.index-as_slice-edge.result in
    let is : at ≡ get_or c.args.labels.now (get_or c.edges-edges.result.now c.loop-place.place d).exporter at =
    c.index-as_slice-edge.is ∙ ap (λ (l : List (Option Route)). get_or l (get_or c.edges-edges.result.now c.loop-place.place d).exporter at)
    c.as_slice.ensures in
    sure_more c.args.labels.now c.lookups.inside.highest.items c.edges-edges.result.now c.own_edges-first.result.0 c.loop-place.place c.args.preference at d
    c.loop-place.invariant less is (omega (arith, inside, total))
    (λ none. elim c.else-is_none.branch [
      | else-is_none-via-then-is_none+else-preference-index w ↦
          let i = w.index.ensures in
          let f = w.if-preference-index.false in
          let acts = e.act_in in
          let tables = c.lookups.invariant.1 in
          let listed = tables.acts in
          let j = get_or_default c.lookups.inside.highest.items (get_or c.edges-edges.result.now c.loop-place.place d).act w.index.result.now 0
          (omega (arith, acts, listed)) in
          omega (arith, i, j, f)
      | else-is_none-via-else-is_none w ↦
          let t : is_some at ≡ true = c.is_none.ensures ∙ ap not w.if-is_none.false in
          let f : is_some at ≡ false = ap (λ (o : Option Route). is_some o) none in
          absurd (cc)
    ])

pub returns : goal.returns
returns c = λ t waits. subst (λ (p : Problem). IsSure p (record { labels = c.args.labels.now; waits = waits }) c.args.router c.args.preference)
    c.lookups.view_is
    (sure_at_end c.lookups.inside.srp.now c.count-known.ensures.rules (record { labels = c.args.labels.now; waits = waits })
    c.lookups.inside.highest.items c.lookups.invariant.1.each c.edges-edges.result.now c.edges-edges.ensures c.args.router c.args.preference
    c.own_edges-first.result.0 c.own_edges-first.result.1 c.loop-place.place c.own_edges-first.ensures c.loop-place.invariant c.loop-place-test.false)
