use Rattle.std.proofs.Common.{◌≡◌, ℕ, ◌+◌, ◌<◌, List, [], take, get_or, length, ap, sym, ◌∙◌, subst}
use Rattle.std.specs.Prelude.{Option, Contains}
use Rattle.std.proofs.Math.ListN.{replicate}
use Rattle.std.proofs.lemmas.List.Elements.{Contains-get_or}
use Rattle.base_kit.specs.declared.act_graph.Edge.{Edge}
use Rattle.srp_core.specs.declared.route.Route.{Route}
use Rattle.srp_core.specs.Problem.{Problem, IsEdgeOf, IsProblem}
use Rattle.spare_links.specs.declared.ways.Ways.{Ways}
use Rattle.spare_links.specs.declared.ways.Ways.TheVariants.{Nowhere}
use Rattle.spare_links.specs.Ways.{AreTies, AreWays}
use Rattle.spare_links.proofs.Linked.{none_yet, no_ties_yet, aside_next, same_next, stay_next, tied_next, all_edges, all_ties}
use Rattle.spare_links.proofs.ways.forwarding_of.Goals as goal
use Rattle.spare_links.proofs.ways.forwarding_of.Goals.{in-Apart, in-Same, in-Tied}

-- the edge at a place is one of the problem
inside_at : (problem : Problem) (edges : List Edge) (i : ℕ) (d : Edge) → IsProblem problem → edges ≡ problem.edges → i < length edges →
    IsEdgeOf problem (get_or edges i d)
inside_at problem edges i d rules are lt =
    rules.edges.inside (get_or edges i d) (subst (λ (l : List Edge). Contains l (get_or edges i d)) are (Contains-get_or edges i d lt))

-- the same, as it is named behind a branch
as_named : (problem : Problem) (labels : List (Option Route)) (edges : List Edge) (ties named : Ways) (tied named_tied : Option ℕ) → named ≡ ties →
    named_tied ≡ tied →
    AreTies problem labels edges ties tied → AreTies problem labels edges named named_tied
as_named problem labels edges ties named tied named_tied first second are =
    subst (λ t. AreTies problem labels edges t named_tied) (sym first) (subst (λ t. AreTies problem labels edges ties t) (sym second) are)

pub loop-edge-init : goal.loop-edge-init
loop-edge-init c =
    let problem = c.args.srp.now in
    record {
      ways = subst (λ (ways : List Ways). AreWays problem c.args.labels.now [] ways)
          (ap (λ (n : ℕ). replicate n Nowhere) (sym c.count-count.ensures.count) ∙ sym (c.in_ok-ways.ensures.items_if_clones_equal (λ y h. h)))
          (none_yet problem c.args.labels.now);
      ties = no_ties_yet problem c.args.labels.now;
    }

pub standing_over-requires-clause-edge : goal.standing_over-requires-clause-edge
standing_over-requires-clause-edge c =
    inside_at c.args.srp.now c.edges-edges.result.now c.loop-edge.edge-index _ c.count-count.ensures.rules c.edges-edges.ensures c.loop-edge-test.true

pub loop-edge-preserved : goal.loop-edge-preserved
loop-edge-preserved c =
    let problem = c.args.srp.now in
    let labels = c.args.labels.now in
    let edges = c.edges-edges.result.now in
    let i = c.loop-edge.edge-index in
    let lt = c.loop-edge-test.true in
    let before = c.loop-edge.invariant in
    let ways = c.loop-edge.ways.items in
    let ties = c.loop-edge.ties in
    let tied = c.loop-edge.tied in
    let Forward : List Ways → Type 0 = λ ways. AreWays problem labels (take (i + 1) edges) ways in
    elim c.match-branch-3.branch [
      | in-Apart w ↦ (
          let apart = sym c.in_ok-standing_over.ensures ∙ w.in-Apart.is in
          record {
            ways = subst Forward (ap (λ v. v.items) (sym w.ways-is))
                (aside_next problem labels edges i _ lt ways (λ same. let other = sym apart ∙ same in cc) before.ways);
            ties = as_named problem labels (take (i + 1) edges) ties c.match-branch-3.ties tied c.match-branch-3.tied w.ties-is w.tied-is
                (stay_next problem labels edges i _ lt ties tied (λ is. let other = sym apart ∙ is in cc) before.ties);
          })
      | in-Same w ↦ (
          let same = sym c.in_ok-standing_over.ensures ∙ w.in-Same.is in
          let edge = inside_at problem edges i _ c.count-count.ensures.rules c.edges-edges.ensures lt in
          record {
            ways = subst Forward (ap (λ v. v.items) (sym w.ways-is))
                (same_next problem labels edges i _ lt ways w.index.result.now w.with.result edge.importer_in same w.index.ensures w.with.ensures before.ways);
            ties = as_named problem labels (take (i + 1) edges) ties c.match-branch-3.ties tied c.match-branch-3.tied w.ties-is w.tied-is
                (stay_next problem labels edges i _ lt ties tied (λ is. let other = sym same ∙ is in cc) before.ties);
          })
      | in-Tied w ↦ (
          let is = sym c.in_ok-standing_over.ensures ∙ w.in-Tied.is in
          record {
            ways = subst Forward (ap (λ v. v.items) (sym w.ways-is))
                (aside_next problem labels edges i _ lt ways (λ same. let other = sym is ∙ same in cc) before.ways);
            ties = tied_next problem labels edges i _ lt ties c.match-branch-3.ties tied c.match-branch-3.tied is
                (w.ties-is ∙ w.with-ties.ensures) w.tied-is before.ties;
          })
    ]

pub returns : goal.returns
returns c =
    let problem = c.args.srp.now in
    let labels = c.args.labels.now in
    let edges = c.edges-edges.result.now in
    let i = c.loop-edge.edge-index in
    record {
      ways = subst (λ (l : List Edge). AreWays problem labels l c.loop-edge.ways.items) c.edges-edges.ensures
          (all_edges problem labels edges i c.loop-edge.ways.items c.loop-edge-test.false c.loop-edge.invariant.ways);
      ties = subst (λ (l : List Edge). AreTies problem labels l c.loop-edge.ties c.loop-edge.tied) c.edges-edges.ensures
          (all_ties problem labels edges i c.loop-edge.ties c.loop-edge.tied c.loop-edge-test.false c.loop-edge.invariant.ties);
    }
