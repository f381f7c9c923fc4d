use Rattle.std.proofs.Common.{◌<◌, ◌^◌, ℕ, List, [], map, length, ap, ◌∙◌, sym, subst}
use Rattle.std.specs.Prelude.{slice_index_or}
use Rattle.srp_core.specs.Problem.{initial, is_lone, IsProblem}
use Rattle.abstract_net.specs.declared.qlink.QLink.{QLink}
use Rattle.abstract_net.specs.Links.{quotient_links}
use Rattle.srp_quotient.specs.Groups.{quotient_edges, small_of}
use Rattle.solution_lift.proofs.MemberLists.{one_count}
use Rattle.solution_lift.proofs.Small.{inside_all, all_below, all_apart, parts_are}
use Rattle.solution_lift.proofs.problem.quotient_srp.Goals as goal

pub numbers_of-requires-clause-below : goal.numbers_of-requires-clause-below
numbers_of-requires-clause-below c =
    let S = c.args.srp.now in
    let groups : List ℕ = c.args.p.now in
    let count = c.groups-count.result in
    all_below count c.as_slice-links.result.now _ S.edges groups
    (c.quotient_carries.ensures S.edges groups count (inside_all S groups count c.count-known.ensures.rules c.requires.groups c.groups-count.ensures))
    (c.as_slice-links.ensures ∙ c.requires.links count c.groups-count.ensures)

pub edges_of-requires-clause-apart : goal.edges_of-requires-clause-apart
edges_of-requires-clause-apart c =
    let S = c.args.srp.now in
    let groups : List ℕ = c.args.p.now in
    let count = c.groups-count.result in
    all_apart count c.as_slice-links.result.now (all_below count c.as_slice-links.result.now _ S.edges groups
    (c.quotient_carries.ensures S.edges groups count (inside_all S groups count c.count-known.ensures.rules c.requires.groups c.groups-count.ensures))
    (c.as_slice-links.ensures ∙ c.requires.links count c.groups-count.ensures))

pub new-requires : goal.new-requires
new-requires c = λ keeps.
    let S = c.args.srp.now in
    let groups : List ℕ = c.args.p.now in
    let count = c.groups-count.result in
    let links = c.as_slice-links.ensures ∙ c.requires.links count c.groups-count.ensures in
    let below = all_below count c.as_slice-links.result.now _ S.edges groups
    (c.quotient_carries.ensures S.edges groups count (inside_all S groups count c.count-known.ensures.rules c.requires.groups c.groups-count.ensures)) links
    in
    let few : length (quotient_links c.args.srp.now.edges c.args.p.now c.groups-count.result) < 2 ^ 31 =
    subst (λ (l : List QLink). length l < 2 ^ 31) (c.requires.links count c.groups-count.ensures) c.requires.few in
    let parts = parts_are S groups count c.as_slice-links.result.now c.protocol-2.result c.in_ok-firsts.firsts.items c.in_ok-names.names c.in_ok-numbers.numbers
    c.in_ok-init.init c.in_ok-lone.lone c.in_ok-acts.acts c.in_ok-edges.edges
    links c.protocol-2.ensures c.in_ok-firsts.ensures
    (c.in_ok-names.ensures ∙ (λ i. map (λ u. slice_index_or ((c.as_slice.ensures ∙ c.names.ensures) i) u []) (c.deref.ensures.value i)))
    c.in_ok-numbers.ensures
    (c.in_ok-init.ensures ∙ ap (map (initial c.args.srp.now)) c.deref-2.ensures.value)
    (c.in_ok-lone.ensures ∙ ap (map (is_lone c.args.srp.now)) c.deref-3.ensures.value)
    (c.in_ok-acts.ensures ∙ c.acts.ensures)
    (c.in_ok-edges.ensures count below ∙ (λ i. quotient_edges (c.protocol.ensures i) (c.edges.ensures i) c.groups-count.result c.as_slice-links.result.now)) in
    subst IsProblem (sym parts) (c.quotient_is_problem.ensures S groups count c.count-known.ensures.rules c.requires.groups c.groups-count.ensures few)

pub returns : goal.returns
returns c = λ other numbered.
    let S = c.args.srp.now in
    let groups : List ℕ = c.args.p.now in
    let count = c.groups-count.result in
    let links = c.as_slice-links.ensures ∙ c.requires.links count c.groups-count.ensures in
    let below = all_below count c.as_slice-links.result.now _ S.edges groups
    (c.quotient_carries.ensures S.edges groups count (inside_all S groups count c.count-known.ensures.rules c.requires.groups c.groups-count.ensures)) links
    in
    let parts = parts_are S groups count c.as_slice-links.result.now c.protocol-2.result c.in_ok-firsts.firsts.items c.in_ok-names.names c.in_ok-numbers.numbers
    c.in_ok-init.init c.in_ok-lone.lone c.in_ok-acts.acts c.in_ok-edges.edges
    links c.protocol-2.ensures c.in_ok-firsts.ensures
    (c.in_ok-names.ensures ∙ (λ i. map (λ u. slice_index_or ((c.as_slice.ensures ∙ c.names.ensures) i) u []) (c.deref.ensures.value i)))
    c.in_ok-numbers.ensures
    (c.in_ok-init.ensures ∙ ap (map (initial c.args.srp.now)) c.deref-2.ensures.value)
    (c.in_ok-lone.ensures ∙ ap (map (is_lone c.args.srp.now)) c.deref-3.ensures.value)
    (c.in_ok-acts.ensures ∙ c.acts.ensures)
    (c.in_ok-edges.ensures count below ∙ (λ i. quotient_edges (c.protocol.ensures i) (c.edges.ensures i) c.groups-count.result c.as_slice-links.result.now)) in
    c.new.ensures ∙ parts ∙ ap (small_of c.args.srp.now c.args.p.now) (one_count groups count other c.groups-count.ensures numbered)
