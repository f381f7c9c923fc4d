use Rattle.std.proofs.Common.{ℕ, List, ◌∙◌, ap, map, sym, subst}
use Rattle.std.specs.Prelude.{slice_index}
use Rattle.route_maps.specs.declared.plain.Plain.{Plain}
use Rattle.srp_core.specs.declared.route.Act.{Act}
use Rattle.config_emit.specs.BgpSteps.{neighbor_of}
use Rattle.config_emit.specs.MapNumbers.{maps_now, AreKnown}
use Rattle.config_emit.specs.Maps.{maps_of}
use Rattle.config_emit.specs.Plan.{small}
use Rattle.config_emit.specs.RouterMaps.{use_now, use_of}
use Rattle.config_emit.specs.Sources.{plan_of}
use Rattle.config_emit.specs.declared.act_links.ActLink.{ActLink}
use Rattle.config_emit.proofs.BgpParts.{numbers_are, neighbors_are, no_process, process_is}
use Rattle.config_emit.proofs.FewLinks.{numbers_below}
use Rattle.config_emit.proofs.bgp_routers.process.Goals as goal

pub returns-then-number-eq0 : goal.returns-then-number-eq0
returns-then-number-eq0 c =
    let e = plan_of c.args.source.now in
    let numbered = c.number_at-number.ensures ∙ ap (λ (ns : List ℕ). slice_index ns c.args.group) (numbers_are e c.args.numbers.now c.requires.numbers) in
    no_process e c.args.group (sym numbered ∙ c.if-number-eq0.true)

pub neighbors_of-requires-clause-few : goal.neighbors_of-requires-clause-few
neighbors_of-requires-clause-few c = numbers_below (plan_of c.args.source.now) c.args.group c.args.links.now c.requires.source.few c.requires.links.are

pub returns : goal.returns
returns c =
    let e = plan_of c.args.source.now in
    let g = c.args.group in
    let p = c.args.policies.now in
    let known = maps_now p.maps.items in
    let of = c.requires.policies.are in
    let are = subst (λ (acts : List Act). AreKnown known acts p.numbers.items) c.requires.policies.acts of.acts in
    let numbers = numbers_are e c.args.numbers.now c.requires.numbers in
    let numbered = c.number_at-number.ensures ∙ ap (λ (ns : List ℕ). slice_index ns g) numbers in
    let uses = map (use_of known) (maps_of e g) in
    let neighbors = c.in_ok-neighbors.ensures
    ∙ ap (λ (acts : List Act). map (neighbor_of known acts (map use_now c.args.maps.now.uses.items) c.args.numbers.now g) c.args.links.now)
    c.requires.policies.acts
    ∙ ap (λ (us : List (ℕ × Plain)). map (neighbor_of known e.problem.acts us c.args.numbers.now g) c.args.links.now) c.requires.maps.uses
    ∙ ap (λ (ns : List ℕ). map (neighbor_of known e.problem.acts uses ns g) c.args.links.now) numbers
    ∙ ap (λ (ls : List ActLink). map (neighbor_of known e.problem.acts uses (small e).numbers g) ls) c.requires.links.are
    ∙ neighbors_are e known p.numbers.items p.closed_number g c.requires.bgp are of.closed_known in
    process_is e g c.number_at-number.result c.base_line-base.result c.in_ok-networks.networks c.in_ok-neighbors.neighbors
    (λ z. c.if-number-eq0.false (numbered ∙ z)) numbered c.base_line-base.ensures c.in_ok-networks.ensures neighbors
