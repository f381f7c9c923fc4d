use Rattle.std.proofs.Common.{List, [], ◌∙◌, ap, subst}
use Rattle.std.specs.Prelude.{flat_map}
use Rattle.srp_core.specs.declared.route.Act.{Act}
use Rattle.config_emit.specs.MapNumbers.{maps_now, AreKnown}
use Rattle.config_emit.specs.RouterMaps.{with_uses, uses_on}
use Rattle.config_emit.specs.Sources.{plan_of}
use Rattle.config_emit.specs.declared.act_links.ActLink.{ActLink}
use Rattle.config_emit.proofs.BgpParts.{group_uses}
use Rattle.config_emit.proofs.bgp_routers.maps_of_group.Goals as goal

pub returns : goal.returns
returns c =
    let e = plan_of c.args.source.now in
    let g = c.args.group in
    let p = c.args.policies.now in
    let known = maps_now p.maps.items in
    let of = c.requires.policies.are in
    record {
      places = c.in_ok-maps.ensures.places;
      uses = c.in_ok-maps.ensures.uses
          ∙ ap (λ (acts : List Act). with_uses (flat_map (uses_on known acts g) c.args.links.now) []) c.requires.policies.acts
          ∙ ap (λ (ls : List ActLink). with_uses (flat_map (uses_on known e.problem.acts g) ls) []) c.requires.links.are
          ∙ group_uses e known p.numbers.items p.closed_number g c.requires.bgp
          (subst (λ (acts : List Act). AreKnown known acts p.numbers.items) c.requires.policies.acts of.acts) of.closed_known;
    }
