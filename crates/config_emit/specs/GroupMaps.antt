-- The maps of the router of a group, as they are gathered for `emit`.
use Rattle.std.specs.Prelude.{◌≡◌, ℕ, List, map}
use Rattle.route_maps.specs.declared.plain.Plain.{Plain}
use Rattle.config_emit.specs.MapNumbers.{maps_now, ArePolicies}
use Rattle.config_emit.specs.Maps.{maps_of}
use Rattle.config_emit.specs.Plan.{Plan}
use Rattle.config_emit.specs.RouterMaps.{use_now, use_of, AreUses}
use Rattle.config_emit.specs.declared.act_maps.Policies.{Policies}
use Rattle.config_emit.specs.declared.router_maps.MapUse.{MapUse}
use Rattle.config_emit.specs.declared.router_maps.RouterMaps.{RouterMaps}

-- the policies are those of the plan's acts
pub record ArePlanned (e : Plan) (policies : Policies) : Type 0 where
  pub are : ArePolicies policies
  pub acts : policies.acts.now ≡ e.problem.acts

-- the maps are those of the group, each under its number
pub record AreGroupMaps (e : Plan) (g : ℕ) (policies : Policies) (maps : RouterMaps) : Type 0 where
  pub places : AreUses maps.places (map use_now maps.uses.items)
  pub uses : map use_now maps.uses.items ≡ map (use_of (maps_now policies.maps.items)) (maps_of e g)

abbrev pub plain_now : MapUse → Plain
plain_now u = u.plain.now

abbrev pub plains_now : List MapUse → List Plain
plains_now uses = map plain_now uses
