-- What the BGP process of a router is made of.
use Rattle.std.specs.Prelude.{ℕ, ◌-◌, false, List, [], ◌∷◌, None, nat_eq, slice_index, if◌then◌else◌}
use Rattle.std.specs.Option.{option_map}
use Rattle.base_kit.specs.Prefixes.{Prefix}
use Rattle.cfg_ast.specs.declared.bgp.NetLine.{NetLine}
use Rattle.cfg_ast.specs.declared.bgp.Neighbor.{Neighbor}
use Rattle.route_maps.specs.declared.plain.Plain.{Plain}
use Rattle.srp_core.specs.declared.route.Act.{Act}
use Rattle.config_emit.specs.Interfaces.{link_address}
use Rattle.config_emit.specs.LinkSteps.{side_on}
use Rattle.config_emit.specs.MapNumbers.{act_maps}
use Rattle.config_emit.specs.RouterMaps.{far_end, act_into_end, use_name}
use Rattle.config_emit.specs.declared.act_links.ActLink.{ActLink}

-- the first number that is not 0 among those at the places
abbrev pub first_among : List ℕ → List ℕ → ℕ
first_among numbers [] = 0
first_among numbers (u ∷ us) = if nat_eq (slice_index numbers u) 0 then first_among numbers us else slice_index numbers u

abbrev pub announced : Prefix → NetLine
announced p = record { prefix = p; line = 0 }

-- the neighbour of g at a link
abbrev pub neighbor_of : List Plain → List Act → List (ℕ × Plain) → List ℕ → ℕ → ActLink → Neighbor
neighbor_of known acts uses numbers g x = record {
  addr = (link_address x.number (1 - side_on g x)).addr;
  remote = slice_index numbers (far_end g x);
  line = 0;
  shut = false;
  sends = (act_maps known (act_into_end acts (far_end g x) x)).sends;
  list_in = None;
  list_out = None;
  map_in = option_map (use_name uses) (act_maps known (act_into_end acts g x)).into;
  map_out = option_map (use_name uses) (act_maps known (act_into_end acts (far_end g x) x)).out;
}
