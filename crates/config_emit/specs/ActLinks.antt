-- The links of the groups with the acts that stand at them, as they are gathered for `emit`.
use Rattle.std.specs.Prelude.{◌≡◌, ℕ, Bool, ◌||◌, List, Option, None, map, filter, filter_map, nat_eq, if◌then◌else◌}
use Rattle.std.specs.HashMap.{HashMap, get}
use Rattle.std.specs.List.{enumerate_from}
use Rattle.std.specs.Option.{option_map, unwrap_or}
use Rattle.std.specs.declared.hash.FoldHasher.{FoldHasher}
use Rattle.std.specs.declared.hash.BuildHasherDefault.{BuildHasherDefault}
use Rattle.base_kit.specs.Pairs.{same_pair}
use Rattle.base_kit.specs.declared.act_graph.Edge.{Edge}
use Rattle.base_kit.specs.declared.protocol.Protocol.{Protocol}
use Rattle.base_kit.specs.declared.protocol.Protocol.TheVariants.{Bgp as OverBgp, Ospf as OverOspf}
use Rattle.abstract_net.specs.declared.qlink.QLink.{QLink}
use Rattle.abstract_net.specs.Carried.{act_at, side_of}
use Rattle.srp_quotient.specs.Groups.{or_else, last_of, edge_into}
use Rattle.config_emit.specs.declared.act_links.ActLink.{ActLink}
use Rattle.config_emit.specs.declared.act_links.Sides.{Sides}

-- ---- the edges of both ends of a link

abbrev pub group_pair : QLink → ℕ × ℕ
group_pair l = (l.low, l.high)

abbrev pub joins_pair : ℕ × ℕ → QLink → Bool
joins_pair q l = same_pair q (group_pair l)

abbrev pub own_sides : QLink → Sides
own_sides l = record { to_low = side_of l.low l; to_high = side_of l.high l }

-- where a side has no edge, that of others
abbrev pub sides_or : Sides → Sides → Sides
sides_or sides others = record { to_low = or_else sides.to_low others.to_low; to_high = or_else sides.to_high others.to_high }

-- the last edges that links of a pair carry into its groups
abbrev pub last_sides : List QLink → ℕ × ℕ → Sides
last_sides links q = record {
  to_low = last_of (filter_map (side_of q.0) (filter (joins_pair q) links));
  to_high =
      last_of (filter_map (side_of q.1) (filter (joins_pair q) links));
}

abbrev pub SidesByPair : Type 0
SidesByPair = HashMap (ℕ × ℕ) Sides (BuildHasherDefault FoldHasher)

abbrev pub no_sides : Sides
no_sides = record { to_low = None; to_high = None }

abbrev pub sides_at : SidesByPair → ℕ × ℕ → Sides
sides_at last q = unwrap_or (get same_pair last q) no_sides

pub record AreLastSides (last : SidesByPair) (links : List QLink) : Type 0 where
  pub each : (q : ℕ × ℕ) → sides_at last q ≡ last_sides links q

-- the sides of a link were put before those of its pair
pub record NotesSides (old new : SidesByPair) (link : QLink) : Type 0 where
  pub each : (q : ℕ × ℕ) → sides_at new q ≡ (if same_pair (group_pair link) q then sides_or (own_sides link) (sides_at old q) else sides_at old q)

-- the edges that fill the sides of links: in OSPF the last of the pair, in BGP none
abbrev pub filling : Protocol → List QLink → ℕ × ℕ → Sides
filling OverBgp links q = no_sides
filling OverOspf links q = last_sides links q

pub record FillsSides (protocol : Protocol) (links : List QLink) (fill : SidesByPair) : Type 0 where
  pub each : (q : ℕ × ℕ) → sides_at fill q ≡ filling protocol links q

-- ---- links with acts

abbrev pub drawn : List Edge → ℕ → QLink → Sides → ActLink
drawn es t l sides = record {
  number = t;
  low = l.low;
  high = l.high;
  to_low = option_map (act_at es) sides.to_low;
  to_high =
      option_map (act_at es) sides.to_high;
}

abbrev pub act_link_by : SidesByPair → List Edge → ℕ × QLink → ActLink
act_link_by fill es (t, l) = drawn es t l (sides_or (own_sides l) (sides_at fill (group_pair l)))

-- the edges that stand at a link for both directions
abbrev pub full_sides : Protocol → List QLink → QLink → Sides
full_sides q links l = record { to_low = edge_into q links l.low l; to_high = edge_into q links l.high l }

abbrev pub act_link : Protocol → List Edge → List QLink → ℕ × QLink → ActLink
act_link q es links (t, l) = drawn es t l (full_sides q links l)

unfoldable pub act_links : Protocol → List Edge → List QLink → List ActLink
act_links q es links = map (act_link q es links) (enumerate_from 0 links)

-- ---- the ends of a link

abbrev pub ends_at : ℕ → ActLink → Bool
ends_at g x = nat_eq x.low g || nat_eq x.high g

-- the act into an end of a link
abbrev pub act_to : ℕ → ActLink → Option ℕ
act_to g x = if nat_eq x.low g then x.to_low else x.to_high
