-- The problem of the groups of a problem, as a function of the links between the groups (Beckett, Gupta,
-- Mahajan and Walker, Control Plane Compression, SIGCOMM 2018, sections 4 and 5).
use Rattle.std.specs.Prelude.{ℕ, suc, Bool, ◌&&◌, ◌||◌, List, [], ◌∷◌, ◌++◌, Option, Some, None, map, filter, filter_map, flat_map, nat_eq, is_some, slice_index_or, if◌then◌else◌}
use Rattle.std.specs.List.{enumerate_from, range_with_len, list_any}
use Rattle.std.specs.Option.{option_map}
use Rattle.base_kit.specs.declared.protocol.Protocol.{Protocol}
use Rattle.base_kit.specs.declared.protocol.Protocol.TheVariants.{Bgp as OverBgp, Ospf as OverOspf}
use Rattle.base_kit.specs.declared.act_graph.Edge.{Edge}
use Rattle.abstract_net.specs.declared.qlink.QLink.{QLink}
use Rattle.abstract_net.specs.Carried.{act_at, side_of}
use Rattle.abstract_net.specs.Links.{quotient_links}
use Rattle.srp_core.specs.Problem.{Problem, initial, is_lone}
use Rattle.srp_core.specs.Quotient.{first_number}
use Rattle.by_key.specs.ByKey.{by_key}

-- the first member of a group
abbrev pub first_member : List ℕ → ℕ → ℕ
first_member [] g = 0
first_member (x ∷ xs) g = if nat_eq x g then 0 else suc (first_member xs g)

abbrev pub touches : ℕ → QLink → Bool
touches g l = nat_eq l.low g || nat_eq l.high g

abbrev pub same_group_pair : QLink → QLink → Bool
same_group_pair l m = nat_eq l.low m.low && nat_eq l.high m.high

abbrev pub or_else : Option ℕ → Option ℕ → Option ℕ
or_else None other = other
or_else (Some k) other = Some k

-- the last of some places
abbrev pub last_of : List ℕ → Option ℕ
last_of [] = None
last_of (k ∷ ks) = or_else (last_of ks) (Some k)

-- the last edge that the links of this pair carry into g
abbrev pub last_into : List QLink → ℕ → QLink → Option ℕ
last_into links g l = last_of (filter_map (side_of g) (filter (same_group_pair l) links))

-- The edge that stands at a link for the direction into g: that of the link. If the link has none, it is
-- in OSPF, where a link has a cost at both ends, the last one of the pair.
unfoldable pub edge_into : Protocol → List QLink → ℕ → QLink → Option ℕ
edge_into OverBgp links g l = side_of g l
edge_into OverOspf links g l = or_else (side_of g l) (last_into links g l)

abbrev pub lower_edge : List Edge → ℕ → ℕ → ℕ → ℕ → Edge
lower_edge es t g h k = record { importer = g; exporter = h; act = act_at es k; link = t }

abbrev pub listed : Option Edge → List Edge
listed None = []
listed (Some e) = e ∷ []

-- both directions of a link that carry something
abbrev pub edges_of_link : Protocol → List Edge → List QLink → ℕ × QLink → List Edge
edges_of_link q es links (t, l) =
    listed (option_map (lower_edge es t l.low l.high) (edge_into q links l.low l))
    ++ listed (option_map (lower_edge es t l.high l.low) (edge_into q links l.high l))

abbrev pub importer_of : Edge → ℕ
importer_of e = e.importer

abbrev pub exporter_of : Edge → ℕ
exporter_of e = e.exporter

-- the edges by importer, exporter and link
unfoldable pub quotient_edges : Protocol → List Edge → ℕ → List QLink → List Edge
quotient_edges q es count links =
    by_key importer_of count (by_key exporter_of count (flat_map (edges_of_link q es links) (enumerate_from 0 links)))

-- a group with an initial route or a link
abbrev pub is_used : Problem → List ℕ → List QLink → ℕ → Bool
is_used problem groups links g = is_some (initial problem (first_member groups g)) || list_any (touches g) links

-- the AS number of a group
abbrev pub number_of_group : Problem → List ℕ → List QLink → ℕ → ℕ
number_of_group problem groups links g = if is_used problem groups links g then first_number problem.numbers groups g else 0

-- The problem of the groups. Its acts are those of the problem.
unfoldable pub quotient_problem : Problem → List ℕ → ℕ → List QLink → Problem
quotient_problem problem groups count links = record {
  protocol = problem.protocol;
  names = map (λ g. slice_index_or problem.names (first_member groups g) []) (range_with_len 0 count);
  numbers = map (number_of_group problem groups links) (range_with_len 0 count);
  init = map (λ g. initial problem (first_member groups g)) (range_with_len 0 count);
  lone = map (λ g. is_lone problem (first_member groups g)) (range_with_len 0 count);
  acts = problem.acts;
  edges = quotient_edges problem.protocol problem.edges count links;
}

-- the problem of the groups, with the links that carry the acts between them
abbrev pub small_of : Problem → List ℕ → ℕ → Problem
small_of problem groups count = quotient_problem problem groups count (quotient_links problem.edges groups count)
