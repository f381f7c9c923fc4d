-- Active interfaces by their subnets.
use Rattle.std.specs.Prelude.{ℕ, Bool, List, Option, map, filter, filter_map, nat_lt}
use Rattle.std.specs.Option.{option_map}
use Rattle.cfg_ast.specs.meaning.Addresses.{Address}
use Rattle.cfg_ast.specs.declared.interface.Interface.{Interface}
use Rattle.cfg_ast.specs.declared.network.Network.{Network}
use Rattle.cfg_ast.specs.declared.network.Router.{Router}
use Rattle.cfg_ast.specs.declared.topology.Link.{Link}
use Rattle.cfg_ast.specs.meaning.Topology.{Place, places, interfaces_of, first_address}
use Rattle.cfg_check.specs.Items.{active_address_on}
use Rattle.buckets.specs.Buckets.{is_at_pair}
use Rattle.net_topology.specs.declared.adjacencies.Spot.{Spot}

abbrev pub spot_at : ℕ → ℕ → Address → Spot
spot_at r i a = record { router = r; item = i; len = a.len; first = first_address a }

abbrev pub spot_on : ℕ → ℕ → Router → Interface → Option Spot
spot_on r i owner x = option_map (spot_at r i) (active_address_on owner x)

-- the spot of a place, if its interface is active
abbrev pub spot_of : Place Interface → Option Spot
spot_of p = spot_on p.router p.item p.owner p.value

unfoldable pub spots : Network → List Spot
spots n = filter_map spot_of (places interfaces_of n)

abbrev pub pair_of : Spot → ℕ × ℕ
pair_of s = (s.len, s.first)

abbrev pub is_later : Spot → Spot → Bool
is_later s t = nat_lt s.router t.router

abbrev pub spot_link : Spot → Spot → Link
spot_link s t = record { low = s.router; high = t.router; low_item = s.item; high_item = t.item }

-- the links of a spot with the later ones of its subnet
abbrev pub links_in : List Spot → Spot → List Link
links_in ss s = map (spot_link s) (filter (is_later s) (filter (is_at_pair pair_of (pair_of s)) ss))
