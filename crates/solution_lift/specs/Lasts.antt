-- The last edges that links carry into one group from another.
use Rattle.std.specs.Prelude.{ℕ, ◌&&◌, List, Option, None, filter_map, nat_eq, if◌then◌else◌}
use Rattle.base_kit.specs.declared.protocol.Protocol.{Protocol}
use Rattle.base_kit.specs.declared.protocol.Protocol.TheVariants.{Bgp as OverBgp, Ospf as OverOspf}
use Rattle.abstract_net.specs.declared.qlink.QLink.{QLink}
use Rattle.srp_quotient.specs.Groups.{last_of, or_else}

-- the edge that the link carries into g from h
abbrev pub carried : ℕ → ℕ → QLink → Option ℕ
carried g h link =
    if nat_eq link.low g && nat_eq link.high h then link.to_low
    else if nat_eq link.high g && nat_eq link.low h then link.to_high else None

abbrev pub last_between : ℕ → ℕ → List QLink → Option ℕ
last_between g h links = last_of (filter_map (carried g h) links)

-- in OSPF the last edge stands where the link carries none
abbrev pub standing : Protocol → Option ℕ → Option ℕ → Option ℕ
standing OverBgp last side = side
standing OverOspf last side = or_else side last
