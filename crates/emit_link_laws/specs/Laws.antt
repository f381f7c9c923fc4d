-- The links of the network of the groups.
use Rattle.std.specs.Prelude.{◌≡◌, ℕ, ◌+◌, List, filter, length, map, take}
use Rattle.std.specs.List.{enumerate_from}
use Rattle.base_kit.specs.declared.protocol.Protocol.{Protocol}
use Rattle.base_kit.specs.declared.protocol.Protocol.TheVariants.{Bgp as OverBgp, Ospf as OverOspf}
use Rattle.cfg_ast.specs.declared.topology.Link.{Link}
use Rattle.cfg_ast.specs.meaning.Topology.{links_of}
use Rattle.cfg_check.specs.Faultless.{IsFaultless}
use Rattle.abstract_net.specs.declared.qlink.QLink.{QLink}
use Rattle.srp_quotient.specs.Groups.{touches}
use Rattle.config_emit.specs.Plan.{Plan}
use Rattle.config_emit.specs.Interfaces.{class_interfaces}
use Rattle.config_emit.specs.Emitted.{emitted}
use Rattle.config_emit.specs.Laws.{IsPlan}

-- how many interfaces of a group stand before those of its links; no neighbour line stands before those
abbrev pub first_item : Protocol → Plan → ℕ → ℕ
first_item OverBgp e g = 0
first_item OverOspf e g = length (class_interfaces e g)

-- how many of the first links are at a group
abbrev pub links_before : List QLink → ℕ → ℕ → ℕ
links_before links g t = length (filter (touches g) (take t links))

-- the place of the interface of link t at a group, in BGP that of its neighbour line
abbrev pub item_at : Plan → ℕ → ℕ → ℕ
item_at e g t = first_item e.problem.protocol e g + links_before e.links g t

-- link t of the network
abbrev pub emitted_link : Plan → ℕ × QLink → Link
emitted_link e (t, l) = record { low = l.low; high = l.high; low_item = item_at e l.low t; high_item = item_at e l.high t }

-- The links of the network of the groups are those of the plan, in order.
abbrev pub EmittedLinks : Type 0
EmittedLinks = (e : Plan) → IsPlan e → IsFaultless (emitted e) → links_of (emitted e) ≡ map (emitted_link e) (enumerate_from 0 e.links)
