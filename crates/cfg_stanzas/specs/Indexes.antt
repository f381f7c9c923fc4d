-- What a set or a map beside a list says of the items of the list.
use Rattle.std.specs.Prelude.{◌≡◌, ℕ, List, Option, Some, None, ⊤, nat_eq}
use Rattle.std.specs.List.{list_any, position}
use Rattle.std.specs.Ordering.{nat_cmp, ordering_then, is_eq}
use Rattle.std.specs.declared.cmp.Ordering.{Ordering}
use Rattle.std.specs.BTreeMap as tree
use Rattle.std.specs.BTreeSet as sorted
use Rattle.base_kit.specs.Prefixes.{Prefix}
use Rattle.base_kit.specs.contracts.prefix.PrefixOrd.TheImpl as prefix_ord
use Rattle.cfg_ast.specs.declared.bgp.NetLine.{NetLine}
use Rattle.cfg_ast.specs.declared.bgp.Neighbor.{Neighbor}
use Rattle.cfg_ast.specs.declared.ospf.AreaLine.{AreaLine}

-- ---- the keys of the items

abbrev pub net_prefix : NetLine → Prefix
net_prefix net = net.prefix

abbrev pub area_key : AreaLine → ℕ × ℕ × ℕ
area_key area = (area.addr, area.wild, area.area)

-- ---- how keys are ordered

abbrev pub prefix_order : Prefix → Prefix → Ordering
prefix_order = (prefix_ord.ghosts).cmp

abbrev pub area_order : ℕ × ℕ × ℕ → ℕ × ℕ × ℕ → Ordering
area_order a b = ordering_then (ordering_then (nat_cmp a.0 b.0) (nat_cmp a.1 b.1)) (nat_cmp a.2 b.2)

-- ---- sets and maps beside a list

-- the set has a key where an item has it
abbrev pub HasKeys : {X K : Type 0} → (K → K → Ordering) → (X → K) → sorted.BTreeSet K → List X → Type 0
HasKeys order key set items = (wanted : _) → sorted.contains order set wanted ≡ list_any (λ x. is_eq (order (key x) wanted)) items

-- the map has the place of the first neighbour of an address
abbrev pub HasAddresses : tree.BTreeMap ℕ ℕ → List Neighbor → Type 0
HasAddresses places items = (wanted : ℕ) → tree.get nat_cmp places wanted ≡ position (λ (p : Neighbor). nat_eq p.addr wanted) items

-- the map has this place at this address, if one is given
abbrev pub HasPlace : tree.BTreeMap ℕ ℕ → Option (ℕ × ℕ) → Type 0
HasPlace places None = ⊤
HasPlace places (Some (addr, place)) = tree.get nat_cmp places addr ≡ Some place

-- the map has the place of each address, also of the last one, which stands beside the map
abbrev pub AreAddresses : tree.BTreeMap ℕ ℕ → Option (ℕ × ℕ) → List Neighbor → Type 0
AreAddresses places last items = HasAddresses places items × HasPlace places last
