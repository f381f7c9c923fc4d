-- The addresses of up interfaces, each found by itself and by where it is attached.
use Rattle.std.specs.Prelude.{◌≡◌, ℕ, Bool, ◌&&◌, List, [], ◌∷◌, Option, None, Some, filter_map, flat_map, nat_eq, if◌then◌else◌}
use Rattle.std.specs.Option.{option_map, option_or}
use Rattle.std.specs.List.{enumerate_from}
use Rattle.std.specs.HashMap.{HashMap, get}
use Rattle.cfg_ast.specs.meaning.Addresses.{Address}
use Rattle.cfg_ast.specs.declared.interface.Interface.{Interface}
use Rattle.cfg_ast.specs.declared.network.Router.{Router}
use Rattle.cfg_ast.specs.meaning.Topology.{up_address, first_address}
use Rattle.number_hashing.specs.declared.hashing.NumberHashing.{NumberHashing}
use Rattle.net_topology.specs.declared.ups.Attachment.{Attachment}
use Rattle.net_topology.specs.declared.ups.Up.{Up}

abbrev pub up_at : ℕ → Address → Up
up_at r a = record { addr = a.addr; at = record { router = r; len = a.len; first = first_address a } }

abbrev pub up_on : ℕ → Interface → Option Up
up_on r x = option_map (up_at r) (up_address x)

abbrev pub ups_on : ℕ × Router → List Up
ups_on (r, owner) = filter_map (up_on r) owner.interfaces

-- the addresses of all up interfaces, in the order of the network
unfoldable pub ups_of : List Router → List Up
ups_of routers = flat_map ups_on (enumerate_from 0 routers)

abbrev pub addr_of : Up → ℕ
addr_of x = x.addr

abbrev pub attachment_of : Up → Attachment
attachment_of x = x.at

abbrev pub same_attachment : Attachment → Attachment → Bool
same_attachment a b = nat_eq a.router b.router && (nat_eq a.len b.len && nat_eq a.first b.first)

-- the last item that passes the test
abbrev pub last_where : {X : Type 0} → (X → Bool) → List X → Option X
last_where test [] = None
last_where test (x ∷ xs) = option_or (last_where test xs) (if test x then Some x else None)

-- the last of the items that has a key
abbrev pub last_with : {K : Type 0} → (K → K → Bool) → (Up → K) → List Up → K → Option Up
last_with same key_of ups key = last_where (λ x. same key (key_of x)) ups

-- the map has the last of the items with each key
pub record IsLookup {K : Type 0} (same : K → K → Bool) (key_of : Up → K) (lookup : HashMap K Up NumberHashing) (ups : List Up) : Type 0 where
  pub each : (key : K) → get same lookup key ≡ last_with same key_of ups key
