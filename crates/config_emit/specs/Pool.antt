-- Where a class cannot be written: its prefixes meet the addresses that the links get.
use Rattle.std.specs.Prelude.{ℕ, ◌-◌, ◌/◌, ◌^◌, Bool, List, Option, None, [], ◌∷◌, find, min, nat_eq, slice_get}
use Rattle.std.specs.Option.{option_map, option_and_then, unwrap_or}
use Rattle.base_kit.specs.Prefixes.{Prefix}
use Rattle.cfg_ast.specs.meaning.Addresses.{Address}
use Rattle.cfg_ast.specs.meaning.Classes.{is_up_in}
use Rattle.cfg_ast.specs.declared.classes.DestClass.{DestClass}
use Rattle.cfg_ast.specs.declared.classes.Origin.{Origin}
use Rattle.cfg_ast.specs.declared.interface.Interface.{Interface}
use Rattle.cfg_ast.specs.declared.network.Network.{Network}
use Rattle.cfg_ast.specs.declared.network.Router.{Router}

-- the prefix and 100.64.0.0/10 (RFC 6598) have an address in common: they are equal as far as the shorter goes
abbrev pub meets_pool : Prefix → Bool
meets_pool p = nat_eq (p.addr / 2 ^ (32 - min p.len 10)) (1681915904 / 2 ^ (32 - min p.len 10))

abbrev pub line_of_address : Interface → Option ℕ
line_of_address x = option_map (λ (a : Address). a.line) x.address

-- the line of the address that a router has in the prefix
abbrev pub line_on : Prefix → Router → Option ℕ
line_on p r = option_and_then line_of_address (find (is_up_in p) r.interfaces)

-- that of the first originator
abbrev pub line_at : Network → List Origin → Prefix → Option ℕ
line_at n [] p = None
line_at n (o ∷ os) p = option_and_then (line_on p) (slice_get n.routers o.router)

-- The line that is refused: that of the least prefix of the class which meets 100.64.0.0/10, on its first originator.
-- None where no prefix of the class does.
unfoldable pub pool_line : Network → DestClass → Option ℕ
pool_line n class = option_map (λ p. unwrap_or (line_at n class.origins p) 0) (find meets_pool class.prefixes)
