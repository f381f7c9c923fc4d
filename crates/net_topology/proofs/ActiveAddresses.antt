-- The addresses of active interfaces, which are up.
use Rattle.std.proofs.Common.{◌≡◌, Bool, true, false, cond, not, ◌&&◌, Option, None, refl}
use Rattle.std.specs.Option.{option_map_or}
use Rattle.cfg_ast.specs.meaning.Addresses.{Address}
use Rattle.cfg_ast.specs.declared.interface.Interface.{Interface}
use Rattle.cfg_check.specs.Items.{active_address_on}
use Rattle.cfg_ast.specs.meaning.Topology.{Place, active_address, is_passive_in, process_has_address}

address_of_active : (shut : Bool) (o : Option Address) (f : Address → Bool) (b : Bool)
    → cond (option_map_or f (cond shut None o) false && b) o None ≡ cond (option_map_or f (cond shut None o) false && b) (cond shut None o) None
address_of_active true o f b = refl
address_of_active false o f b = refl

-- an active interface is up
pub active_here : (p : Place Interface) → active_address p ≡ active_address_on p.owner p.value
active_here p = address_of_active p.value.shut p.value.address (process_has_address p.owner.ospf) (not (is_passive_in p.owner.ospf p.value.name))
