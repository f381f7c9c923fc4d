use Rattle.std.proofs.Common.{◌≡◌, take, map, ℕ, nat_eq}
use Rattle.cfg_ast.specs.meaning.RouterFaults.{address_line, repeats}
use Rattle.cfg_check.specs.Items.{same_address}
use Rattle.cfg_check.specs.LeastLine.{least_line}
use Rattle.cfg_ast.specs.meaning.Addresses.{Address}
use Rattle.std.specs.List.{list_any}
use Rattle.std.specs.HashSet as bag
use Rattle.cfg_check.proofs.addresses.repeated_address.Given as goal

abbrev pub invariant-loop-address : goal.invariant-loop-address
invariant-loop-address l = (l.least ≡ least_line (map address_line (repeats same_address (take l.address-index l.addresses))))
    × ((q : ℕ) → bag.contains nat_eq l.seen q ≡ list_any (λ (x : Address). nat_eq q x.addr) (take l.address-index l.addresses))
