use Rattle.std.proofs.Common.{◌≡◌, take, filter_map}
use Rattle.cfg_check.specs.Items.{active_address_on}
use Rattle.cfg_check.proofs.pairs.active_addresses_in.Given as goal

abbrev pub invariant-loop-interface : goal.invariant-loop-interface
invariant-loop-interface l = l.found.items ≡ filter_map (active_address_on l.index.router.now) (take l.interface-index l.interfaces)
