use Rattle.std.proofs.Common.{◌≡◌, take, map}
use Rattle.cfg_check.specs.Items.{address_number}
use Rattle.cfg_check.proofs.addresses.numbers_of.Given as goal

abbrev pub invariant-loop-address : goal.invariant-loop-address
invariant-loop-address l = l.numbers.items ≡ map address_number (take l.address-index l.addresses)
