use Rattle.std.proofs.Common.{◌≡◌, take, map}
use Rattle.cfg_ast.specs.meaning.RouterFaults.{address_line, repeats, overlap}
use Rattle.cfg_check.specs.LeastLine.{least_line}
use Rattle.cfg_check.specs.Blocks.{IsKept}
use Rattle.cfg_check.proofs.overlaps.overlapping.Given as goal

abbrev pub invariant-loop-address : goal.invariant-loop-address
invariant-loop-address l = record {
  least : l.least ≡ least_line (map address_line (repeats overlap (take l.address-index l.addresses)));
  kept : IsKept l.seen l.lens (take l.address-index l.addresses);
}
