use Rattle.std.proofs.Common.{◌≡◌, ◌≤◌, drop, map}
use Rattle.cfg_check.specs.Pairs.{counted, sum_or_line}
use Rattle.cfg_check.proofs.pairs.sum_of_pairs.Given as goal

abbrev pub invariant-loop-address : goal.invariant-loop-address
invariant-loop-address l = record {
  bound : l.sum ≤ 1048576;
  rest : sum_or_line 1048576 l.sum (map (counted l.seen) (drop l.address-index l.addresses)) ≡ sum_or_line 1048576 l.initial.sum
      (map (counted l.seen) l.addresses);
}
