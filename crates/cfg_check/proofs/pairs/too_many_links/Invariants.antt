use Rattle.std.proofs.Common.{◌≡◌, ◌≤◌, take, drop, flat_map, []}
use Rattle.cfg_ast.specs.meaning.RouterFaults.{active_addresses_of, added_after, exceeding}
use Rattle.buckets.specs.Buckets.{IsIndex}
use Rattle.cfg_check.specs.Pairs.{subnet_pair}
use Rattle.cfg_check.proofs.pairs.too_many_links.Given as goal

abbrev pub invariant-loop-router : goal.invariant-loop-router
invariant-loop-router l = record {
  bound : l.sum ≤ 1048576;
  seen : IsIndex subnet_pair l.seen (flat_map active_addresses_of (take l.router-index l.routers));
  rest : exceeding 1048576 l.sum (added_after (flat_map active_addresses_of (take l.router-index l.routers)) (drop l.router-index l.routers)) ≡ exceeding
      1048576 0 (added_after [] l.routers);
}
