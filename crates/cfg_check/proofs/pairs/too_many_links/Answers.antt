use Rattle.std.proofs.Common.{ℕ, List, flat_map, map, take, sym, ap, subst, ◌∙◌}
use Rattle.cfg_ast.specs.meaning.Addresses.{Address}
use Rattle.cfg_ast.specs.meaning.RouterFaults.{active_addresses_of}
use Rattle.cfg_check.specs.LeastLine.{least_line}
use Rattle.buckets.specs.Buckets.{IsIndex}
use Rattle.cfg_check.specs.Pairs.{subnet_pair, counted, sum_or_line, AddsAll}
use Rattle.cfg_check.proofs.SumLemmas.{counted_more, earlier_more, sum_stops, sum_goes_on}
use Rattle.cfg_check.proofs.pairs.too_many_links.Goals as goal

pub returns-in-Err : goal.returns-in-Err
returns-in-Err c =
    let same = c.as_slice.ensures.value ∙ c.in_ok-addresses.ensures in
    let sum = c.in-Err.ensures.sum ∙ ap (λ (l : List Address). sum_or_line 1048576 c.loop-router.sum (map (counted c.loop-router.seen) l)) same in
    sym (ap (λ (l : List ℕ). least_line l) (sum_stops c.loop-router.seen c.args.routers.now c.loop-router.router-index c.loop-router.sum c.router-item.result _
    c.in-Err.line c.loop-router-test.true c.router-item.is c.loop-router.invariant.seen c.loop-router.invariant.rest sum))

pub loop-router-preserved : goal.loop-router-preserved
loop-router-preserved c =
    let routers = c.args.routers.now in
    let i = c.loop-router.router-index in
    let x = c.router-item.result in
    let below = c.loop-router-test.true in
    let here = c.router-item.is in
    let same = c.as_slice.ensures.value ∙ c.in_ok-addresses.ensures in
    let sum = c.in-Ok.ensures.sum ∙ ap (λ (l : List Address). sum_or_line 1048576 c.loop-router.sum (map (counted c.loop-router.seen) l)) same in
    let adds = subst (λ (l : List Address). AddsAll c.loop-router.seen c.keep.new.seen l) (c.as_slice-in-loop-router.ensures.value ∙ c.in_ok-addresses.ensures)
    c.in_ok-keep.ensures in
    record {
      bound = c.in-Ok.ensures.bound;
      seen = subst (λ (l : List Address). IsIndex subnet_pair c.keep.new.seen l) (earlier_more routers i x below here)
          (counted_more c.loop-router.seen c.keep.new.seen (flat_map active_addresses_of (take i routers)) (active_addresses_of x) c.loop-router.invariant.seen
          adds);
      rest = sum_goes_on c.loop-router.seen routers i c.loop-router.sum x _ c.in-Ok.more below here c.loop-router.invariant.seen c.loop-router.invariant.rest
          sum;
    }
