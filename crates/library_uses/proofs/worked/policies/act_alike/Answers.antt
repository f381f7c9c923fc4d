-- The function of the first map keeps its meaning while that of the second is made.
use Rattle.library_uses.specs.InMaps.{taken_by}
use Rattle.library_uses.proofs.worked.policies.act_alike.Goals as goal

pub returns-clause-alike : goal.returns-clause-alike
returns-clause-alike c =
    let of_one = taken_by c.args.router.now c.args.first.now c.args.p in
    let of_other = taken_by c.args.router.now c.args.second.now c.args.p in
    let kept = c.edge_kept.ensures c.taken.new.store c.taken-2.new.store c.in_ok-one.one of_one c.in_ok-other.ensures.grows c.in_ok-one.ensures.edge in
    c.same.ensures.same of_one of_other kept c.in_ok-other.ensures.edge

pub returns-clause-only : goal.returns-clause-only
returns-clause-only c =
    let of_one = taken_by c.args.router.now c.args.first.now c.args.p in
    let of_other = taken_by c.args.router.now c.args.second.now c.args.p in
    let kept = c.edge_kept.ensures c.taken.new.store c.taken-2.new.store c.in_ok-one.one of_one c.in_ok-other.ensures.grows c.in_ok-one.ensures.edge in
    c.same.ensures.different of_one of_other kept c.in_ok-other.ensures.edge
