use Rattle.std.proofs.Common.{◌≡◌, ℕ, map, ap, ◌∙◌, arith}
use Rattle.std.specs.List.{range_with_len}
use Rattle.srp_quotient.specs.Groups.{first_member}
use Rattle.solution_lift.proofs.Ranges.{one_more}
use Rattle.solution_lift.proofs.tables.first_members.Goals as goal

pub loop-group-preserved : goal.loop-group-preserved
loop-group-preserved c = one_more (first_member c.args.p.now) _ _ c.loop-group.group _ c.loop-group.invariant c.in_ok-push.ensures.items c.first_member.ensures

pub returns : goal.returns
returns c =
    let same : c.loop-group.group ≡ c.args.count = omega arith in
    c.loop-group.invariant ∙ ap (λ (k : ℕ). map (first_member c.args.p.now) (range_with_len 0 k)) same
