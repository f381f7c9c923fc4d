use Rattle.std.proofs.Common.{◌≡◌, ◌<◌, ℕ, Bool, ◌||◌, List, map, length, get_or, ap, ◌∙◌, arith}
use Rattle.std.specs.Prelude.{is_some, if◌then◌else◌}
use Rattle.std.specs.List.{list_any, range_with_len}
use Rattle.std.proofs.lemmas.List.FromFn.{length-map-range_with_len, get_or-map-range_with_len}
use Rattle.srp_core.specs.Problem.{initial}
use Rattle.srp_core.specs.Quotient.{first_number}
use Rattle.srp_quotient.specs.Groups.{first_member, touches, number_of_group}
use Rattle.solution_lift.proofs.Ranges.{one_more}
use Rattle.solution_lift.proofs.tables.numbers_of.Goals as goal

flag_is : (f : ℕ → Bool) (flags : List Bool) (count k : ℕ) (flag : Bool) → flags ≡ map f (range_with_len 0 count) → k < count → flag ≡ get_or flags k flag
    → flag ≡ f k
flag_is f flags count k flag is inside at = at ∙ ap (λ (bs : List Bool). get_or bs k flag) is
    ∙ get_or-map-range_with_len f 0 count k k flag inside (omega arith)

pub index-is_linked-requires : goal.index-is_linked-requires
index-is_linked-requires c =
    let long = ap length c.in_ok-linked.ensures ∙ length-map-range_with_len (λ group. list_any (touches group) c.args.links.now) 0 c.args.count in
    omega arith

pub loop-group-preserved : goal.loop-group-preserved
loop-group-preserved c =
    let flag = flag_is (λ group. list_any (touches group) c.args.links.now) c.in_ok-linked.linked.items c.args.count c.loop-group.group
    c.index-is_linked.result.now c.in_ok-linked.ensures c.loop-group-test.true c.index-is_linked.ensures in
    one_more (number_of_group c.args.srp.now c.args.p.now c.args.links.now) _ _ c.loop-group.group _ c.loop-group.invariant c.in_ok-push.ensures.ok
    (c.number_of_group.ensures ∙ ap (λ (b : Bool). if is_some (initial c.args.srp.now (first_member c.args.p.now c.loop-group.group)) || b then first_number
    c.args.srp.now.numbers c.args.p.now c.loop-group.group else 0) flag)

pub returns : goal.returns
returns c =
    let same : c.loop-group.group ≡ c.args.count = omega arith in
    c.loop-group.invariant ∙ ap (λ (k : ℕ). map (number_of_group c.args.srp.now c.args.p.now c.args.links.now) (range_with_len 0 k)) same
