use Rattle.std.proofs.Common.{◌≡◌, ℕ, List, None, ap, sym, ◌∙◌, arith}
use Rattle.std.specs.Ordering.{nat_cmp}
use Rattle.std.specs.Cmp.Lexicographic.{slice_cmp}
use Rattle.srp_core.specs.Problem.{is_lone_number}
use Rattle.srp_core.specs.Routes.{chosen}
use Rattle.srp_core.specs.LoneOrder.{rest_above}
use Rattle.srp_core.proofs.LoneNumbers.{chosen_ascending}
use Rattle.srp_core.proofs.LoneOrder.{whole_rest, turn_equal, turn_shorter}
use Rattle.srp_core.proofs.srp.Srp.compare_lone.Goals as goal

pub loop-x-init : goal.loop-x-init
loop-x-init c =
    let la = chosen (is_lone_number c.args.self.now) c.args.a.now in
    let lb = chosen (is_lone_number c.args.self.now) c.args.b.now in
    ap (λ (l : List ℕ). slice_cmp nat_cmp l (rest_above None lb)) (whole_rest la) ∙ ap (slice_cmp nat_cmp la) (whole_rest lb)

pub loop-x-smaller : goal.loop-x-smaller
loop-x-smaller c =
    let la = chosen (is_lone_number c.args.self.now) c.args.a.now in
    turn_shorter c.loop-x.bound c.in-Some-Some.x la (chosen_ascending (is_lone_number c.args.self.now) c.args.a.now)
    (sym c.in-Some-Some.is-0 ∙ c.next_lone-first.ensures)

pub loop-x-preserved : goal.loop-x-preserved
loop-x-preserved c =
    let test = is_lone_number c.args.self.now in
    let la = chosen (is_lone_number c.args.self.now) c.args.a.now in
    let lb = chosen (is_lone_number c.args.self.now) c.args.b.now in
    let same : c.in-Some-Some.x ≡ c.in-Some-Some.y = (let f = c.if-x-y.false in let g = c.if-y-x.false in omega arith) in
    sym (turn_equal c.loop-x.bound c.in-Some-Some.x c.in-Some-Some.y la lb (chosen_ascending test c.args.a.now) (chosen_ascending test c.args.b.now)
    (sym c.in-Some-Some.is-0 ∙ c.next_lone-first.ensures) (sym c.in-Some-Some.is-1 ∙ c.next_lone-second.ensures) same) ∙ c.loop-x.invariant
