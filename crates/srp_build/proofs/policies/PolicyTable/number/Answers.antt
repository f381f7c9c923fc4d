use Rattle.std.proofs.Common.{ℕ, Result, Ok, Err, IfOk}
use Rattle.srp_build.specs.LinePolicies.{IsFixedPolicy, IsPolicyNumber, IsNewPolicy}
use Rattle.srp_build.proofs.LinePolicyLemmas.{new_policy, fixed_number}
use Rattle.srp_build.proofs.policies.PolicyTable.number.Goals as goal

ok_as : {E : Type 0} (P Q : ℕ → Type 0) (r : Result ℕ E) → ((n : ℕ) → P n → Q n) → IfOk r P → IfOk r Q
ok_as P Q (Ok n) f h = f n h
ok_as P Q (Err e) f h = tt

pub returns-then-is_fixed : goal.returns-then-is_fixed
returns-then-is_fixed c =
    let old = c.args.self.now in
    let new = c.number_fixed.new.self in
    let first = c.args.first in
    ok_as (IsFixedPolicy old new first c.in_ok-map.map) (IsPolicyNumber old new first c.args.router.now c.args.line.now) c.number_fixed.result
    (λ number is. fixed_number old new first c.args.router.now c.args.line.now c.new-any.result c.in_ok-map.map number (c.is_fixed.ensures c.if-is_fixed.true)
    c.in_ok-map.ensures is)
    c.number_fixed.ensures

pub returns : goal.returns
returns c =
    let old = c.args.self.now in
    let new = c.push.new.self in
    ok_as (IsNewPolicy old new c.args.first) (IsPolicyNumber old new c.args.first c.args.router.now c.args.line.now) c.push.result
    (λ number is. new_policy old new c.args.first c.args.router.now c.args.line.now number is) c.push.ensures
