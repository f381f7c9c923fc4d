use Rattle.std.proofs.Common.{ℕ, List, [], ◌∷◌, ◌++◌, refl, sym, ◌∙◌, ap}
use Rattle.srp_build.proofs.LinePolicyLemmas.{found_fixed, came_fixed}
use Rattle.srp_build.proofs.policies.PolicyTable.number_fixed.Goals as goal

pub returns-in-Some : goal.returns-in-Some
returns-in-Some c =
    let place = c.in_ok-number.number in
    found_fixed c.args.self.now _ c.args.first c.args.map place c.in-Some.policy refl refl c.in_ok-number.ensures.number c.in_ok-number.ensures.grown
    (sym c.policy_of_map.ensures ∙ c.in-Some.is)

pub returns : goal.returns
returns c =
    let place = c.in_ok-number.number in
    let policy = c.in_ok-policy.policy in
    came_fixed c.args.self.now _ c.number.new.self.maps.items c.args.first c.args.map place policy c.in_ok-policy.ensures.last c.in_ok-policy.ensures.next
    (c.in_ok-push.ensures.items ∙ ap (λ (l : List ℕ). l ++ policy ∷ []) c.in_ok-policy.ensures.policies)
    c.in_ok-policy.ensures.maps c.in_ok-number.ensures.number c.in_ok-number.ensures.grown (sym c.policy_of_map.ensures ∙ c.in_default.is)
