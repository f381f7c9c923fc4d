use Rattle.std.proofs.Common.{◌≡◌, nat_eq, sym, ap, ◌∙◌, false, get_or}
use Rattle.std.specs.HashSet.{contains}
use Rattle.srp_core.specs.declared.route.Candidate.{Candidate}
use Rattle.route_run.specs.Activations.{beats, is_still_best}
use Rattle.route_run.proofs.BestChoices.{unbeaten_too, held_kept}
use Rattle.route_run.proofs.choosing.is_kept.Goals as goal

pub returns-in_ok-is_held-in-Some : goal.returns-in_ok-is_held-in-Some
returns-in_ok-is_held-in-Some c =
    let test = contains nat_eq c.args.lone.now in
    let all = c.args.candidates.now in
    let d = c.index-candidates-best.result in
    let route = c.in-Some.route in
    let below : beats test (get_or all c.args.best d).route route ≡ false = sym (ap (λ (k : Candidate). beats test k.route route) c.index-candidates-best.is)
    ∙ sym c.in_ok-beats_route-in-Some.ensures ∙ c.if-branch.false in
    c.in_ok-is_held-in-Some.ensures ∙ held_kept test all route (unbeaten_too test all c.args.best c.requires d route below)
    ∙ ap (is_still_best test all) (sym c.in-Some.is)
