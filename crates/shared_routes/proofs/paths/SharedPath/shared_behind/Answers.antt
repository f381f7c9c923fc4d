use Rattle.std.proofs.Common.{ℕ, suc, List, ◌++◌, replicate, ap, ◌∙◌}
use Rattle.srp_core.proofs.Repeats.{prepended-replicate}
use Rattle.shared_routes.proofs.paths.SharedPath.shared_behind.Goals as goal

pub returns : goal.returns
returns c =
    let number = c.args.number in
    let times = suc c.args.adds in
    c.in_ok-longer.ensures ∙ ap (λ (l : List ℕ). l ++ c.in_ok-new.field-0.value) c.in_ok-own.ensures
    ∙ ap (λ (l : List ℕ). replicate times number ++ l) (c.in_ok-new.ensures.ok ∙ c.in_ok-path.ensures)
    ∙ prepended-replicate times number c.args.self.now
