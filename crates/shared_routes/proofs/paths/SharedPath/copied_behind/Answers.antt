use Rattle.std.proofs.Common.{ℕ, suc, List, ◌++◌, replicate, ap, ◌∙◌}
use Rattle.srp_core.specs.Acts.{prepended}
use Rattle.shared_routes.specs.Rests.{numbers_of}
use Rattle.shared_routes.proofs.Joined.{behind_own}
use Rattle.shared_routes.proofs.paths.SharedPath.copied_behind.Goals as goal

pub returns : goal.returns
returns c =
    let number = c.args.number in
    let times = suc c.args.adds in
    let path = c.self.inside in
    c.in_ok-longer.ensures
    ∙ ap (λ (l : List ℕ). l ++ numbers_of c.in_ok-rest.rest)
    (c.in_ok-extend_from_slice.ensures.items ∙ ap (λ (l : List ℕ). l ++ c.as_slice.result.now) c.in_ok-own.ensures
    ∙ ap (λ (l : List ℕ). replicate times number ++ l) c.as_slice.ensures.value)
    ∙ ap (λ (l : List ℕ). (replicate times number ++ path.own.items) ++ l) c.in_ok-rest.ensures.same
    ∙ behind_own times number path.own.items (numbers_of path.rest)
    ∙ ap (prepended times number) c.self.view_is
