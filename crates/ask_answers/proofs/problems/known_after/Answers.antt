use Rattle.std.proofs.Common.{ℕ, List, sym, subst}
use Rattle.std.specs.List.{AllByRecursion}
use Rattle.srp_core.specs.ActMaps.{IsActWithin}
use Rattle.answer_kit.proofs.OneClass.{some_prefix}
use Rattle.ask_answers.proofs.problems.known_after.Goals as goal

pub of-requires : goal.of-requires
of-requires c =
    let network = c.args.checked.now.network in
    let whole = c.in_ok-whole.whole in
    let built = c.in_ok-whole.ensures.built in
    let p = some_prefix network c.args.class.now c.requires.class in
    subst (λ (set : List ℕ). AllByRecursion (IsActWithin set) whole.acts) (sym c.problem_after.ensures.shared.universe)
    (c.acts_stay_within.ensures network p.0 whole built.order (built.acts p.0 p.1))
