use Rattle.std.proofs.Common.{ℕ, List, sym, subst}
use Rattle.cfg_ast.specs.meaning.PolicyFaults.{communities_of}
use Rattle.route_maps.specs.Within.{AreWithin}
use Rattle.driver.proofs.Universe.{within_itself}
use Rattle.driver.proofs.shared.problem_of_class.Goals as goal

pub build-requires-clause-known : goal.build-requires-clause-known
build-requires-clause-known c =
    let named = communities_of c.args.checked.now.network in
    subst (λ (set : List ℕ). AreWithin set named) (sym c.in_ok-store.ensures) (within_itself named)
