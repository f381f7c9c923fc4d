use Rattle.std.proofs.Common.{ℕ, List, sym, ◌∙◌, subst}
use Rattle.cfg_ast.specs.meaning.PolicyFaults.{communities_of}
use Rattle.route_maps.specs.Within.{AreWithin}
use Rattle.driver.proofs.Universe.{within_itself}
use Rattle.driver.proofs.shared.Shared.problem.Goals as goal

pub build_over-requires-clause-known : goal.build_over-requires-clause-known
build_over-requires-clause-known c =
    let named = communities_of c.args.checked.now.network in
    subst (λ (set : List ℕ). AreWithin set named) (sym c.requires.shared.universe) (within_itself named)

pub returns-clause-shared : goal.returns-clause-shared
returns-clause-shared c = record {
  links = c.requires.shared.links;
  directions = c.requires.shared.directions;
  universe = c.build_over.ensures.grows.universe ∙ c.requires.shared.universe;
}
