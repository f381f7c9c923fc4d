use Rattle.std.proofs.Common.{ap, ◌∙◌}
use Rattle.dd_core.specs.Sets.{Shown}
use Rattle.driver.proofs.shared.store_of.Goals as goal

pub returns : goal.returns
returns c = ap (λ (s : Shown). s.universe) c.in_ok-store.ensures ∙ c.communities.ensures
