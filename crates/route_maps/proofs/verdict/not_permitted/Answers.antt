use Rattle.std.proofs.Common.{rules, ◌≡◌, ◌∷◌, [], not, filter}
use Rattle.cfg_ast.specs.meaning.Lists.{community_list_permits}
use Rattle.base_kit.proofs.SetFacts.{ascending_filter}
use Rattle.route_maps.proofs.verdict.not_permitted.Goals as goal

pub from_ascending-requires : goal.from_ascending-requires
from_ascending-requires c =
    let is : c.in_ok-kept.kept.items ≡ filter (λ x. not (community_list_permits c.args.list.now (x ∷ []))) c.args.comms.now = search rules in
    rw is (ascending_filter (λ x. not (community_list_permits c.args.list.now (x ∷ []))) c.args.comms.now c.as_slice.ensures.ascending)
