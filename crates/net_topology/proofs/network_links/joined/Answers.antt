use Rattle.std.proofs.Common.{◌∙◌, sym}
use Rattle.net_topology.proofs.Joined.{none_before}
use Rattle.net_topology.proofs.network_links.joined.Goals as goal

pub returns-then-is_empty : goal.returns-then-is_empty
returns-then-is_empty c = none_before c.args.links c.args.more (sym c.is_empty.ensures ∙ c.if-is_empty.true)
