use Rattle.net_topology.proofs.FewLinks.{few_links}
use Rattle.net_topology.proofs.laws.few_links.Goals as goal

pub returns : goal.returns
returns c = few_links
