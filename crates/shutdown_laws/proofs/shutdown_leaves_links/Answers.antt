use Rattle.shutdown_laws.proofs.ShutLinks.{shut_links}
use Rattle.shutdown_laws.proofs.shutdown_leaves_links.Goals as goal

pub returns : goal.returns
returns c = λ n router item faultless bgp. shut_links router item n faultless bgp
