use Rattle.existence_laws.proofs.Certificates.{each_graph_has_certificate}
use Rattle.existence_laws.proofs.each_graph_has_certificate.Goals as goal

pub returns : goal.returns
returns c = each_graph_has_certificate
