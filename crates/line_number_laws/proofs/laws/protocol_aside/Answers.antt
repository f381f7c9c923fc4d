use Rattle.line_number_laws.proofs.Protocols as protocols
use Rattle.line_number_laws.proofs.laws.protocol_aside.Goals as goal

pub returns : goal.returns
returns c = protocols.aside
