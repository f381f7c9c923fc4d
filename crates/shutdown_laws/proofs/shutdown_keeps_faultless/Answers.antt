use Rattle.shutdown_laws.proofs.Faultless.{faultless_after}
use Rattle.shutdown_laws.proofs.shutdown_keeps_faultless.Goals as goal

pub returns : goal.returns
returns c = faultless_after
