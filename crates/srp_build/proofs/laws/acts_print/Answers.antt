use Rattle.srp_build.proofs.ActLaws as lemmas
use Rattle.srp_build.proofs.laws.acts_print.Goals as goal

pub returns : goal.returns
returns c = lemmas.acts_print
