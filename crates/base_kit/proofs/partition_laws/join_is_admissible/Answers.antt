use Rattle.base_kit.proofs.Mirrors.{join_admissible}
use Rattle.base_kit.proofs.partition_laws.join_is_admissible.Goals as goal

pub returns : goal.returns
returns c = join_admissible _ _ _ _ c.requires.first c.requires.second c.requires.join
