use Rattle.srp_core.proofs.KeyOrder as keys
use Rattle.srp_core.proofs.KeyParts as parts
use Rattle.srp_core.proofs.laws.keys.order.Goals as goal

pub returns-clause-total : goal.returns-clause-total
returns-clause-total c = keys.key_total

pub returns-clause-equal : goal.returns-clause-equal
returns-clause-equal c = λ a b. (keys.keys_equal a b, parts.equal_same a b)
