use Rattle.srp_questions.proofs.KeysDecide as lemmas
use Rattle.srp_questions.proofs.laws.keys_decide.Goals as goal

pub returns : goal.returns
returns c = lemmas.keys_decide
