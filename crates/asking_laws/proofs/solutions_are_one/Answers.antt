use Rattle.asking_laws.proofs.Both.{whole, own_left, same_keys}
use Rattle.asking_laws.proofs.Chosen.{label_inside}
use Rattle.asking_laws.proofs.solutions_are_one.Goals as goal

pub returns : goal.returns
returns c = λ problem first second good none st st' u lt.
    same_keys problem problem good good none none (whole problem) first st
    (λ v r lab. own_left problem first st v r (label_inside problem good none first st v r lab) lab) second st' u
