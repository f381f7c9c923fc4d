use Rattle.asking_laws.proofs.Both.{keys_come}
use Rattle.asking_laws.proofs.Left.{none_becomes_lone, part_of, spare_left}
use Rattle.asking_laws.proofs.Untied.{no_tie_left}
use Rattle.asking_laws.proofs.spare_links_bring_no_tie.Goals as goal

pub returns : goal.returns
returns c = λ problem other down labels after loses without st tie.
    let none = none_becomes_lone problem other down loses.rules without loses.none_lone in
    let part = part_of problem other down loses.rules without loses.links in
    let spare = spare_left problem other down labels loses without in
    no_tie_left problem other loses.rules without.rules loses.none_lone none part labels after loses.stable st
    (keys_come problem other loses.rules without.rules loses.none_lone none part labels loses.stable spare after st) tie
