use Rattle.asking_laws.proofs.Both.{same_keys, forwards_before, forwards_after}
use Rattle.asking_laws.proofs.Left.{none_becomes_lone, part_of, spare_left}
use Rattle.asking_laws.proofs.spare_links_keep_keys.Goals as goal

pub returns : goal.returns
returns c = λ problem other down labels after loses without st.
    let none = none_becomes_lone problem other down loses.rules without loses.none_lone in
    let part = part_of problem other down loses.rules without loses.links in
    let spare = spare_left problem other down labels loses without in
    record {
      keys = λ u lt. same_keys problem other loses.rules without.rules loses.none_lone none part labels loses.stable spare after st u;
      forwards = forwards_before problem other loses.rules without.rules loses.none_lone none part labels loses.stable spare after st;
      forwarded = forwards_after problem other loses.rules without.rules loses.none_lone none part labels loses.stable spare after st;
    }
