use Rattle.srp_core.specs.Stability.{label}
use Rattle.asking_laws.proofs.Left.{part_of}
use Rattle.question_laws.proofs.Kept.{keys_tell, true_left}
use Rattle.question_laws.proofs.SameLabels.{other_way, on}
use Rattle.question_laws.proofs.spare_links_keep_answers.Goals as goal

pub returns : goal.returns
returns c = λ problem other down labels asked loses without is.
    let none = c.none_becomes_lone.ensures problem other down loses.rules loses.none_lone without in
    let found = c.one_exists.ensures other without.rules none in
    let part = part_of problem other down loses.rules without loses.links in
    record {
      yes = λ v. record {
        some = found.labels;
        stable = found.stable;
        all = λ after st.
            true_left problem other part labels after (c.spare_links_keep_keys.ensures problem other down labels after loses without st) asked is
            (v.all labels loses.stable);
      };
      no = λ of v. record {
        labels = found.labels;
        stable = found.stable;
        fails = λ t.
            v.fails (keys_tell other problem found.labels v.labels _
            (λ u lt. on other problem problem (label found.labels u) (label labels u) (label v.labels u)
            (other_way problem other (label labels u) (label found.labels u)
            ((c.spare_links_keep_keys.ensures problem other down labels found.labels loses without found.stable).keys u lt))
            (c.solutions_are_one.ensures problem labels v.labels loses.rules loses.none_lone loses.stable v.stable u lt)) asked of is.routers t);
      };
      some = λ none. none labels loses.stable;
      some_left = λ none. none found.labels found.stable;
    }
