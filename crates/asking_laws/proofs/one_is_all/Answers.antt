use Rattle.asking_laws.proofs.AllOfOne.{all_of_one}
use Rattle.asking_laws.proofs.one_is_all.Goals as goal

pub returns : goal.returns
returns c = λ problem labels good none st.
    all_of_one problem labels st (λ others st'. c.solutions_are_one.ensures problem others labels good none st' st)
