use Rattle.srp_core.proofs.FoldSteps as steps
use Rattle.srp_core.proofs.laws.filling.fold_steps.Goals as goal

pub returns-clause-empty : goal.returns-clause-empty
returns-clause-empty c = λ problem small groups labels. steps.no_labels problem small groups labels

pub returns-clause-started : goal.returns-clause-started
returns-clause-started c = λ problem small groups labels lower can u r i next init. steps.fold_started problem small groups labels can lower u r next i init

pub returns-clause-source : goal.returns-clause-source
returns-clause-source c = λ problem small groups labels can u r inside asked none. steps.some_source problem small groups labels can u r inside asked none

pub returns-clause-found : goal.returns-clause-found
returns-clause-found c = λ problem small groups labels lower can u source r next none on.
    steps.fold_found problem small groups labels can lower u r next source none on

pub returns-clause-taken : goal.returns-clause-taken
returns-clause-taken c = λ problem small groups labels lower can u source r route next none on takes.
    steps.fold_taken problem small groups labels can lower u r next source route none on takes

pub returns-clause-whole : goal.returns-clause-whole
returns-clause-whole c = λ problem small groups labels lower can part full. steps.fold_whole problem small groups labels can lower part full
