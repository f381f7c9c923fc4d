use Rattle.srp_core.proofs.LiftSteps as steps
use Rattle.srp_core.proofs.laws.filling.lift_steps.Goals as goal

pub returns-clause-empty : goal.returns-clause-empty
returns-clause-empty c = λ problem small groups lower. steps.no_labels problem small groups lower

pub returns-clause-started : goal.returns-clause-started
returns-clause-started c = λ problem small groups lower labels can u m i next init. steps.lift_started problem small groups lower can labels u m next i init

pub returns-clause-source : goal.returns-clause-source
returns-clause-source c = λ problem small groups lower can u m inside asked none. steps.some_source problem small groups lower can u m inside asked none

pub returns-clause-found : goal.returns-clause-found
returns-clause-found c = λ problem small groups lower labels can u source m next none on.
    steps.lift_found problem small groups lower can labels u m next source none on

pub returns-clause-taken : goal.returns-clause-taken
returns-clause-taken c = λ problem small groups lower labels can u source m route next none on takes.
    steps.lift_taken problem small groups lower can labels u m next source route none on takes

pub returns-clause-whole : goal.returns-clause-whole
returns-clause-whole c = λ problem small groups lower labels can part full. steps.lift_whole problem small groups lower can labels part full
