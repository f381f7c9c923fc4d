-- The first of the steps on the least link.
use Rattle.std.specs.Prelude.{Bool, false, Option, Some, None, nat_eq, nat_lt, not, if◌then◌else◌}
use Rattle.abstract_net.specs.declared.steps.Step.{Step}

abbrev pub is_of_other_act : Option Step → Step → Bool
is_of_other_act None step = false
is_of_other_act (Some least) step = not (nat_eq least.act step.act)

-- the one of the two on the lower link, the first on the same link
abbrev pub lower_of : Option Step → Step → Step
lower_of None step = step
lower_of (Some least) step = if nat_lt step.link least.link then step else least
