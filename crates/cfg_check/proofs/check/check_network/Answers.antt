use Rattle.std.proofs.Common.{List, flat_map, sym, ap, ◌∙◌}
use Rattle.cfg_ast.specs.declared.network.Router.{Router}
use Rattle.cfg_ast.specs.meaning.PolicyFaults.{communities_of, communities_in, mentions_of}
use Rattle.cfg_ast.specs.meaning.Meaning.{meaning_faults, refused_by, judged}
use Rattle.cfg_check.proofs.Faultless.{faultless_of}
use Rattle.cfg_check.proofs.LeastFault.{none_least}
use Rattle.cfg_check.proofs.check.check_network.Goals as goal

pub new-requires-clause-faultless : goal.new-requires-clause-faultless
new-requires-clause-faultless c = faultless_of c.args.network (none_least (meaning_faults c.args.network) (sym c.in_ok-fault.ensures ∙ c.in-None.is))

pub least_fault-requires : goal.least_fault-requires
least_fault-requires c = c.as_slice-3.ensures.value ∙ c.in_ok-mentions.ensures ∙ ap (λ (rs : List Router). flat_map mentions_of rs) c.as_slice.ensures

pub new-requires-clause-named : goal.new-requires-clause-named
unfolding communities_of
new-requires-clause-named c = c.in_ok-communities-in-None.ensures
    ∙ ap communities_in (c.as_slice-in-None.ensures.value ∙ c.in_ok-mentions.ensures ∙ ap (λ (rs : List Router). flat_map mentions_of rs) c.as_slice.ensures)

pub returns-in-Some-clause-refused : goal.returns-in-Some-clause-refused
unfolding judged
returns-in-Some-clause-refused c = ap (refused_by c.args.network) (sym c.in_ok-fault.ensures ∙ c.in-Some.is)

pub returns-in_ok-communities-in-None-clause-accepted : goal.returns-in_ok-communities-in-None-clause-accepted
unfolding judged
returns-in_ok-communities-in-None-clause-accepted c = ap (refused_by c.args.network) (sym c.in_ok-fault.ensures ∙ c.in-None.is)
