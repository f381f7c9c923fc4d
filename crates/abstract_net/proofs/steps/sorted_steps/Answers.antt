use Rattle.abstract_net.proofs.steps.sorted_steps.Goals as goal

pub returns : goal.returns
returns c = record {
  early = c.in_ok-steps.steps.items;
  are = c.in_ok-steps.ensures;
  sorted = c.in_ok-sort_by_groups.ensures;
}
