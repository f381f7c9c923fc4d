use Rattle.std.proofs.Common.{ap, ◌∙◌}
use Rattle.std.proofs.lemmas.List.Elements.{All-contains}
use Rattle.base_kit.proofs.Elements.{contains_in}
use Rattle.abstract_net.specs.Early.{IsStep}
use Rattle.abstract_net.specs.GroupSteps.{links_of_steps}
use Rattle.abstract_net.proofs.Cells.{links_are}
use Rattle.abstract_net.proofs.StepLists.{within}
use Rattle.abstract_net.proofs.links.quotient_over.Goals as goal

pub returns : goal.returns
returns c = record {
  links = λ count numbered.
      let es = c.args.edges.now in
      let groups = c.args.p.now in
      let steps = c.in_ok-steps.ensures in
      c.in_ok-links.ensures
      ∙ ap links_of_steps (c.deref.ensures.value ∙ steps.sorted)
      ∙ links_are es groups count steps.early steps.are (λ x at. within es groups count numbered c.requires.importers c.requires.exporters x
      (All-contains (IsStep es groups) steps.early x steps.are.real (contains_in steps.early x at)));
}
