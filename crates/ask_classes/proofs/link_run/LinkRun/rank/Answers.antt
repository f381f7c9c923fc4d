use Rattle.std.proofs.Common.{◌∙◌}
use Rattle.ask_classes.proofs.Runs.{rank_of_run}
use Rattle.ask_classes.proofs.link_run.LinkRun.rank.Goals as goal

pub returns : goal.returns
returns c =
    let run = c.args.self in
    c.count_between-2.ensures
    ∙ rank_of_run c.args.links.now c.args.place run.first run.highest c.args.link c.requires.run.first c.if-link-self.false c.requires.run.below
