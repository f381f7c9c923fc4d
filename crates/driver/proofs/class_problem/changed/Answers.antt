use Rattle.std.proofs.Common.{sym, subst}
use Rattle.srp_core.specs.Problem.{Problem}
use Rattle.driver.specs.Steps.{AreExportsOf}
use Rattle.driver.proofs.class_problem.changed.Goals as goal

pub restart-requires-clause-built : goal.restart-requires-clause-built
restart-requires-clause-built c = let before = c.requires.before in (before.0, before.1, before.2.built)

pub returns : goal.returns
returns c =
    let before = c.requires.before in
    record {
      built = c.in_ok-restart.ensures.built;
      exports = subst (λ (problem : Problem). AreExportsOf problem c.args.made.exports) (sym c.in_ok-restart.ensures.kept)
          (record { total = before.2.exports.total; index = before.2.exports.index });
    }
