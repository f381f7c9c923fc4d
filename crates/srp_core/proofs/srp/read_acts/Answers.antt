use Rattle.std.proofs.Common.{All, arith, subst}
use Rattle.std.proofs.lemmas.List.{take_all}
use Rattle.std.proofs.lemmas.List.Elements.{All-more}
use Rattle.srp_core.specs.Acts.{KeepsSets}
use Rattle.srp_core.proofs.srp.read_acts.Goals as goal

pub loop-act-preserved : goal.loop-act-preserved
loop-act-preserved c = All-more KeepsSets c.args.acts.now c.loop-act.act-index c.act-item.result (omega arith) c.loop-act.invariant
    (subst KeepsSets c.act-item.is c.read_act.ensures)

pub returns : goal.returns
returns c = subst (All KeepsSets) (take_all c.loop-act.act-index c.args.acts.now (omega arith)) c.loop-act.invariant
