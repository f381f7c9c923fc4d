use Rattle.std.proofs.Common.{◌+◌, take, sym, subst}
use Rattle.dd_core.proofs.ShownLemmas.{grows_trans}
use Rattle.srp_without.specs.Accepting.{AreOfActs}
use Rattle.srp_without.proofs.ActsSoFar.{of_acts_more}
use Rattle.srp_without.proofs.acts.accepted_by_acts.Goals as goal

pub loop-act-preserved : goal.loop-act-preserved
loop-act-preserved c = record {
  grows = grows_trans c.args.store.now c.loop-act.store c.accepted_by.new.store c.loop-act.invariant.grows c.accepted_by.ensures.grows;
  accepted = subst (λ l. AreOfActs (take (c.loop-act.act-index + 1) c.args.acts.now) l) (sym c.in_ok-push.ensures.items)
      (of_acts_more c.args.acts.now c.loop-act.act-index c.act-item.result c.loop-act.accepted.items c.in_ok-accepted_by.field-0 c.loop-act-test.true
      c.act-item.is c.loop-act.invariant.accepted c.in_ok-accepted_by.ensures.accepted);
}
