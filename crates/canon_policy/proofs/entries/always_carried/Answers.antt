use Rattle.std.proofs.Common.{◌∙◌, ap, sym}
use Rattle.canon_policy.proofs.MadeLists.{case_inside, more_carried, none_carried}
use Rattle.canon_policy.proofs.entries.always_carried.Goals as goal
use Rattle.canon_policy.proofs.entries.always_carried.Goals.{then-eval+in_ok-push, else-eval}

pub eval-requires : goal.eval-requires
eval-requires c = case_inside c.args.store.now c.args.outs.now c.loop-case.case-index c.case-item.result c.loop-case-test.true c.case-item.is c.requires

pub loop-case-preserved : goal.loop-case-preserved
loop-case-preserved c = elim c.if-eval.branch [
  | then-eval+in_ok-push w ↦
      ap (λ v. v.items) w.carried-is
      ∙ more_carried c.args.store.now c.args.present.now c.args.outs.now c.loop-case.case-index c.case-item.result c.loop-case.carried.items
      w.push.new.self.items c.loop-case-test.true c.case-item.is c.loop-case.invariant
      (sym c.eval.ensures ∙ w.if-eval.true) w.in_ok-push.ensures.items
  | else-eval w ↦
      ap (λ v. v.items) w.carried-is
      ∙ none_carried c.args.store.now c.args.present.now c.args.outs.now c.loop-case.case-index c.case-item.result c.loop-case.carried.items
      c.loop-case-test.true c.case-item.is c.loop-case.invariant (sym c.eval.ensures ∙ w.if-eval.false)
]
