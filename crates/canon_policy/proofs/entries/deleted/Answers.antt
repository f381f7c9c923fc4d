use Rattle.std.proofs.Common.{◌∙◌, ap, sym}
use Rattle.canon_policy.proofs.MadeLists.{case_inside, more_deleted, none_deleted}
use Rattle.canon_policy.proofs.entries.deleted.Goals as goal
use Rattle.canon_policy.proofs.entries.deleted.Goals.{then-out+in_ok-push, else-out}

pub is_out-requires : goal.is_out-requires
is_out-requires c = case_inside c.args.store.now c.args.outs.now c.loop-case.case-index c.case-item.result c.loop-case-test.true c.case-item.is c.requires

pub loop-case-preserved : goal.loop-case-preserved
loop-case-preserved c = elim c.if-out.branch [
  | then-out+in_ok-push w ↦
      ap (λ v. v.items) w.deleted-is
      ∙ more_deleted c.args.store.now c.args.fixing.now c.args.outs.now c.loop-case.case-index c.case-item.result c.loop-case.deleted.items
      w.push.new.self.items c.loop-case-test.true c.case-item.is c.loop-case.invariant
      (sym c.in_ok-out.ensures ∙ w.if-out.true) w.in_ok-push.ensures.items
  | else-out w ↦
      ap (λ v. v.items) w.deleted-is
      ∙ none_deleted c.args.store.now c.args.fixing.now c.args.outs.now c.loop-case.case-index c.case-item.result c.loop-case.deleted.items
      c.loop-case-test.true c.case-item.is c.loop-case.invariant (sym c.in_ok-out.ensures ∙ w.if-out.false)
]
