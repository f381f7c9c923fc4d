use Rattle.std.proofs.Common.{◌∙◌, sym}
use Rattle.canon_policy.proofs.Carried.{follows_none, not_kept, not_following}
use Rattle.canon_policy.proofs.parts.least_of_carried.Goals as goal
use Rattle.canon_policy.proofs.parts.least_of_carried.Goals.{else-kept-via-then-kept+else-is_same, else-kept-via-else-kept}

pub returns-then-is_same-clause-unsettled : goal.returns-then-is_same-clause-unsettled
returns-then-is_same-clause-unsettled c = λ kept test fixing kept_hangs hangs of_rest of_node.
    follows_none c.args.store.now c.var.new.self c.len-known.ensures.shown c.in_ok-follows.ensures.grows c.args.rest c.args.node c.args.community
    c.requires.known kept test fixing kept_hangs hangs of_rest of_node
    c.in_ok-follows.follows c.in_ok-follows.ensures.var c.new.result c.new.ensures (sym c.eval-kept.ensures ∙ c.if-kept.true)
    (c.is_same.ensures.same c.if-is_same.true)

pub returns-clause-unsettled : goal.returns-clause-unsettled
returns-clause-unsettled c = λ kept test fixing kept_hangs hangs of_rest of_node. elim c.else-kept.branch [
  | else-kept-via-then-kept+else-is_same w ↦
      not_following c.args.store.now c.var.new.self c.len-known.ensures.shown c.in_ok-follows.ensures.grows c.args.rest c.args.node c.args.community
      c.requires.known kept test fixing kept_hangs hangs of_rest of_node
      c.in_ok-follows.follows c.in_ok-follows.ensures.var c.new.result c.new.ensures (sym c.eval-kept.ensures ∙ w.if-kept.true)
      (w.is_same.ensures.differ w.if-is_same.false) c.first.result c.first.ensures
  | else-kept-via-else-kept w ↦
      not_kept c.args.store.now c.var.new.self c.len-known.ensures.shown c.in_ok-follows.ensures.grows c.args.rest c.args.node c.args.community c.requires.known
      kept test fixing kept_hangs hangs of_rest of_node
      c.new.result c.new.ensures (sym c.eval-kept.ensures ∙ w.if-kept.false) c.first.result c.first.ensures
]
