use Rattle.std.proofs.Common.{◌≡◌, ◌∙◌, ◌+◌, [], List, drop, ap, sym, arith}
use Rattle.dd_core.proofs.ShownLemmas.{grows_trans}
use Rattle.canon_policy.specs.Fixings.{Part, unsettled, first_unsettled}
use Rattle.canon_policy.proofs.Told.{told_at, inside_at, part_found, found_here, found_later, none_left}
use Rattle.canon_policy.proofs.parts.first_unsettled.Goals as goal

pub returns-then-is_some-clause-unsettled : goal.returns-then-is_some-clause-unsettled
returns-then-is_some-clause-unsettled c = λ kept fixing asked kept_hangs hang of_rest told.
    let at = told_at c.args.store.now fixing c.args.store.now.universe c.args.parts.now asked c.loop-part.part-index c.part-item.result c.part-item.is
    c.loop-part-test.true hang told in
    let inside = inside_at c.args.store.now c.args.parts.now c.loop-part.part-index c.part-item.result c.part-item.is c.loop-part-test.true c.requires.parts in
    let ask = unsettled c.args.store.now.universe kept fixing in
    let one = part_found c.args.store.now c.loop-part.store c.loop-part.invariant.grows c.args.rest c.part-item.result c.in_ok-unsettled.unsettled
    c.in_ok-unsettled.ensures.unsettled kept fixing at.part kept_hangs at.hangs of_rest inside at.told in
    found_here ask at.part (drop (c.loop-part.part-index + 1) asked) c.in_ok-unsettled.unsettled one (sym c.is_some.ensures ∙ c.if-is_some.true)
    ∙ ap (λ (l : List Part). first_unsettled (unsettled c.args.store.now.universe kept fixing) l) (sym at.rest)
    ∙ c.loop-part.invariant.settled kept fixing asked kept_hangs hang of_rest told

pub loop-part-preserved : goal.loop-part-preserved
loop-part-preserved c = record {
  grows = grows_trans _ _ _ c.loop-part.invariant.grows c.in_ok-unsettled.ensures.grows;
  settled = λ kept fixing asked kept_hangs hang of_rest told.
      let at = told_at c.args.store.now fixing c.args.store.now.universe c.args.parts.now asked c.loop-part.part-index c.part-item.result c.part-item.is
      c.loop-part-test.true hang told in
      let inside = inside_at c.args.store.now c.args.parts.now c.loop-part.part-index c.part-item.result c.part-item.is c.loop-part-test.true c.requires.parts
      in
      let ask = unsettled c.args.store.now.universe kept fixing in
      let one = part_found c.args.store.now c.loop-part.store c.loop-part.invariant.grows c.args.rest c.part-item.result c.in_ok-unsettled.unsettled
      c.in_ok-unsettled.ensures.unsettled kept fixing at.part kept_hangs at.hangs of_rest inside at.told in
      sym (found_later ask at.part (drop (c.loop-part.part-index + 1) asked) c.in_ok-unsettled.unsettled one (sym c.is_some.ensures ∙ c.if-is_some.false))
      ∙ ap (λ (l : List Part). first_unsettled (unsettled c.args.store.now.universe kept fixing) l) (sym at.rest)
      ∙ c.loop-part.invariant.settled kept fixing asked kept_hangs hang of_rest told;
}

pub returns-clause-unsettled : goal.returns-clause-unsettled
returns-clause-unsettled c = λ kept fixing asked kept_hangs hang of_rest told.
    let e : drop c.loop-part.part-index asked ≡ [] = none_left c.args.store.now fixing c.args.parts.now asked c.loop-part.part-index (omega arith) told in
    sym (ap (λ (l : List Part). first_unsettled (unsettled c.args.store.now.universe kept fixing) l) e)
    ∙ c.loop-part.invariant.settled kept fixing asked kept_hangs hang of_rest told
