use Rattle.std.proofs.Common.{◌≡◌, [], arith, refl, drop, length}
use Rattle.std.proofs.Math.ListN.{drop_of_length-le}
use Rattle.policy_dd.proofs.MatchLemmas.{drop_item}
use Rattle.policy_dd.proofs.DeletionLemmas.{no_lines, one_line_more}
use Rattle.policy_dd.proofs.deletion.alone.Goals as goal

pub loop-place-init : goal.loop-place-init
loop-place-init c =
    let none : drop (length c.args.lines.now) c.args.lines.now ≡ [] = drop_of_length-le c.args.lines.now (omega arith) in
    record { below = omega arith; alone = rw none (no_lines _ refl c.new.ensures) }

pub loop-place-preserved : goal.loop-place-preserved
loop-place-preserved c =
    let some = c.loop-place-test.true in
    let below = c.loop-place.invariant.below in
    record {
      below = omega arith;
      alone = rw (drop_item c.args.lines.now c.loop-place.place c.index-lines-place.result some below c.index-lines-place.is)
          (one_line_more _ _ _ _ c.loop-place.invariant.alone c.in_ok-answers.ensures);
    }

pub returns : goal.returns
returns c =
    let none = c.loop-place-test.false in
    let e : c.loop-place.place ≡ 0 = omega arith in
    rw e at c.loop-place.invariant.alone
