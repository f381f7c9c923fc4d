use Rattle.std.proofs.Common.{ℕ, ◌<◌, length, get_or, arith, inr, refl}
use Rattle.std.proofs.lemmas.List.{take_more, take_all}
use Rattle.std.proofs.Math.ListN.{length-set}
use Rattle.refine_partition.proofs.TurnLemmas.{settled_more, settled_all}
use Rattle.refine_partition.proofs.moves.settle.Goals as goal

pub loop-router-init : goal.loop-router-init
loop-router-init c = record {
  total = refl;
  settled = λ u. inr (refl, λ (k, inside, at). absurd (omega arith));
}

pub loop-router-preserved : goal.loop-router-preserved
loop-router-preserved c =
    let k = c.loop-router.router-index in
    let here = c.loop-router-test.true in
    let router : ℕ = get_or c.args.reached.now k 0 in
    let inside = c.requires.in_range k 0 here in
    let size = c.requires.one_class_each in
    let total = c.loop-router.invariant.total in
    let known : router < length c.loop-router.classes.items = omega arith in
    record {
      total = let same = length-set c.loop-router.classes.items router (get_or c.args.numbers.now router 0) in omega arith;
      settled = λ u. rw (take_more c.args.reached.now k 0 here) (settled_more _ _ _ _ router u known (c.loop-router.invariant.settled u));
    }

pub returns : goal.returns
returns c =
    let whole = take_all c.loop-router.router-index c.args.reached.now c.loop-router-test.false in
    let size = c.requires.one_class_each in
    let total = c.loop-router.invariant.total in
    settled_all _ _ _ _ (omega arith) (rw whole at c.loop-router.invariant.settled) c.requires.rest
