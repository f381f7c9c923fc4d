use Rattle.std.proofs.Common.{arith, inl, inr}
use Rattle.std.proofs.lemmas.Bool.{cases_lt}
use Rattle.refine_partition.proofs.ClassLemmas.{classes_start, classes_to, reached_none}
use Rattle.refine_partition.proofs.classes.divide_classes.Goals as goal

pub loop-start-init : goal.loop-start-init
loop-start-init c = record {
  within = omega arith;
  apart = λ i j d hi. absurd (omega arith);
  classes = classes_start _ c.args.arrivals.now _ c.requires.below;
  reached = rw c.clear.ensures.items (reached_none _ _ c.requires.below);
}

pub loop-start-preserved : goal.loop-start-preserved
loop-start-preserved c =
    let ends = c.run_end-end.ensures in
    let before = c.loop-start.invariant in
    let more = ends.more in
    record {
      within = ends.within;
      apart = λ i j d hi hj inside. elim (cases_lt i c.loop-start.start) [
        | inl earlier ↦ before.apart i j d earlier (omega arith) inside
        | inr at ↦ let same = ends.same i d at hi in let lt = ends.after j d hj inside in omega arith
      ];
      classes = classes_to _ _ _ _ _ _ _ _ _ ends.more ends.within c.requires.in_range before.apart ends.same before.classes
          c.in_ok-next.ensures.separated;
      reached = c.in_ok-next.ensures.reached;
    }
