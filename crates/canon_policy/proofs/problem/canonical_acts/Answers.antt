use Rattle.std.proofs.Common.{◌≤◌, List, length, sym, subst, ap, arith}
use Rattle.std.proofs.lemmas.List.{take_all}
use Rattle.base_kit.specs.declared.act_graph.Edge.{Edge}
use Rattle.canon_policy.specs.MadeActs.{AreCanonicalActs, AreActsSoFar}
use Rattle.canon_policy.proofs.ActPlaces.{in_acts}
use Rattle.canon_policy.proofs.ActsSoFar.{all_seen}
use Rattle.canon_policy.proofs.problem.canonical_acts.Goals as goal

pub returns-clause-acts : goal.returns-clause-acts
returns-clause-acts c =
    let n = ap length c.edges-place-end.ensures in
    let ends = c.loop-place-test.false in
    let whole : length c.args.srp.now.edges ≤ c.loop-place.place = omega arith in
    subst (AreCanonicalActs c.args.store.now.universe c.args.srp.now) (sym c.from_vec.ensures)
    (all_seen c.args.store.now.universe c.args.srp.now c.loop-place.made.items c.loop-place.done.items (in_acts c.args.srp.now c.count-known.ensures.rules)
    (subst (λ (l : List Edge). AreActsSoFar c.args.store.now.universe c.args.srp.now l c.loop-place.made.items c.loop-place.done.items)
    (take_all c.loop-place.place c.args.srp.now.edges whole) c.loop-place.invariant.so_far))
