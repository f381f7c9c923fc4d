use Rattle.std.proofs.Common.{length, Err, sym, subst, ap, arith}
use Rattle.srp_core.specs.ActMaps.{IsPrintableAct, IsActWithin}
use Rattle.canon_policy.specs.MadeActs.{IsRefusedAtFirst}
use Rattle.canon_policy.proofs.ActPlaces.{act_inside, act_holds, seen_before, seen_now, refused_first}
use Rattle.canon_policy.proofs.problem.make_act.Goals as goal

pub index-requires : goal.index-requires
index-requires c =
    let i = act_inside c.args.srp.now c.count-known.ensures.rules c.edges.result.now c.edges.ensures c.args.place c.requires.place in
    let n = c.requires.so_far.done_count in omega arith

pub returns-then-index-clause-so_far : goal.returns-then-index-clause-so_far
returns-then-index-clause-so_far c =
    seen_before c.args.srp.now c.count-known.ensures.rules c.edges.result.now c.edges.ensures c.args.place c.requires.place
    c.args.store.now.universe c.args.made.now.items c.args.done.now.items c.requires.so_far c.index.result.now _ c.index.ensures c.if-index.true

pub bounds-acts-act : goal.bounds-acts-act
bounds-acts-act c =
    let i = act_inside c.args.srp.now c.count-known.ensures.rules c.edges.result.now c.edges.ensures c.args.place c.requires.place in
    let n = ap length c.acts.ensures in omega arith

pub canonical_act-requires-clause-printable : goal.canonical_act-requires-clause-printable
canonical_act-requires-clause-printable c =
    act_holds c.args.srp.now c.count-known.ensures.rules c.edges.result.now c.edges.ensures c.args.place c.requires.place
    c.acts.result.now c.acts.ensures c.index-acts-act.result c.index-acts-act.is IsPrintableAct c.requires.printable

pub canonical_act-requires-clause-within : goal.canonical_act-requires-clause-within
canonical_act-requires-clause-within c =
    act_holds c.args.srp.now c.count-known.ensures.rules c.edges.result.now c.edges.ensures c.args.place c.requires.place
    c.acts.result.now c.acts.ensures c.index-acts-act.result c.index-acts-act.is (IsActWithin c.args.store.now.universe) c.requires.within

pub index_mut-requires : goal.index_mut-requires
index_mut-requires c =
    let i = act_inside c.args.srp.now c.count-known.ensures.rules c.edges.result.now c.edges.ensures c.args.place c.requires.place in
    let n = c.requires.so_far.count in omega arith

pub index_mut-requires-in-Ok : goal.index_mut-requires-in-Ok
index_mut-requires-in-Ok c =
    let i = act_inside c.args.srp.now c.count-known.ensures.rules c.edges.result.now c.edges.ensures c.args.place c.requires.place in
    let n = c.requires.so_far.done_count in omega arith

pub returns-in-Err-clause-refused : goal.returns-in-Err-clause-refused
returns-in-Err-clause-refused c =
    subst (λ r. IsRefusedAtFirst c.args.store.now.universe c.args.srp.now (Err r)) (sym c.at_place.ensures)
    (refused_first c.args.srp.now c.count-known.ensures.rules c.edges.result.now c.edges.ensures c.args.place c.requires.place
    c.acts.result.now c.acts.ensures c.index-acts-act.result c.index-acts-act.is
    c.args.store.now.universe c.args.made.now.items c.args.done.now.items c.requires.so_far c.in-Err.refusal c.in-Err.ensures.canonical)

pub returns-in-Ok-clause-so_far : goal.returns-in-Ok-clause-so_far
returns-in-Ok-clause-so_far c =
    seen_now c.args.srp.now c.count-known.ensures.rules c.edges.result.now c.edges.ensures c.args.place c.requires.place
    c.acts.result.now c.acts.ensures c.index-acts-act.result c.index-acts-act.is
    c.args.store.now.universe c.args.made.now.items c.args.done.now.items c.requires.so_far c.in-Ok.canonical c.in-Ok.ensures.canonical c.in-Ok.ensures.instead
