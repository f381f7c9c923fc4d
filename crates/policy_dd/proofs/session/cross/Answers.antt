use Rattle.std.proofs.Common.{refl}
use Rattle.dd_core.proofs.ShownLemmas.{grows_trans}
use Rattle.policy_dd.proofs.MatchLemmas.{inside_kept}
use Rattle.policy_dd.proofs.CrossLemmas.{start_inside, crossed_is}
use Rattle.policy_dd.proofs.session.cross.Goals as goal

pub run_map-requires-clause-inside : goal.run_map-requires-clause-inside
run_map-requires-clause-inside c = rw c.new.ensures (start_inside _ _ _ c.requires.others c.constant-always.ensures.constant)

pub sent-requires-clause-inside : goal.sent-requires-clause-inside
sent-requires-clause-inside c = inside_kept _ _ _ c.in_ok-first.ensures.grows
    (rw c.new.ensures (start_inside _ _ _ c.requires.others c.constant-always.ensures.constant))

pub sent-requires-clause-map_inside : goal.sent-requires-clause-map_inside
sent-requires-clause-map_inside c = c.in_ok-first.ensures.run.inside

pub run_map-requires-2-clause-inside : goal.run_map-requires-2-clause-inside
run_map-requires-2-clause-inside c = c.in_ok-arrived.ensures.sent.inside

pub run_map-requires-2-clause-known : goal.run_map-requires-2-clause-known
run_map-requires-2-clause-known c = rw ((grows_trans _ _ _ c.in_ok-first.ensures.grows c.in_ok-arrived.ensures.grows).universe) c.requires.into

pub after-requires-clause-inside : goal.after-requires-clause-inside
after-requires-clause-inside c = inside_kept _ _ _ c.in_ok-second.ensures.grows c.in_ok-arrived.ensures.sent.inside

pub after-requires-clause-map_inside : goal.after-requires-clause-map_inside
after-requires-clause-map_inside c = c.in_ok-second.ensures.run.inside

pub returns-clause-crossed : goal.returns-clause-crossed
returns-clause-crossed c =
    crossed_is c.args.store.now c.run_map.new.store c.sent.new.store c.run_map-2.new.store c.after.new.store c.constant-always.result c.args.others
    c.args.out.now c.args.sends c.args.into.now c.in_ok-first.first c.in_ok-second.second c.in_ok-arrived.arrived c.in_ok-end.end
    c.in_ok-first.ensures.grows c.in_ok-arrived.ensures.grows c.in_ok-second.ensures.grows c.in_ok-end.ensures.grows _ (rw c.new.ensures refl)
    (rw c.new.ensures (start_inside _ _ _ c.requires.others c.constant-always.ensures.constant)) c.constant-always.ensures.constant
    c.in_ok-first.ensures.run c.in_ok-arrived.ensures.sent c.in_ok-second.ensures.run c.in_ok-end.ensures.after

pub returns-in_err-arrived-clause-grows : goal.returns-in_err-arrived-clause-grows
returns-in_err-arrived-clause-grows c = grows_trans _ _ _ c.in_ok-first.ensures.grows c.in_err-arrived.ensures.grows

pub returns-in_err-second-clause-grows : goal.returns-in_err-second-clause-grows
returns-in_err-second-clause-grows c = grows_trans _ _ _ (grows_trans _ _ _ c.in_ok-first.ensures.grows c.in_ok-arrived.ensures.grows)
    c.in_err-second.ensures.grows

pub returns-in_err-end-clause-grows : goal.returns-in_err-end-clause-grows
returns-in_err-end-clause-grows c = grows_trans _ _ _ (grows_trans _ _ _
    (grows_trans _ _ _ c.in_ok-first.ensures.grows c.in_ok-arrived.ensures.grows) c.in_ok-second.ensures.grows) c.in_err-end.ensures.grows

pub returns-clause-grows : goal.returns-clause-grows
returns-clause-grows c = grows_trans _ _ _ (grows_trans _ _ _
    (grows_trans _ _ _ c.in_ok-first.ensures.grows c.in_ok-arrived.ensures.grows) c.in_ok-second.ensures.grows) c.in_ok-end.ensures.grows
