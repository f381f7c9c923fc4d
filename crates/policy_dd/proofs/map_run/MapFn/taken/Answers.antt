use Rattle.std.proofs.Common.{◌&&◌, ℕ, List, subst}
use Rattle.dd_core.proofs.ShownLemmas.{grows_trans, grows_inside}
use Rattle.dd_core.specs.Sets.{value_of}
use Rattle.base_kit.specs.Sets.{has}
use Rattle.policy_dd.specs.Tables.{IsTableGrown}
use Rattle.policy_dd.proofs.TableLemmas.{cases_inside_kept}
use Rattle.policy_dd.proofs.RunLemmas.{taken_is}
use Rattle.policy_dd.proofs.map_run.MapFn.taken.Goals as goal

pub or_into-requires-clause-inside : goal.or_into-requires-clause-inside
or_into-requires-clause-inside c =
    cases_inside_kept c.args.store.now c.or_if.new.store c.args.self.lps (grows_trans _ _ _ c.in_ok-permit.ensures.grows c.in_ok-rest.ensures.grows)
    c.requires.inside.lps

pub or_count-requires-clause-inside : goal.or_count-requires-clause-inside
or_count-requires-clause-inside c =
    cases_inside_kept c.args.store.now c.or_into.new.store c.args.self.adds
    (grows_trans _ _ _ (grows_trans _ _ _ c.in_ok-permit.ensures.grows c.in_ok-rest.ensures.grows) c.in_ok-lps.ensures.grows) c.requires.inside.adds

pub or_named-requires-clause-inside : goal.or_named-requires-clause-inside
or_named-requires-clause-inside c =
    cases_inside_kept c.args.store.now c.or_count.new.store c.args.self.present
    (grows_trans _ _ _ (grows_trans _ _ _ (grows_trans _ _ _ c.in_ok-permit.ensures.grows c.in_ok-rest.ensures.grows) c.in_ok-lps.ensures.grows)
    c.in_ok-adds.ensures.grows) c.requires.inside.present

pub or_all-requires-clause-inside : goal.or_all-requires-clause-inside
or_all-requires-clause-inside c =
    cases_inside_kept c.args.store.now c.or_named.new.store c.args.self.odd
    (grows_trans _ _ _ (grows_trans _ _ _ (grows_trans _ _ _ (grows_trans _ _ _ c.in_ok-permit.ensures.grows c.in_ok-rest.ensures.grows)
    c.in_ok-lps.ensures.grows) c.in_ok-adds.ensures.grows) c.in_ok-present.ensures.grows) c.requires.inside.odd

pub returns-clause-taken : goal.returns-clause-taken
returns-clause-taken c =
    let odd : IsTableGrown c.or_named.new.store c.or_all.new.store c.args.self.odd c.in_ok-odd.odd c.in_ok-left.left.odd
    (λ k set. has c.in_ok-left.left.odd k && value_of c.or_named.new.store set c.args.decides) =
    subst (λ (l : List ℕ). IsTableGrown c.or_named.new.store c.or_all.new.store c.args.self.odd c.in_ok-odd.odd l
    (λ k set. has l k && value_of c.or_named.new.store set c.args.decides)) c.as_slice.ensures.all c.in_ok-odd.ensures.more in
    taken_is c.args.store.now c.or.new.self c.or_if.new.store c.or_into.new.store c.or_count.new.store c.or_named.new.store c.or_all.new.store
    c.in_ok-permit.ensures.grows c.in_ok-rest.ensures.grows c.in_ok-lps.ensures.grows c.in_ok-adds.ensures.grows c.in_ok-present.ensures.grows
    c.in_ok-odd.ensures.grows c.args.self c.args.before c.args.decides c.in_ok-permit.permit c.in_ok-rest.rest c.unwrap_or.result c.in_ok-lps.lps
    c.in_ok-adds.adds c.in_ok-present.present c.in_ok-odd.odd c.in_ok-left.left c.args.entry.now c.requires.inside c.requires.before_inside
    c.requires.decides_inside c.requires.known c.in_ok-left.ensures c.unwrap_or.ensures c.in_ok-adds.ensures.small c.in_ok-permit.ensures.or
    c.in_ok-rest.ensures.or c.in_ok-lps.ensures.more c.in_ok-adds.ensures.more c.in_ok-present.ensures.more odd

pub or_if-requires-clause-a_inside : goal.or_if-requires-clause-a_inside
or_if-requires-clause-a_inside c = grows_inside _ _ _ c.in_ok-permit.ensures.grows c.requires.inside.rest

pub or_if-requires-clause-b_inside : goal.or_if-requires-clause-b_inside
or_if-requires-clause-b_inside c = grows_inside _ _ _ c.in_ok-permit.ensures.grows c.requires.decides_inside

pub or_into-requires-clause-node_inside : goal.or_into-requires-clause-node_inside
or_into-requires-clause-node_inside c = grows_inside _ _ _ (grows_trans _ _ _ c.in_ok-permit.ensures.grows c.in_ok-rest.ensures.grows) c.requires.decides_inside

pub or_count-requires-clause-node_inside : goal.or_count-requires-clause-node_inside
or_count-requires-clause-node_inside c = grows_inside _ _ _ (grows_trans _ _ _
    (grows_trans _ _ _ c.in_ok-permit.ensures.grows c.in_ok-rest.ensures.grows) c.in_ok-lps.ensures.grows) c.requires.decides_inside

pub or_named-requires-clause-node_inside : goal.or_named-requires-clause-node_inside
or_named-requires-clause-node_inside c = grows_inside _ _ _ (grows_trans _ _ _
    (grows_trans _ _ _ (grows_trans _ _ _ c.in_ok-permit.ensures.grows c.in_ok-rest.ensures.grows) c.in_ok-lps.ensures.grows) c.in_ok-adds.ensures.grows)
    c.requires.decides_inside

pub or_all-requires-clause-node_inside : goal.or_all-requires-clause-node_inside
or_all-requires-clause-node_inside c = grows_inside _ _ _ (grows_trans _ _ _
    (grows_trans _ _ _ (grows_trans _ _ _ (grows_trans _ _ _ c.in_ok-permit.ensures.grows c.in_ok-rest.ensures.grows) c.in_ok-lps.ensures.grows)
    c.in_ok-adds.ensures.grows) c.in_ok-present.ensures.grows) c.requires.decides_inside

pub returns-in_err-rest-clause-grows : goal.returns-in_err-rest-clause-grows
returns-in_err-rest-clause-grows c = grows_trans _ _ _ c.in_ok-permit.ensures.grows c.in_err-rest.ensures.grows

pub returns-in_err-lps-clause-grows : goal.returns-in_err-lps-clause-grows
returns-in_err-lps-clause-grows c = grows_trans _ _ _ (grows_trans _ _ _ c.in_ok-permit.ensures.grows c.in_ok-rest.ensures.grows) c.in_err-lps.ensures.grows

pub returns-in_err-adds-clause-grows : goal.returns-in_err-adds-clause-grows
returns-in_err-adds-clause-grows c = grows_trans _ _ _ (grows_trans _ _ _
    (grows_trans _ _ _ c.in_ok-permit.ensures.grows c.in_ok-rest.ensures.grows) c.in_ok-lps.ensures.grows) c.in_err-adds.ensures.grows

pub returns-in_err-present-clause-grows : goal.returns-in_err-present-clause-grows
returns-in_err-present-clause-grows c = grows_trans _ _ _ (grows_trans _ _ _
    (grows_trans _ _ _ (grows_trans _ _ _ c.in_ok-permit.ensures.grows c.in_ok-rest.ensures.grows) c.in_ok-lps.ensures.grows) c.in_ok-adds.ensures.grows)
    c.in_err-present.ensures.grows

pub returns-in_err-odd-clause-grows : goal.returns-in_err-odd-clause-grows
returns-in_err-odd-clause-grows c = grows_trans _ _ _ (grows_trans _ _ _
    (grows_trans _ _ _ (grows_trans _ _ _ (grows_trans _ _ _ c.in_ok-permit.ensures.grows c.in_ok-rest.ensures.grows) c.in_ok-lps.ensures.grows)
    c.in_ok-adds.ensures.grows) c.in_ok-present.ensures.grows) c.in_err-odd.ensures.grows

pub returns-clause-grows : goal.returns-clause-grows
returns-clause-grows c = grows_trans _ _ _ (grows_trans _ _ _
    (grows_trans _ _ _ (grows_trans _ _ _ (grows_trans _ _ _ c.in_ok-permit.ensures.grows c.in_ok-rest.ensures.grows) c.in_ok-lps.ensures.grows)
    c.in_ok-adds.ensures.grows) c.in_ok-present.ensures.grows) c.in_ok-odd.ensures.grows
