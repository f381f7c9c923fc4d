use Rattle.std.proofs.Common.{ℕ, List, subst}
use Rattle.dd_core.proofs.ShownLemmas.{grows_trans, grows_inside}
use Rattle.policy_dd.specs.MapRun.{IsTableOfEither}
use Rattle.policy_dd.proofs.TableLemmas.{cases_inside_kept}
use Rattle.policy_dd.proofs.EitherLemmas.{either_is}
use Rattle.policy_dd.proofs.map_run.MapFn.either.Goals as goal

pub or_unless-requires-clause-inside : goal.or_unless-requires-clause-inside
or_unless-requires-clause-inside c =
    let g2 = grows_trans _ _ _ c.in_ok-before.ensures.grows c.in_ok-permit.ensures.grows in
    let g3 = grows_trans _ _ _ g2 c.in_ok-rest.ensures.grows in
    cases_inside_kept _ _ _ g3 c.requires.first_inside.lps

pub or_unless-requires-clause-more_inside : goal.or_unless-requires-clause-more_inside
or_unless-requires-clause-more_inside c =
    let g2 = grows_trans _ _ _ c.in_ok-before.ensures.grows c.in_ok-permit.ensures.grows in
    let g3 = grows_trans _ _ _ g2 c.in_ok-rest.ensures.grows in
    rw c.as_slice.ensures (cases_inside_kept _ _ _ g3 c.requires.last_inside.lps)

pub or_unless-requires-2-clause-inside : goal.or_unless-requires-2-clause-inside
or_unless-requires-2-clause-inside c =
    let g2 = grows_trans _ _ _ c.in_ok-before.ensures.grows c.in_ok-permit.ensures.grows in
    let g3 = grows_trans _ _ _ g2 c.in_ok-rest.ensures.grows in
    let g4 = grows_trans _ _ _ g3 c.in_ok-lps.ensures.grows in
    cases_inside_kept _ _ _ g4 c.requires.first_inside.adds

pub or_unless-requires-2-clause-more_inside : goal.or_unless-requires-2-clause-more_inside
or_unless-requires-2-clause-more_inside c =
    let g2 = grows_trans _ _ _ c.in_ok-before.ensures.grows c.in_ok-permit.ensures.grows in
    let g3 = grows_trans _ _ _ g2 c.in_ok-rest.ensures.grows in
    let g4 = grows_trans _ _ _ g3 c.in_ok-lps.ensures.grows in
    rw c.as_slice-2.ensures (cases_inside_kept _ _ _ g4 c.requires.last_inside.adds)

pub or_unless-requires-3-clause-inside : goal.or_unless-requires-3-clause-inside
or_unless-requires-3-clause-inside c =
    let g2 = grows_trans _ _ _ c.in_ok-before.ensures.grows c.in_ok-permit.ensures.grows in
    let g3 = grows_trans _ _ _ g2 c.in_ok-rest.ensures.grows in
    let g4 = grows_trans _ _ _ g3 c.in_ok-lps.ensures.grows in
    let g5 = grows_trans _ _ _ g4 c.in_ok-adds.ensures.grows in
    cases_inside_kept _ _ _ g5 c.requires.first_inside.present

pub or_unless-requires-3-clause-more_inside : goal.or_unless-requires-3-clause-more_inside
or_unless-requires-3-clause-more_inside c =
    let g2 = grows_trans _ _ _ c.in_ok-before.ensures.grows c.in_ok-permit.ensures.grows in
    let g3 = grows_trans _ _ _ g2 c.in_ok-rest.ensures.grows in
    let g4 = grows_trans _ _ _ g3 c.in_ok-lps.ensures.grows in
    let g5 = grows_trans _ _ _ g4 c.in_ok-adds.ensures.grows in
    rw c.as_slice-3.ensures (cases_inside_kept _ _ _ g5 c.requires.last_inside.present)

pub or_unless-requires-4-clause-inside : goal.or_unless-requires-4-clause-inside
or_unless-requires-4-clause-inside c =
    let g2 = grows_trans _ _ _ c.in_ok-before.ensures.grows c.in_ok-permit.ensures.grows in
    let g3 = grows_trans _ _ _ g2 c.in_ok-rest.ensures.grows in
    let g4 = grows_trans _ _ _ g3 c.in_ok-lps.ensures.grows in
    let g5 = grows_trans _ _ _ g4 c.in_ok-adds.ensures.grows in
    let g6 = grows_trans _ _ _ g5 c.in_ok-present.ensures.grows in
    cases_inside_kept _ _ _ g6 c.requires.first_inside.odd

pub or_unless-requires-4-clause-more_inside : goal.or_unless-requires-4-clause-more_inside
or_unless-requires-4-clause-more_inside c =
    let g2 = grows_trans _ _ _ c.in_ok-before.ensures.grows c.in_ok-permit.ensures.grows in
    let g3 = grows_trans _ _ _ g2 c.in_ok-rest.ensures.grows in
    let g4 = grows_trans _ _ _ g3 c.in_ok-lps.ensures.grows in
    let g5 = grows_trans _ _ _ g4 c.in_ok-adds.ensures.grows in
    let g6 = grows_trans _ _ _ g5 c.in_ok-present.ensures.grows in
    rw c.as_slice-4.ensures (cases_inside_kept _ _ _ g6 c.requires.last_inside.odd)

pub returns-in_err-odd-clause-grows : goal.returns-in_err-odd-clause-grows
returns-in_err-odd-clause-grows c =
    let g2 = grows_trans _ _ _ c.in_ok-before.ensures.grows c.in_ok-permit.ensures.grows in
    let g3 = grows_trans _ _ _ g2 c.in_ok-rest.ensures.grows in
    let g4 = grows_trans _ _ _ g3 c.in_ok-lps.ensures.grows in
    let g5 = grows_trans _ _ _ g4 c.in_ok-adds.ensures.grows in
    let g6 = grows_trans _ _ _ g5 c.in_ok-present.ensures.grows in
    grows_trans _ _ _ g6 c.in_err-odd.ensures.grows

pub returns-clause-grows : goal.returns-clause-grows
returns-clause-grows c =
    let g2 = grows_trans _ _ _ c.in_ok-before.ensures.grows c.in_ok-permit.ensures.grows in
    let g3 = grows_trans _ _ _ g2 c.in_ok-rest.ensures.grows in
    let g4 = grows_trans _ _ _ g3 c.in_ok-lps.ensures.grows in
    let g5 = grows_trans _ _ _ g4 c.in_ok-adds.ensures.grows in
    let g6 = grows_trans _ _ _ g5 c.in_ok-present.ensures.grows in
    grows_trans _ _ _ g6 c.in_ok-odd.ensures.grows

pub returns-clause-either : goal.returns-clause-either
returns-clause-either c =
    let f = c.args.self in
    let l = c.args.last.now in
    let lps = subst (λ (t : List (ℕ × ℕ)). IsTableOfEither c.ite-2.new.self c.or_unless.new.store c.args.self.before c.args.self.lps t c.in_ok-lps.lps)
    c.as_slice.ensures c.in_ok-lps.ensures.more in
    let adds = subst (λ (t : List (ℕ × ℕ)). IsTableOfEither c.or_unless.new.store c.or_unless-2.new.store c.args.self.before c.args.self.adds t
    c.in_ok-adds.adds) c.as_slice-2.ensures c.in_ok-adds.ensures.more in
    let present = subst (λ (t : List (ℕ × ℕ)). IsTableOfEither c.or_unless-2.new.store c.or_unless-3.new.store c.args.self.before c.args.self.present t
    c.in_ok-present.present) c.as_slice-3.ensures c.in_ok-present.ensures.more in
    let odd = subst (λ (t : List (ℕ × ℕ)). IsTableOfEither c.or_unless-3.new.store c.or_unless-4.new.store c.args.self.before c.args.self.odd t
    c.in_ok-odd.odd) c.as_slice-4.ensures c.in_ok-odd.ensures.more in
    either_is c.args.store.now c.or.new.self c.ite.new.self c.ite-2.new.self c.or_unless.new.store c.or_unless-2.new.store c.or_unless-3.new.store
    c.or_unless-4.new.store c.in_ok-before.ensures.grows c.in_ok-permit.ensures.grows c.in_ok-rest.ensures.grows c.in_ok-lps.ensures.grows
    c.in_ok-adds.ensures.grows c.in_ok-present.ensures.grows c.in_ok-odd.ensures.grows f l c.in_ok-before.before c.in_ok-permit.permit c.in_ok-rest.rest
    c.in_ok-lps.lps c.in_ok-adds.adds c.in_ok-present.present c.in_ok-odd.odd c.requires.first_inside c.requires.last_inside
    c.in_ok-before.ensures.or c.in_ok-permit.ensures.ite c.in_ok-rest.ensures.ite lps adds present odd

pub ite-requires-clause-a_inside : goal.ite-requires-clause-a_inside
ite-requires-clause-a_inside c = grows_inside _ _ _ c.in_ok-before.ensures.grows c.requires.first_inside.before

pub ite-requires-clause-b_inside : goal.ite-requires-clause-b_inside
ite-requires-clause-b_inside c = grows_inside _ _ _ c.in_ok-before.ensures.grows c.requires.first_inside.permit

pub ite-requires-clause-c_inside : goal.ite-requires-clause-c_inside
ite-requires-clause-c_inside c = grows_inside _ _ _ c.in_ok-before.ensures.grows c.requires.last_inside.permit

pub ite-requires-2-clause-a_inside : goal.ite-requires-2-clause-a_inside
ite-requires-2-clause-a_inside c = grows_inside _ _ _ (grows_trans _ _ _ c.in_ok-before.ensures.grows c.in_ok-permit.ensures.grows)
    c.requires.first_inside.before

pub ite-requires-2-clause-b_inside : goal.ite-requires-2-clause-b_inside
ite-requires-2-clause-b_inside c = grows_inside _ _ _ (grows_trans _ _ _ c.in_ok-before.ensures.grows c.in_ok-permit.ensures.grows) c.requires.first_inside.rest

pub ite-requires-2-clause-c_inside : goal.ite-requires-2-clause-c_inside
ite-requires-2-clause-c_inside c = grows_inside _ _ _ (grows_trans _ _ _ c.in_ok-before.ensures.grows c.in_ok-permit.ensures.grows) c.requires.last_inside.rest

pub or_unless-requires-clause-unless_inside : goal.or_unless-requires-clause-unless_inside
or_unless-requires-clause-unless_inside c = grows_inside _ _ _
    (grows_trans _ _ _ (grows_trans _ _ _ c.in_ok-before.ensures.grows c.in_ok-permit.ensures.grows) c.in_ok-rest.ensures.grows) c.requires.first_inside.before

pub or_unless-requires-2-clause-unless_inside : goal.or_unless-requires-2-clause-unless_inside
or_unless-requires-2-clause-unless_inside c = grows_inside _ _ _
    (grows_trans _ _ _ (grows_trans _ _ _ (grows_trans _ _ _ c.in_ok-before.ensures.grows c.in_ok-permit.ensures.grows) c.in_ok-rest.ensures.grows)
    c.in_ok-lps.ensures.grows) c.requires.first_inside.before

pub or_unless-requires-3-clause-unless_inside : goal.or_unless-requires-3-clause-unless_inside
or_unless-requires-3-clause-unless_inside c = grows_inside _ _ _ (grows_trans _ _ _ (grows_trans _ _ _ (grows_trans _ _ _
    (grows_trans _ _ _ c.in_ok-before.ensures.grows c.in_ok-permit.ensures.grows) c.in_ok-rest.ensures.grows) c.in_ok-lps.ensures.grows)
    c.in_ok-adds.ensures.grows) c.requires.first_inside.before

pub or_unless-requires-4-clause-unless_inside : goal.or_unless-requires-4-clause-unless_inside
or_unless-requires-4-clause-unless_inside c = grows_inside _ _ _ (grows_trans _ _ _ (grows_trans _ _ _ (grows_trans _ _ _
    (grows_trans _ _ _ (grows_trans _ _ _ c.in_ok-before.ensures.grows c.in_ok-permit.ensures.grows) c.in_ok-rest.ensures.grows)
    c.in_ok-lps.ensures.grows) c.in_ok-adds.ensures.grows) c.in_ok-present.ensures.grows) c.requires.first_inside.before

pub returns-in_err-permit-clause-grows : goal.returns-in_err-permit-clause-grows
returns-in_err-permit-clause-grows c = grows_trans _ _ _ c.in_ok-before.ensures.grows c.in_err-permit.ensures.grows

pub returns-in_err-rest-clause-grows : goal.returns-in_err-rest-clause-grows
returns-in_err-rest-clause-grows c = grows_trans _ _ _ (grows_trans _ _ _ c.in_ok-before.ensures.grows c.in_ok-permit.ensures.grows) c.in_err-rest.ensures.grows

pub returns-in_err-lps-clause-grows : goal.returns-in_err-lps-clause-grows
returns-in_err-lps-clause-grows c = grows_trans _ _ _ (grows_trans _ _ _
    (grows_trans _ _ _ c.in_ok-before.ensures.grows c.in_ok-permit.ensures.grows) c.in_ok-rest.ensures.grows) c.in_err-lps.ensures.grows

pub returns-in_err-adds-clause-grows : goal.returns-in_err-adds-clause-grows
returns-in_err-adds-clause-grows c = grows_trans _ _ _ (grows_trans _ _ _
    (grows_trans _ _ _ (grows_trans _ _ _ c.in_ok-before.ensures.grows c.in_ok-permit.ensures.grows) c.in_ok-rest.ensures.grows) c.in_ok-lps.ensures.grows)
    c.in_err-adds.ensures.grows

pub returns-in_err-present-clause-grows : goal.returns-in_err-present-clause-grows
returns-in_err-present-clause-grows c = grows_trans _ _ _ (grows_trans _ _ _
    (grows_trans _ _ _ (grows_trans _ _ _ (grows_trans _ _ _ c.in_ok-before.ensures.grows c.in_ok-permit.ensures.grows) c.in_ok-rest.ensures.grows)
    c.in_ok-lps.ensures.grows) c.in_ok-adds.ensures.grows) c.in_err-present.ensures.grows
