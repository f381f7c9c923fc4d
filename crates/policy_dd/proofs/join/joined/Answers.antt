use Rattle.std.proofs.Common.{◌≡◌, ◌&&◌, ◌∙◌, ap, sym, subst, false, true, List, ℕ}
use Rattle.base_kit.specs.Sets.{has}
use Rattle.dd_core.specs.Sets.{value_of}
use Rattle.dd_core.proofs.ShownLemmas.{grows_trans, grows_inside}
use Rattle.policy_dd.specs.Edge.{case_or, keys_of, never}
use Rattle.policy_dd.specs.Tables.{IsSelection}
use Rattle.policy_dd.proofs.MatchLemmas.{inside_kept}
use Rattle.policy_dd.proofs.TableLemmas.{cases_inside_kept}
use Rattle.policy_dd.proofs.JoinLemmas.{joined_is}
use Rattle.policy_dd.proofs.join.joined.Goals as goal

pub limit-requires-clause-inside : goal.limit-requires-clause-inside
limit-requires-clause-inside c = rw c.as_slice.ensures (cases_inside_kept _ _ _ c.in_ok-permit.ensures.grows c.requires.second.lps)

pub limit-requires-2-clause-inside : goal.limit-requires-2-clause-inside
limit-requires-2-clause-inside c = rw c.as_slice-2.ensures (cases_inside_kept _ _ _ (grows_trans _ _ _ c.in_ok-permit.ensures.grows c.in_ok-lps.ensures.grows)
    c.requires.first.adds)

pub outs_of-requires-clause-inside : goal.outs_of-requires-clause-inside
outs_of-requires-clause-inside c = inside_kept _ _ _ (grows_trans _ _ _
    (grows_trans _ _ _ (grows_trans _ _ _ c.in_ok-permit.ensures.grows c.in_ok-lps.ensures.grows) c.in_ok-adds.ensures.grows) c.in_ok-rest.ensures.grows)
    c.requires.end

pub returns-clause-joined : goal.returns-clause-joined
returns-clause-joined c =
    let lps : IsSelection c.limit.new.store never (λ k set. case_or c.and.new.self set c.args.seen.now.second.lps k false
    && value_of c.and.new.self set c.args.seen.now.first.permit) (keys_of c.args.seen.now.second.lps) c.in_ok-lps.lps =
    subst (λ (l : List (ℕ × ℕ)). IsSelection c.limit.new.store never
    (λ k set. case_or c.and.new.self set l k false && value_of c.and.new.self set c.args.seen.now.first.permit) (keys_of l) c.in_ok-lps.lps)
    c.as_slice.ensures c.in_ok-lps.ensures.limited in
    let adds : IsSelection c.limit-2.new.store never (λ k set.
    case_or c.limit.new.store set c.args.seen.now.first.adds k false && value_of c.limit.new.store set c.args.seen.now.second.permit)
    (keys_of c.args.seen.now.first.adds) c.in_ok-adds.adds =
    subst (λ (l : List (ℕ × ℕ)). IsSelection c.limit-2.new.store never
    (λ k set. case_or c.limit.new.store set l k false && value_of c.limit.new.store set c.args.seen.now.second.permit) (keys_of l) c.in_ok-adds.adds)
    c.as_slice-2.ensures c.in_ok-adds.ensures.limited in
    joined_is c.args.store.now c.and.new.self c.limit.new.store c.limit-2.new.store c.and-2.new.self c.outs_of.new.store c.args.seen.now c.args.beyond
    c.in_ok-permit.permit c.in_ok-rest.rest c.in_ok-lps.lps c.in_ok-adds.adds c.in_ok-outs.outs c.in_ok-counts.counts c.in_ok-communities.communities
    c.in_ok-permit.ensures.grows c.in_ok-lps.ensures.grows c.in_ok-adds.ensures.grows c.in_ok-rest.ensures.grows c.in_ok-outs.ensures.grows
    c.requires.first c.requires.second c.requires.end c.requires.beyond c.in_ok-permit.ensures.and lps adds c.in_ok-rest.ensures.and
    c.in_ok-outs.ensures.outs (c.in_ok-counts.ensures ∙ c.as_slice-3.ensures) (c.in_ok-communities.ensures ∙ c.as_slice-4.ensures)

pub counts-requires : goal.counts-requires
counts-requires c = λ k there.
    let in_adds : has (keys_of c.in_ok-adds.adds) k ≡ true = ap (λ (l : List (ℕ × ℕ)). has (keys_of l) k) (sym c.as_slice-3.ensures) ∙ there in
    let in_first : has (keys_of c.args.seen.now.first.adds) k ≡ true = ap (λ (l : List (ℕ × ℕ)). has (keys_of l) k) (sym c.as_slice-2.ensures)
    ∙ c.in_ok-adds.ensures.limited.keys_are k in_adds in
    c.requires.first.adds_small k in_first

pub limit-requires-clause-with_inside : goal.limit-requires-clause-with_inside
limit-requires-clause-with_inside c = grows_inside _ _ _ c.in_ok-permit.ensures.grows c.requires.first.permit

pub limit-requires-2-clause-with_inside : goal.limit-requires-2-clause-with_inside
limit-requires-2-clause-with_inside c = grows_inside _ _ _ (grows_trans _ _ _ c.in_ok-permit.ensures.grows c.in_ok-lps.ensures.grows) c.requires.second.permit

pub and-requires-2-clause-a_inside : goal.and-requires-2-clause-a_inside
and-requires-2-clause-a_inside c = grows_inside _ _ _ (grows_trans _ _ _ c.in_ok-lps.ensures.grows c.in_ok-adds.ensures.grows) c.in_ok-permit.ensures.and.inside

pub and-requires-2-clause-b_inside : goal.and-requires-2-clause-b_inside
and-requires-2-clause-b_inside c = grows_inside _ _ _ (grows_trans _ _ _
    (grows_trans _ _ _ c.in_ok-permit.ensures.grows c.in_ok-lps.ensures.grows) c.in_ok-adds.ensures.grows) c.requires.beyond

pub outs_of-requires-clause-permit_inside : goal.outs_of-requires-clause-permit_inside
outs_of-requires-clause-permit_inside c = grows_inside _ _ _
    (grows_trans _ _ _ (grows_trans _ _ _ c.in_ok-lps.ensures.grows c.in_ok-adds.ensures.grows) c.in_ok-rest.ensures.grows) c.in_ok-permit.ensures.and.inside

pub returns-in_err-lps-clause-grows : goal.returns-in_err-lps-clause-grows
returns-in_err-lps-clause-grows c = grows_trans _ _ _ c.in_ok-permit.ensures.grows c.in_err-lps.ensures.grows

pub returns-in_err-adds-clause-grows : goal.returns-in_err-adds-clause-grows
returns-in_err-adds-clause-grows c = grows_trans _ _ _ (grows_trans _ _ _ c.in_ok-permit.ensures.grows c.in_ok-lps.ensures.grows) c.in_err-adds.ensures.grows

pub returns-in_err-rest-clause-grows : goal.returns-in_err-rest-clause-grows
returns-in_err-rest-clause-grows c = grows_trans _ _ _ (grows_trans _ _ _
    (grows_trans _ _ _ c.in_ok-permit.ensures.grows c.in_ok-lps.ensures.grows) c.in_ok-adds.ensures.grows) c.in_err-rest.ensures.grows

pub returns-in_err-outs-clause-grows : goal.returns-in_err-outs-clause-grows
returns-in_err-outs-clause-grows c = grows_trans _ _ _ (grows_trans _ _ _
    (grows_trans _ _ _ (grows_trans _ _ _ c.in_ok-permit.ensures.grows c.in_ok-lps.ensures.grows) c.in_ok-adds.ensures.grows) c.in_ok-rest.ensures.grows)
    c.in_err-outs.ensures.grows

pub returns-in_err-counts-clause-grows : goal.returns-in_err-counts-clause-grows
returns-in_err-counts-clause-grows c = grows_trans _ _ _ (grows_trans _ _ _
    (grows_trans _ _ _ (grows_trans _ _ _ c.in_ok-permit.ensures.grows c.in_ok-lps.ensures.grows) c.in_ok-adds.ensures.grows) c.in_ok-rest.ensures.grows)
    c.in_ok-outs.ensures.grows

pub returns-in_err-communities-clause-grows : goal.returns-in_err-communities-clause-grows
returns-in_err-communities-clause-grows c = grows_trans _ _ _
    (grows_trans _ _ _ (grows_trans _ _ _ (grows_trans _ _ _ c.in_ok-permit.ensures.grows c.in_ok-lps.ensures.grows) c.in_ok-adds.ensures.grows)
    c.in_ok-rest.ensures.grows) c.in_ok-outs.ensures.grows

pub returns-clause-grows : goal.returns-clause-grows
returns-clause-grows c = grows_trans _ _ _ (grows_trans _ _ _
    (grows_trans _ _ _ (grows_trans _ _ _ c.in_ok-permit.ensures.grows c.in_ok-lps.ensures.grows) c.in_ok-adds.ensures.grows) c.in_ok-rest.ensures.grows)
    c.in_ok-outs.ensures.grows
