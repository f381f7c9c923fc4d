use Rattle.std.proofs.Common.{◌∙◌, ap, List, ℕ}
use Rattle.base_kit.specs.Sets.{has}
use Rattle.dd_core.proofs.ShownLemmas.{grows_inside, grows_trans}
use Rattle.policy_dd.proofs.MatchLemmas.{inside_kept}
use Rattle.policy_dd.proofs.JoinLemmas.{out_pushed}
use Rattle.policy_dd.proofs.join.push_out.Goals as goal

pub and-requires-clause-b_inside : goal.and-requires-clause-b_inside
and-requires-clause-b_inside c = grows_inside _ _ _ c.in_ok-there.ensures.grows c.requires.rest_inside

pub condition-requires-clause-inside : goal.condition-requires-clause-inside
condition-requires-clause-inside c = inside_kept _ _ _ (grows_trans _ _ _ c.in_ok-there.ensures.grows c.in_ok-plain.ensures.grows) c.requires.inside

pub condition-requires-clause-known : goal.condition-requires-clause-known
condition-requires-clause-known c = ap (λ (u : List ℕ). has u c.args.community)
    ((grows_trans _ _ _ c.in_ok-there.ensures.grows c.in_ok-plain.ensures.grows).universe) ∙ c.requires.known

pub and-requires-2-clause-a_inside : goal.and-requires-2-clause-a_inside
and-requires-2-clause-a_inside c = grows_inside _ _ _ (grows_trans _ _ _ (grows_trans _ _ _ c.in_ok-there.ensures.grows c.in_ok-plain.ensures.grows)
    c.in_ok-here.ensures.grows) c.requires.permit_inside

pub push_unless_plain-requires-clause-plain_inside :
    goal.push_unless_plain-requires-clause-plain_inside
push_unless_plain-requires-clause-plain_inside c = grows_inside _ _ _ (grows_trans _ _ _ c.in_ok-here.ensures.grows c.in_ok-node.ensures.grows)
    c.in_ok-plain.ensures.and.inside

pub returns-clause-pushed : goal.returns-clause-pushed
returns-clause-pushed c =
    out_pushed c.args.store.now c.var.new.self c.and.new.self c.condition.new.store c.and-2.new.self c.args.outs c.in_ok-more.more c.args.permit
    c.args.carried.now c.args.rest c.args.community c.in_ok-there.there c.in_ok-plain.plain c.in_ok-here.here c.in_ok-node.node c.in_ok-there.ensures.grows
    c.in_ok-plain.ensures.grows c.in_ok-here.ensures.grows c.in_ok-node.ensures.grows c.requires.permit_inside c.requires.inside c.requires.rest_inside
    c.in_ok-there.ensures.var c.in_ok-plain.ensures.and c.in_ok-here.ensures.condition c.in_ok-node.ensures.and c.in_ok-more.ensures

pub returns-in_err-plain-clause-grows : goal.returns-in_err-plain-clause-grows
returns-in_err-plain-clause-grows c = grows_trans _ _ _ c.in_ok-there.ensures.grows c.in_err-plain.ensures.grows

pub returns-in_err-here-clause-grows : goal.returns-in_err-here-clause-grows
returns-in_err-here-clause-grows c = grows_trans _ _ _ (grows_trans _ _ _ c.in_ok-there.ensures.grows c.in_ok-plain.ensures.grows) c.in_err-here.ensures.grows

pub returns-in_err-node-clause-grows : goal.returns-in_err-node-clause-grows
returns-in_err-node-clause-grows c = grows_trans _ _ _ (grows_trans _ _ _
    (grows_trans _ _ _ c.in_ok-there.ensures.grows c.in_ok-plain.ensures.grows) c.in_ok-here.ensures.grows) c.in_err-node.ensures.grows

pub returns-in_err-more-clause-grows : goal.returns-in_err-more-clause-grows
returns-in_err-more-clause-grows c = grows_trans _ _ _ (grows_trans _ _ _
    (grows_trans _ _ _ c.in_ok-there.ensures.grows c.in_ok-plain.ensures.grows) c.in_ok-here.ensures.grows) c.in_ok-node.ensures.grows

pub returns-clause-grows : goal.returns-clause-grows
returns-clause-grows c = grows_trans _ _ _ (grows_trans _ _ _
    (grows_trans _ _ _ c.in_ok-there.ensures.grows c.in_ok-plain.ensures.grows) c.in_ok-here.ensures.grows) c.in_ok-node.ensures.grows
