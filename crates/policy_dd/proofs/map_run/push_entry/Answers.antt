use Rattle.std.proofs.Common.{◌∙◌}
use Rattle.dd_core.proofs.ShownLemmas.{grows_trans, grows_inside}
use Rattle.policy_dd.proofs.RunLemmas.{map_inside_kept, pushed_denied, pushed_never, pushed_taken}
use Rattle.policy_dd.proofs.map_run.push_entry.Goals as goal

pub without-requires-clause-b_inside : goal.without-requires-clause-b_inside
without-requires-clause-b_inside c = grows_inside _ _ _ c.in_ok-here.ensures.grows c.requires.inside.before

pub or-requires-clause-a_inside : goal.or-requires-clause-a_inside
or-requires-clause-a_inside c = grows_inside _ _ _ (grows_trans _ _ _ c.in_ok-here.ensures.grows c.in_ok-decides.ensures.grows) c.requires.inside.before

pub taken-requires-clause-inside : goal.taken-requires-clause-inside
taken-requires-clause-inside c =
    map_inside_kept c.args.store.now c.or.new.self c.args.m (grows_trans _ _ _ (grows_trans _ _ _ c.in_ok-here.ensures.grows c.in_ok-decides.ensures.grows)
    c.in_ok-before.ensures.grows) c.requires.inside

pub taken-requires-clause-known : goal.taken-requires-clause-known
taken-requires-clause-known c =
    rw ((grows_trans _ _ _ (grows_trans _ _ _ c.in_ok-here.ensures.grows c.in_ok-decides.ensures.grows) c.in_ok-before.ensures.grows).universe) c.requires.known

pub returns-then-not-entry-clause-pushed : goal.returns-then-not-entry-clause-pushed
returns-then-not-entry-clause-pushed c =
    rw c.passed_over.ensures (pushed_denied c.args.store.now c.entry_node.new.store c.without.new.store c.or.new.self c.args.carried.now c.args.m
    c.args.entry.now c.in_ok-here.here c.in_ok-decides.decides c.in_ok-before.before c.in_ok-here.ensures.grows c.in_ok-decides.ensures.grows
    c.in_ok-before.ensures.grows c.requires.inside c.in_ok-here.ensures.entry c.in_ok-decides.ensures.without c.in_ok-before.ensures.or
    c.if-not-entry.true)

pub is_same-requires-clause-a_inside : goal.is_same-requires-clause-a_inside
is_same-requires-clause-a_inside c = grows_inside _ _ _ c.in_ok-before.ensures.grows c.in_ok-decides.ensures.without.inside

pub returns-then-is_same-clause-pushed : goal.returns-then-is_same-clause-pushed
returns-then-is_same-clause-pushed c =
    rw c.passed_over-then-is_same.ensures (pushed_never c.args.store.now c.entry_node.new.store c.without.new.store c.or.new.self c.args.carried.now c.args.m
    c.args.entry.now c.in_ok-here.here c.in_ok-decides.decides c.in_ok-before.before c.in_ok-here.ensures.grows c.in_ok-decides.ensures.grows
    c.in_ok-before.ensures.grows c.requires.inside c.in_ok-here.ensures.entry c.in_ok-decides.ensures.without c.in_ok-before.ensures.or
    (λ set. c.is_same.ensures.same c.if-is_same.true set ∙ c.constant.ensures.constant.value set))

pub returns-clause-pushed : goal.returns-clause-pushed
returns-clause-pushed c =
    pushed_taken c.args.store.now c.entry_node.new.store c.without.new.store c.or.new.self c.args.carried.now c.args.m c.args.entry.now c.in_ok-here.here
    c.in_ok-decides.decides c.in_ok-before.before c.in_ok-here.ensures.grows c.in_ok-decides.ensures.grows c.in_ok-before.ensures.grows c.requires.inside
    c.in_ok-here.ensures.entry c.in_ok-decides.ensures.without c.in_ok-before.ensures.or c.taken.new.store c.in_ok-pushed.pushed
    c.in_ok-pushed.ensures.grows c.if-not-entry.false c.in_ok-pushed.ensures.taken

pub or-requires-clause-b_inside : goal.or-requires-clause-b_inside
or-requires-clause-b_inside c = grows_inside _ _ _ c.in_ok-decides.ensures.grows c.in_ok-here.ensures.entry.inside

pub taken-requires-clause-decides_inside : goal.taken-requires-clause-decides_inside
taken-requires-clause-decides_inside c = grows_inside _ _ _ c.in_ok-before.ensures.grows c.in_ok-decides.ensures.without.inside

pub returns-in_err-decides-clause-grows : goal.returns-in_err-decides-clause-grows
returns-in_err-decides-clause-grows c = grows_trans _ _ _ c.in_ok-here.ensures.grows c.in_err-decides.ensures.grows

pub returns-in_err-before-clause-grows : goal.returns-in_err-before-clause-grows
returns-in_err-before-clause-grows c = grows_trans _ _ _ (grows_trans _ _ _ c.in_ok-here.ensures.grows c.in_ok-decides.ensures.grows)
    c.in_err-before.ensures.grows

pub returns-then-not-entry-clause-grows : goal.returns-then-not-entry-clause-grows
returns-then-not-entry-clause-grows c = grows_trans _ _ _ (grows_trans _ _ _ c.in_ok-here.ensures.grows c.in_ok-decides.ensures.grows)
    c.in_ok-before.ensures.grows

pub returns-then-is_same-clause-grows : goal.returns-then-is_same-clause-grows
returns-then-is_same-clause-grows c = grows_trans _ _ _ (grows_trans _ _ _ c.in_ok-here.ensures.grows c.in_ok-decides.ensures.grows)
    c.in_ok-before.ensures.grows

pub returns-in_err-pushed-clause-grows : goal.returns-in_err-pushed-clause-grows
returns-in_err-pushed-clause-grows c = grows_trans _ _ _ (grows_trans _ _ _
    (grows_trans _ _ _ c.in_ok-here.ensures.grows c.in_ok-decides.ensures.grows) c.in_ok-before.ensures.grows) c.in_err-pushed.ensures.grows

pub returns-clause-grows : goal.returns-clause-grows
returns-clause-grows c = grows_trans _ _ _ (grows_trans _ _ _
    (grows_trans _ _ _ c.in_ok-here.ensures.grows c.in_ok-decides.ensures.grows) c.in_ok-before.ensures.grows) c.in_ok-pushed.ensures.grows
