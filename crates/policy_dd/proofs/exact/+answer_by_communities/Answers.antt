use Rattle.std.proofs.Common.{◌≡◌, List, ℕ, not, sym, subst, ◌∙◌, ap, arith}
use Rattle.std.specs.List.{filter}
use Rattle.base_kit.specs.Sets.{has}
use Rattle.cfg_ast.specs.meaning.Lists.{first_line_decides}
use Rattle.dd_core.specs.Sets.{Means, IsIteOfSets}
use Rattle.dd_core.proofs.ShownLemmas.{grows_inside, grows_trans}
use Rattle.policy_dd.specs.Exact.{just_wanted}
use Rattle.policy_dd.specs.Tables.{AllInside}
use Rattle.policy_dd.proofs.DecideLemmas.{no_items}
use Rattle.policy_dd.proofs.ExactLemmas.{lines_now, front_rest, rest_shorter, answer_at_end, answer_parts}
use Rattle.policy_dd.proofs.TableLemmas.{cases_inside_kept}
use Rattle.policy_dd.proofs.exact.+answer_by_communities.Goals as goal

pub answer_by_communities-requires-in-len1-up :
    goal.answer_by_communities-requires-in-len1-up
answer_by_communities-requires-in-len1-up t c =
    let some = c.in-len1-up.len_at_least in
    let front = front_rest c.args.conditions.now c.case-item.result some c.case-item.is in
    let inside = subst (λ (l : List (ℕ × ℕ)). AllInside c.args.store.now l) front c.requires.inside in (
      omega (arith, rest_shorter c.args.conditions.now some),
      (cases_inside_kept _ _ _ c.in_ok-high-in-len1-up.ensures.grows inside.1, grows_inside _ _ _ c.in_ok-high-in-len1-up.ensures.grows c.requires.none),
    )

pub returns-in-empty-clause-answer : goal.returns-in-empty-clause-answer
returns-in-empty-clause-answer t c =
    rw (no_items c.args.conditions.now c.in-empty.len_below)
    (answer_at_end c.args.store.now c.args.none c.args.lines.now c.index-lines-0.result c.where_permitted.result
    (sym c.is_empty.ensures ∙ c.if-is_empty.false) c.index-lines-0.is c.where_permitted.ensures)

pub returns-in_ok-node-in-len1-up-clause-answer :
    goal.returns-in_ok-node-in-len1-up-clause-answer
returns-in_ok-node-in-len1-up-clause-answer t c =
    let front = front_rest c.args.conditions.now c.case-item.result c.in-len1-up.len_at_least c.case-item.is in
    let inside = subst (λ (l : List (ℕ × ℕ)). AllInside c.args.store.now l) front c.requires.inside in
    let named : lines_now c.as_slice.result.now ≡ filter (λ line. has line.comms c.case-item.result.0) (lines_now c.args.lines.now) =
    ap lines_now c.as_slice.ensures.value ∙ c.in_ok-parted-in-len1-up.ensures.named
    ∙ ap (λ (k : ℕ). filter (λ line. has line.comms k) (lines_now c.args.lines.now)) c.key_in.ensures in
    let unnamed : lines_now c.as_slice-in-len1-up.result.now ≡ filter (λ line. not (has line.comms c.case-item.result.0)) (lines_now c.args.lines.now) =
    ap lines_now c.as_slice-in-len1-up.ensures.value ∙ c.in_ok-parted-in-len1-up.ensures.unnamed
    ∙ ap (λ (k : ℕ). filter (λ line. not (has line.comms k)) (lines_now c.args.lines.now)) c.key_in.ensures in
    let ite = subst (λ (n : ℕ). IsIteOfSets c.answer_by_communities-in-len1-up.new.store c.ite.new.self n c.in_ok-high-in-len1-up.high
    c.in_ok-low-in-len1-up.low c.in_ok-node-in-len1-up.node) c.node_in.ensures c.in_ok-node-in-len1-up.ensures.ite in
    subst (λ (cases : List (ℕ × ℕ)). Means c.ite.new.self c.in_ok-node-in-len1-up.node
    (λ set. first_line_decides (λ line. just_wanted c.args.store.now set c.args.none cases line.comms) (lines_now c.args.lines.now))) (sym front)
    (answer_parts c.args.store.now c.answer_by_communities.new.store c.answer_by_communities-in-len1-up.new.store c.ite.new.self c.args.none c.case-item.result
    _ (lines_now c.args.lines.now) (lines_now c.as_slice.result.now) (lines_now c.as_slice-in-len1-up.result.now) c.in_ok-high-in-len1-up.high
    c.in_ok-low-in-len1-up.low c.in_ok-node-in-len1-up.node inside c.requires.none c.in_ok-high-in-len1-up.ensures.grows
    c.in_ok-low-in-len1-up.ensures.grows named unnamed c.in_ok-high-in-len1-up.ensures.answer c.in_ok-low-in-len1-up.ensures.answer ite)

pub ite-requires-clause-b_inside : goal.ite-requires-clause-b_inside
ite-requires-clause-b_inside t c = grows_inside _ _ _ c.in_ok-low-in-len1-up.ensures.grows c.in_ok-high-in-len1-up.ensures.answer.inside

pub returns-in_err-low-in-len1-up-clause-grows : goal.returns-in_err-low-in-len1-up-clause-grows
returns-in_err-low-in-len1-up-clause-grows t c = grows_trans _ _ _ c.in_ok-high-in-len1-up.ensures.grows c.in_err-low-in-len1-up.ensures.grows

pub returns-in_err-node-in-len1-up-clause-grows : goal.returns-in_err-node-in-len1-up-clause-grows
returns-in_err-node-in-len1-up-clause-grows t c = grows_trans _ _ _
    (grows_trans _ _ _ c.in_ok-high-in-len1-up.ensures.grows c.in_ok-low-in-len1-up.ensures.grows) c.in_err-node-in-len1-up.ensures.grows

pub returns-in_ok-node-in-len1-up-clause-grows : goal.returns-in_ok-node-in-len1-up-clause-grows
returns-in_ok-node-in-len1-up-clause-grows t c = grows_trans _ _ _
    (grows_trans _ _ _ c.in_ok-high-in-len1-up.ensures.grows c.in_ok-low-in-len1-up.ensures.grows) c.in_ok-node-in-len1-up.ensures.grows
