use Rattle.std.proofs.Common.{◌∙◌, ◌-◌, ℕ, List, length, ap, sym, subst, arith}
use Rattle.dd_core.proofs.ShownLemmas.{grows_trans}
use Rattle.canon_policy.specs.declared.fixing.Fixing.{Fixing}
use Rattle.canon_policy.specs.Fixings.{nothing_fixed, with_present, with_absent, split, settled}
use Rattle.canon_policy.specs.Nodes.{IsWalked}
use Rattle.canon_policy.proofs.Splits.{split_free}
use Rattle.canon_policy.proofs.Told.{nodes_inside_kept}
use Rattle.canon_policy.proofs.Walks.{settled_zero, settled_alone, settled_split, some_split, none_split, wide_split, no_longer, fixed_inside, branch_walked, failed_first, both_walked, join_present, join_absent}
use Rattle.canon_policy.proofs.walk.+walk.Goals as goal

pub returns-then-depth-eq0-clause-walked : goal.returns-then-depth-eq0-clause-walked
returns-then-depth-eq0-clause-walked t c = λ asked hang of.
    subst (λ (l : List Fixing). IsWalked c.args.found.now c.push_settled.new.found c.push_settled.result l)
    (sym (settled_zero c.args.depth (split c.args.store.now.universe asked) c.args.fixing c.if-depth-eq0.true)) c.push_settled.ensures

pub returns-then-as_slice-ge-MOST_NAMES-clause-walked : goal.returns-then-as_slice-ge-MOST_NAMES-clause-walked
returns-then-as_slice-ge-MOST_NAMES-clause-walked t c = λ asked hang of.
    let e = some_split c.args.store.now.universe asked c.args.fixing c.in_ok-split_by.field-0 c.in-Some.community
    (c.in_ok-split_by.ensures.split asked c.args.fixing hang of) c.in-Some.is in
    let size = ap (λ (l : List ℕ). length l) c.as_slice.ensures.all in
    wide_split c.args.found.now c.args.depth (c.args.depth - 1) (split c.args.store.now.universe asked) c.args.fixing c.in-Some.community.0 (omega arith) e
    (split_free c.args.store.now.universe asked c.args.fixing c.in-Some.community.0 hang e).not_present (omega arith)

pub fixed-requires-clause-nodes : goal.fixed-requires-clause-nodes
fixed-requires-clause-nodes t c = nodes_inside_kept c.args.store.now c.split_by.new.store c.in_ok-split_by.ensures.grows c.args.nodes.now c.requires.inside

pub walk-first-requires : goal.walk-first-requires
walk-first-requires t c =
    let size = ap (λ (f : Fixing). length f.present) c.in_ok-with-in-Some.ensures in
    let sliced = ap (λ (l : List ℕ). length l) c.as_slice.ensures.all in
    let more = no_longer c.in-Some.community.0 c.args.fixing.present in
    let same = c.decreases in (
      omega arith,
      (
        fixed_inside c.split_by.new.store c.fixed.new.store c.in_ok-high-in-Some.ensures.grows c.in_ok-alone-in-Some.alone c.args.nodes.now
            c.in_ok-high-in-Some.high (nodes_inside_kept c.args.store.now c.split_by.new.store c.in_ok-split_by.ensures.grows c.args.nodes.now
            c.requires.inside)
            c.in_ok-high-in-Some.ensures.fixed,
        omega arith,
      ),
    )

pub returns-in-None-clause-walked : goal.returns-in-None-clause-walked
returns-in-None-clause-walked t c = λ asked hang of.
    let e = none_split c.args.store.now.universe asked c.args.fixing c.in_ok-split_by.field-0 (c.in_ok-split_by.ensures.split asked c.args.fixing hang of)
    c.in-None.is in
    subst (λ (l : List Fixing). IsWalked c.args.found.now c.push_settled-in-None.new.found c.push_settled-in-None.result l)
    (sym (settled_alone c.args.depth (split c.args.store.now.universe asked) c.args.fixing e)) c.push_settled-in-None.ensures

pub returns-then-is_err-clause-walked : goal.returns-then-is_err-clause-walked
returns-then-is_err-clause-walked t c = λ asked hang of.
    let e = some_split c.args.store.now.universe asked c.args.fixing c.in_ok-split_by.field-0 c.in-Some.community
    (c.in_ok-split_by.ensures.split asked c.args.fixing hang of) c.in-Some.is in
    let free = split_free c.args.store.now.universe asked c.args.fixing c.in-Some.community.0 hang e in
    let one = branch_walked c.args.store.now c.split_by.new.store c.fixed.new.store c.in_ok-split_by.ensures.grows c.in_ok-high-in-Some.ensures.grows
    c.args.nodes.now c.in_ok-high-in-Some.high c.args.fixing
    c.in_ok-alone-in-Some.alone (with_present c.in-Some.community.0 nothing_fixed) c.in_ok-with-in-Some.with (with_present c.in-Some.community.0 c.args.fixing)
    (c.in_ok-alone-in-Some.ensures ∙ ap (λ (f : Fixing). with_present c.in-Some.community.0 f) c.new.ensures) c.in_ok-with-in-Some.ensures
    (join_present c.args.fixing c.in-Some.community.0 free.not_absent)
    asked hang c.requires.inside of c.in_ok-high-in-Some.ensures.fixed (c.args.depth - 1) c.args.found.now c.walk-first.new.found c.walk-first.result
    c.walk-first.ensures.walked in
    subst (λ (l : List Fixing). IsWalked c.args.found.now c.walk-first.new.found c.walk-first.result l)
    (sym (settled_split c.args.depth (c.args.depth - 1) (split c.args.store.now.universe asked) c.args.fixing c.in-Some.community.0 (omega arith) e))
    (failed_first c.args.found.now c.walk-first.new.found (settled (c.args.depth - 1) (split c.args.store.now.universe asked)
    (with_present c.in-Some.community.0 c.args.fixing)) (settled (c.args.depth - 1) (split c.args.store.now.universe asked)
    (with_absent c.in-Some.community.0 c.args.fixing)) c.walk-first.result one (sym c.is_err.ensures.value ∙ c.if-is_err.true))

pub fixed-requires-in-Some-clause-nodes : goal.fixed-requires-in-Some-clause-nodes
fixed-requires-in-Some-clause-nodes t c = nodes_inside_kept c.args.store.now c.walk-first.new.store
    (grows_trans _ _ _ c.in_ok-split_by.ensures.grows (grows_trans _ _ _ c.in_ok-high-in-Some.ensures.grows c.walk-first.ensures.grows)) c.args.nodes.now
    c.requires.inside

pub walk-requires : goal.walk-requires
walk-requires t c =
    let size = ap (λ (f : Fixing). length f.present) c.in_ok-without-in-Some.ensures in
    let narrow = c.requires.narrow in
    let same = c.decreases in (
      omega arith,
      (
        fixed_inside c.walk-first.new.store c.fixed-in-Some.new.store c.in_ok-low-in-Some.ensures.grows c.in_ok-other-in-Some.other c.args.nodes.now
            c.in_ok-low-in-Some.low (nodes_inside_kept c.args.store.now c.walk-first.new.store
            (grows_trans _ _ _ c.in_ok-split_by.ensures.grows (grows_trans _ _ _ c.in_ok-high-in-Some.ensures.grows c.walk-first.ensures.grows))
            c.args.nodes.now c.requires.inside) c.in_ok-low-in-Some.ensures.fixed,
        omega arith,
      ),
    )

pub returns-in_ok-without-in-Some-clause-walked : goal.returns-in_ok-without-in-Some-clause-walked
returns-in_ok-without-in-Some-clause-walked t c = λ asked hang of.
    let e = some_split c.args.store.now.universe asked c.args.fixing c.in_ok-split_by.field-0 c.in-Some.community
    (c.in_ok-split_by.ensures.split asked c.args.fixing hang of) c.in-Some.is in
    let free = split_free c.args.store.now.universe asked c.args.fixing c.in-Some.community.0 hang e in
    let grown = grows_trans _ _ _ c.in_ok-split_by.ensures.grows (grows_trans _ _ _ c.in_ok-high-in-Some.ensures.grows c.walk-first.ensures.grows) in
    let one = branch_walked c.args.store.now c.split_by.new.store c.fixed.new.store c.in_ok-split_by.ensures.grows c.in_ok-high-in-Some.ensures.grows
    c.args.nodes.now c.in_ok-high-in-Some.high c.args.fixing
    c.in_ok-alone-in-Some.alone (with_present c.in-Some.community.0 nothing_fixed) c.in_ok-with-in-Some.with (with_present c.in-Some.community.0 c.args.fixing)
    (c.in_ok-alone-in-Some.ensures ∙ ap (λ (f : Fixing). with_present c.in-Some.community.0 f) c.new.ensures) c.in_ok-with-in-Some.ensures
    (join_present c.args.fixing c.in-Some.community.0 free.not_absent)
    asked hang c.requires.inside of c.in_ok-high-in-Some.ensures.fixed (c.args.depth - 1) c.args.found.now c.walk-first.new.found c.walk-first.result
    c.walk-first.ensures.walked in
    let two = branch_walked c.args.store.now c.walk-first.new.store c.fixed-in-Some.new.store grown c.in_ok-low-in-Some.ensures.grows c.args.nodes.now
    c.in_ok-low-in-Some.low c.args.fixing
    c.in_ok-other-in-Some.other (with_absent c.in-Some.community.0 nothing_fixed) c.in_ok-without-in-Some.without
    (with_absent c.in-Some.community.0 c.args.fixing)
    (c.in_ok-other-in-Some.ensures ∙ ap (λ (f : Fixing). with_absent c.in-Some.community.0 f) c.new-in-Some.ensures) c.in_ok-without-in-Some.ensures
    (join_absent c.args.fixing c.in-Some.community.0 free.not_present)
    asked hang c.requires.inside of c.in_ok-low-in-Some.ensures.fixed (c.args.depth - 1) c.walk-first.new.found c.walk.new.found c.walk.result
    c.walk.ensures.walked in
    subst (λ (l : List Fixing). IsWalked c.args.found.now c.walk.new.found c.walk.result l)
    (sym (settled_split c.args.depth (c.args.depth - 1) (split c.args.store.now.universe asked) c.args.fixing c.in-Some.community.0 (omega arith) e))
    (both_walked c.args.found.now c.walk-first.new.found c.walk.new.found
    (settled (c.args.depth - 1) (split c.args.store.now.universe asked) (with_present c.in-Some.community.0 c.args.fixing))
    (settled (c.args.depth - 1) (split c.args.store.now.universe asked) (with_absent c.in-Some.community.0 c.args.fixing)) c.walk-first.result
    c.walk.result one (sym c.is_err.ensures.value ∙ c.if-is_err.false) two)

pub returns-in_err-high-in-Some-clause-grows : goal.returns-in_err-high-in-Some-clause-grows
returns-in_err-high-in-Some-clause-grows t c = grows_trans _ _ _ c.in_ok-split_by.ensures.grows c.in_err-high-in-Some.ensures.grows

pub returns-in_err-with-in-Some-clause-grows : goal.returns-in_err-with-in-Some-clause-grows
returns-in_err-with-in-Some-clause-grows t c = grows_trans _ _ _ c.in_ok-split_by.ensures.grows c.in_ok-high-in-Some.ensures.grows

pub returns-then-is_err-clause-grows : goal.returns-then-is_err-clause-grows
returns-then-is_err-clause-grows t c = grows_trans _ _ _ (grows_trans _ _ _ c.in_ok-split_by.ensures.grows c.in_ok-high-in-Some.ensures.grows)
    c.walk-first.ensures.grows

pub returns-in_err-other-in-Some-clause-grows : goal.returns-in_err-other-in-Some-clause-grows
returns-in_err-other-in-Some-clause-grows t c = grows_trans _ _ _
    (grows_trans _ _ _ c.in_ok-split_by.ensures.grows c.in_ok-high-in-Some.ensures.grows) c.walk-first.ensures.grows

pub returns-in_err-low-in-Some-clause-grows : goal.returns-in_err-low-in-Some-clause-grows
returns-in_err-low-in-Some-clause-grows t c = grows_trans _ _ _
    (grows_trans _ _ _ (grows_trans _ _ _ c.in_ok-split_by.ensures.grows c.in_ok-high-in-Some.ensures.grows) c.walk-first.ensures.grows)
    c.in_err-low-in-Some.ensures.grows

pub returns-in_err-without-in-Some-clause-grows : goal.returns-in_err-without-in-Some-clause-grows
returns-in_err-without-in-Some-clause-grows t c = grows_trans _ _ _
    (grows_trans _ _ _ (grows_trans _ _ _ c.in_ok-split_by.ensures.grows c.in_ok-high-in-Some.ensures.grows) c.walk-first.ensures.grows)
    c.in_ok-low-in-Some.ensures.grows

pub returns-in_ok-without-in-Some-clause-grows : goal.returns-in_ok-without-in-Some-clause-grows
returns-in_ok-without-in-Some-clause-grows t c = grows_trans _ _ _
    (grows_trans _ _ _ (grows_trans _ _ _ (grows_trans _ _ _ c.in_ok-split_by.ensures.grows c.in_ok-high-in-Some.ensures.grows) c.walk-first.ensures.grows)
    c.in_ok-low-in-Some.ensures.grows) c.walk.ensures.grows
