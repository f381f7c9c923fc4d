use Rattle.std.proofs.Common.{◌≡◌, ◌∙◌, ap, sym, subst, Option, ℕ, List, [], true, false}
use Rattle.std.specs.Prelude.{IfOk}
use Rattle.std.specs.Option.{option_map}
use Rattle.canon_policy.specs.Fixings.{agreeing}
use Rattle.canon_policy.specs.declared.parts.PartNodes.{PartNodes}
use Rattle.canon_policy.specs.Nodes.{ArePartsTold, community_number}
use Rattle.canon_policy.proofs.Carried.{first_of_test, test_under}
use Rattle.canon_policy.proofs.Told.{split_some, split_denied, split_rest}
use Rattle.canon_policy.proofs.parts.split_by.Goals as goal

pub returns-then-is_some-clause-split : goal.returns-then-is_some-clause-split
returns-then-is_some-clause-split c = λ asked fixing hang of.
    let first = first_of_test c.args.store.now c.len-known.ensures.shown c.args.nodes.now.permit (λ set. asked.accepted (agreeing fixing set))
    (test_under c.args.store.now.universe asked.accepted fixing hang.accepted) of.permit c.first-first.result c.first-first.ensures in
    split_some c.args.store.now.universe asked fixing c.first-first.result first (sym c.is_some.ensures ∙ c.if-is_some.true)

pub returns-then-accepted-clause-split : goal.returns-then-accepted-clause-split
returns-then-accepted-clause-split c = λ asked fixing hang of.
    let first = first_of_test c.args.store.now c.len-known.ensures.shown c.args.nodes.now.permit (λ set. asked.accepted (agreeing fixing set))
    (test_under c.args.store.now.universe asked.accepted fixing hang.accepted) of.permit c.first-first.result c.first-first.ensures in
    let given : asked.accepted (agreeing fixing []) ≡ true = sym (ap (λ (s : List ℕ). asked.accepted (agreeing fixing s)) c.new.ensures)
    ∙ sym (of.permit.value c.new.result) ∙ sym c.eval-accepted.ensures ∙ c.if-accepted.true in
    let same = split_rest c.args.store.now.universe asked fixing c.first-first.result first (sym c.is_some.ensures ∙ c.if-is_some.false) given in
    subst (λ (x : Option ℕ). IfOk c.first_unsettled.result (λ r. option_map community_number r ≡ x)) same
    (c.first_unsettled.ensures.unsettled asked.kept fixing asked.parts hang.kept hang.parts of.rest
    (subst (λ (l : List PartNodes). ArePartsTold c.args.store.now fixing l asked.parts) (sym c.as_slice.ensures) of.parts))

pub returns-clause-split : goal.returns-clause-split
returns-clause-split c = λ asked fixing hang of.
    let first = first_of_test c.args.store.now c.len-known.ensures.shown c.args.nodes.now.permit (λ set. asked.accepted (agreeing fixing set))
    (test_under c.args.store.now.universe asked.accepted fixing hang.accepted) of.permit c.first-first.result c.first-first.ensures in
    let denied : asked.accepted (agreeing fixing []) ≡ false = sym (ap (λ (s : List ℕ). asked.accepted (agreeing fixing s)) c.new.ensures)
    ∙ sym (of.permit.value c.new.result) ∙ sym c.eval-accepted.ensures ∙ c.if-accepted.false in
    split_denied c.args.store.now.universe asked fixing c.first-first.result first (sym c.is_some.ensures ∙ c.if-is_some.false) denied
