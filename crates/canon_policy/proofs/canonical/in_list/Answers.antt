use Rattle.std.proofs.Common.{◌∙◌, sym, subst}
use Rattle.policy_dd.specs.Edge.{keys_of, by_number}
use Rattle.canon_policy.specs.declared.parts.Nodes.{Nodes}
use Rattle.canon_policy.specs.Fixings.{nothing_fixed}
use Rattle.canon_policy.specs.Functions.{on_sets}
use Rattle.canon_policy.specs.Made.{asked_of}
use Rattle.canon_policy.specs.Nodes.{AreFunctionNodesInside, AreNodesOf}
use Rattle.canon_policy.proofs.Asked.{in_inside, in_told, asked_hangs, other_carried}
use Rattle.canon_policy.proofs.CanonLists.{refused, form_kept, in_back}
use Rattle.canon_policy.proofs.Limits.{in_over}
use Rattle.canon_policy.proofs.canonical.in_list.Goals as goal

pub settled_fixings-requires : goal.settled_fixings-requires
settled_fixings-requires c =
    subst (λ (n : Nodes). AreFunctionNodesInside c.args.store.now n) (sym c.in_ok-nodes.ensures)
    (in_inside c.args.store.now c.len-known.ensures.shown c.args.edge.now c.requires.import c.requires.means)

pub in_list_of-requires : goal.in_list_of-requires
in_list_of-requires c = form_kept c.args.store.now c.settled_fixings.new.store c.settled_fixings.ensures.grows c.args.edge.now c.requires

pub returns-in-Err-clause-list : goal.returns-in-Err-clause-list
returns-in-Err-clause-list c = λ f of plain.
    refused c.in-Err.refusal _ _ (c.in-Err.ensures.walked
    (asked_of c.args.store.now.universe (on_sets f) (keys_of (by_number c.args.edge.now.outs)))
    (asked_hangs c.args.store.now.universe (on_sets f) plain (keys_of (by_number c.args.edge.now.outs)) of.outs_known
    (other_carried c.args.store.now c.len-known.ensures.shown c.args.edge.now f of plain))
    (subst (λ (n : Nodes). AreNodesOf c.args.store.now nothing_fixed n
    (asked_of c.args.store.now.universe (on_sets f) (keys_of (by_number c.args.edge.now.outs))))
    (sym c.in_ok-nodes.ensures) (in_told c.args.store.now c.len-known.ensures.shown c.args.edge.now f of plain)))
    (in_over c.args.store.now c.len-known.ensures.shown c.args.edge.now f of plain)

pub returns-in-None-clause-list : goal.returns-in-None-clause-list
returns-in-None-clause-list c = λ f of plain.
    in_back c.args.store.now c.settled_fixings.new.store c.settled_fixings.ensures.grows c.args.edge.now f of plain c.as_slice.result.now
    c.in_ok-in_list_of-in-Ok.field-0
    (c.in_ok-in_list_of-in-Ok.ensures f)
    (c.as_slice.ensures ∙ c.in-Ok.ensures.walked
    (asked_of c.args.store.now.universe (on_sets f) (keys_of (by_number c.args.edge.now.outs)))
    (asked_hangs c.args.store.now.universe (on_sets f) plain (keys_of (by_number c.args.edge.now.outs)) of.outs_known
    (other_carried c.args.store.now c.len-known.ensures.shown c.args.edge.now f of plain))
    (subst (λ (n : Nodes). AreNodesOf c.args.store.now nothing_fixed n
    (asked_of c.args.store.now.universe (on_sets f) (keys_of (by_number c.args.edge.now.outs))))
    (sym c.in_ok-nodes.ensures) (in_told c.args.store.now c.len-known.ensures.shown c.args.edge.now f of plain)))
    ∙ c.in-None.is

pub returns-clause-list : goal.returns-clause-list
returns-clause-list c = λ f of plain.
    in_back c.args.store.now c.settled_fixings.new.store c.settled_fixings.ensures.grows c.args.edge.now f of plain c.as_slice.result.now
    c.in_ok-in_list_of-in-Ok.field-0
    (c.in_ok-in_list_of-in-Ok.ensures f)
    (c.as_slice.ensures ∙ c.in-Ok.ensures.walked
    (asked_of c.args.store.now.universe (on_sets f) (keys_of (by_number c.args.edge.now.outs)))
    (asked_hangs c.args.store.now.universe (on_sets f) plain (keys_of (by_number c.args.edge.now.outs)) of.outs_known
    (other_carried c.args.store.now c.len-known.ensures.shown c.args.edge.now f of plain))
    (subst (λ (n : Nodes). AreNodesOf c.args.store.now nothing_fixed n
    (asked_of c.args.store.now.universe (on_sets f) (keys_of (by_number c.args.edge.now.outs))))
    (sym c.in_ok-nodes.ensures) (in_told c.args.store.now c.len-known.ensures.shown c.args.edge.now f of plain)))
    ∙ c.in-Some.is
