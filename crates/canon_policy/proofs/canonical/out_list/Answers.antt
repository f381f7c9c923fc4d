use Rattle.std.proofs.Common.{◌∙◌, ℕ, List, ap, sym, subst, Some}
use Rattle.route_maps.specs.declared.plain.Plain.{Plain}
use Rattle.canon_policy.specs.declared.parts.Nodes.{Nodes}
use Rattle.canon_policy.specs.Canonical.{out_asked}
use Rattle.canon_policy.specs.Fixings.{nothing_fixed}
use Rattle.canon_policy.specs.Functions.{on_sets}
use Rattle.canon_policy.specs.Made.{has_no_count}
use Rattle.canon_policy.specs.Nodes.{AreFunctionNodesInside, AreNodesOf}
use Rattle.canon_policy.proofs.Asked.{out_inside, out_told}
use Rattle.canon_policy.proofs.CanonLists.{refused, form_kept, out_back}
use Rattle.canon_policy.proofs.Limits.{out_over, out_passing}
use Rattle.canon_policy.proofs.Plain.{out_asked_hangs}
use Rattle.canon_policy.proofs.canonical.out_list.Goals as goal

pub settled_fixings-requires : goal.settled_fixings-requires
settled_fixings-requires c =
    subst (λ (n : Nodes). AreFunctionNodesInside c.args.store.now n) (sym c.in_ok-nodes.ensures)
    (out_inside c.args.store.now c.len-known.ensures.shown c.args.edge.now c.requires.import c.requires.means)

pub out_list_of-requires : goal.out_list_of-requires
out_list_of-requires c = form_kept c.args.store.now c.settled_fixings.new.store c.settled_fixings.ensures.grows c.args.edge.now c.requires

pub returns-then-adds_nothing-clause-list : goal.returns-then-adds_nothing-clause-list
returns-then-adds_nothing-clause-list c = λ f of plain.
    out_passing c.args.store.now c.len-known.ensures.shown c.args.edge.now f of plain
    (ap (λ (l : List (ℕ × ℕ)). has_no_count l) (sym c.as_slice-counts.ensures) ∙ sym c.adds_nothing.ensures ∙ c.if-adds_nothing.true)
    ∙ ap (λ (map : Plain). Some map) (sym c.in_ok-map.ensures)

pub returns-in-Err-clause-list : goal.returns-in-Err-clause-list
returns-in-Err-clause-list c = λ f of plain.
    refused c.in-Err.refusal _ _ (c.in-Err.ensures.walked
    (out_asked c.args.store.now.universe (on_sets f))
    (out_asked_hangs c.args.store.now.universe (on_sets f) plain)
    (subst (λ (n : Nodes). AreNodesOf c.args.store.now nothing_fixed n (out_asked c.args.store.now.universe (on_sets f)))
    (sym c.in_ok-nodes.ensures) (out_told c.args.store.now c.len-known.ensures.shown c.args.edge.now f of plain)))
    (out_over c.args.store.now c.len-known.ensures.shown c.args.edge.now f of plain
    (ap (λ (l : List (ℕ × ℕ)). has_no_count l) (sym c.as_slice-counts.ensures) ∙ sym c.adds_nothing.ensures ∙ c.if-adds_nothing.false))

pub returns-in-None-clause-list : goal.returns-in-None-clause-list
returns-in-None-clause-list c = λ f of plain.
    out_back c.args.store.now c.settled_fixings.new.store c.settled_fixings.ensures.grows c.args.edge.now f of plain c.as_slice.result.now
    c.in_ok-out_list_of-in-Ok.field-0
    (λ of_new plain_new e. c.in_ok-out_list_of-in-Ok.ensures f of_new plain_new
    (ap (λ (l : List (ℕ × ℕ)). has_no_count l) (sym c.as_slice-counts.ensures) ∙ sym c.adds_nothing.ensures ∙ c.if-adds_nothing.false) e)
    (c.as_slice.ensures ∙ c.in-Ok.ensures.walked
    (out_asked c.args.store.now.universe (on_sets f))
    (out_asked_hangs c.args.store.now.universe (on_sets f) plain)
    (subst (λ (n : Nodes). AreNodesOf c.args.store.now nothing_fixed n (out_asked c.args.store.now.universe (on_sets f)))
    (sym c.in_ok-nodes.ensures) (out_told c.args.store.now c.len-known.ensures.shown c.args.edge.now f of plain)))
    ∙ c.in-None.is

pub returns-clause-list : goal.returns-clause-list
returns-clause-list c = λ f of plain.
    out_back c.args.store.now c.settled_fixings.new.store c.settled_fixings.ensures.grows c.args.edge.now f of plain c.as_slice.result.now
    c.in_ok-out_list_of-in-Ok.field-0
    (λ of_new plain_new e. c.in_ok-out_list_of-in-Ok.ensures f of_new plain_new
    (ap (λ (l : List (ℕ × ℕ)). has_no_count l) (sym c.as_slice-counts.ensures) ∙ sym c.adds_nothing.ensures ∙ c.if-adds_nothing.false) e)
    (c.as_slice.ensures ∙ c.in-Ok.ensures.walked
    (out_asked c.args.store.now.universe (on_sets f))
    (out_asked_hangs c.args.store.now.universe (on_sets f) plain)
    (subst (λ (n : Nodes). AreNodesOf c.args.store.now nothing_fixed n (out_asked c.args.store.now.universe (on_sets f)))
    (sym c.in_ok-nodes.ensures) (out_told c.args.store.now c.len-known.ensures.shown c.args.edge.now f of plain)))
    ∙ c.in-Some.is
