use Rattle.std.proofs.Common.{◌∙◌, ℕ, List, sym, subst}
use Rattle.base_kit.specs.declared.ids.Community.{Community}
use Rattle.policy_dd.specs.Edge.{by_number, carried_by_rest}
use Rattle.canon_policy.specs.Made.{nodes_of}
use Rattle.canon_policy.specs.Nodes.{AreInside}
use Rattle.canon_policy.proofs.MadeForms.{in_denied}
use Rattle.canon_policy.proofs.Tables.{nodes_inside}
use Rattle.canon_policy.proofs.entries.in_entry.Goals as goal

pub returns-then-not-eval : goal.returns-then-not-eval
returns-then-not-eval c = c.in_ok-entry.ensures ∙ sym (in_denied c.args.store.now c.args.edge.now c.args.seq c.args.fixing.now
    (sym c.eval.ensures ∙ c.if-not-eval.true))

pub always_carried-requires : goal.always_carried-requires
always_carried-requires c =
    subst (λ (l : List (Community × ℕ)). AreInside c.args.store.now (nodes_of (by_number l))) (sym c.as_slice.ensures)
    (nodes_inside c.args.store.now (carried_by_rest c.args.store.now c.args.edge.now.rest) (by_number c.args.edge.now.outs) c.requires.means.outs.each)
