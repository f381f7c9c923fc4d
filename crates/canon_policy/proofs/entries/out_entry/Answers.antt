use Rattle.std.proofs.Common.{◌≡◌, ◌∙◌, ℕ, List, ap, sym, subst, Option, None}
use Rattle.std.specs.Prelude.{IfOk}
use Rattle.cfg_ast.specs.declared.policy.CommunityList.{CommunityList}
use Rattle.policy_dd.specs.Edge.{never}
use Rattle.route_maps.specs.declared.plain.PlainEntry.{PlainEntry}
use Rattle.canon_policy.specs.Entries.{match_of}
use Rattle.canon_policy.specs.Made.{nodes_of, count_in}
use Rattle.canon_policy.specs.Nodes.{AreInside}
use Rattle.canon_policy.proofs.MadeForms.{permitting, out_denied, out_permits}
use Rattle.canon_policy.proofs.Tables.{nodes_inside}
use Rattle.canon_policy.proofs.entries.out_entry.Goals as goal

pub returns-then-not-eval : goal.returns-then-not-eval
returns-then-not-eval c =
    subst (λ (made : PlainEntry). IfOk c.denying.result (λ entry. entry ≡ made))
    (sym (out_denied c.args.store.now c.args.edge.now c.args.seq c.args.fixing.now (sym c.eval.ensures ∙ c.if-not-eval.true))) c.denying.ensures

pub count_of-requires : goal.count_of-requires
count_of-requires c =
    subst (λ (l : List (ℕ × ℕ)). AreInside c.args.store.now (nodes_of l)) (sym c.as_slice.ensures)
    (nodes_inside c.args.store.now never c.args.edge.now.adds c.requires.means.adds.each)

pub returns : goal.returns
returns c =
    ap (λ (lists : Option (List CommunityList)). permitting c.args.seq lists None None None c.count_of.result) c.in_ok-lists.ensures
    ∙ ap (λ (n : ℕ). permitting c.args.seq (match_of c.args.fixing.now.present) None None None n)
    (c.count_of.ensures ∙ ap (λ (l : List (ℕ × ℕ)). count_in c.args.store.now c.args.fixing.now.present l) c.as_slice.ensures)
    ∙ sym (out_permits c.args.store.now c.args.edge.now c.args.seq c.args.fixing.now (sym c.eval.ensures ∙ c.if-not-eval.false))
