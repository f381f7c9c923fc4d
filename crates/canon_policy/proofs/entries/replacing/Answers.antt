use Rattle.std.proofs.Common.{◌∙◌, ℕ, List, ap, sym, subst, Option, None}
use Rattle.base_kit.specs.Sets.{IsAscending}
use Rattle.cfg_ast.specs.declared.policy.Change.{Change}
use Rattle.cfg_ast.specs.declared.policy.CommunityList.{CommunityList}
use Rattle.policy_dd.specs.Edge.{never}
use Rattle.canon_policy.specs.Entries.{match_of, replacement_by}
use Rattle.canon_policy.specs.Made.{nodes_of, lp_in}
use Rattle.canon_policy.specs.Nodes.{AreInside}
use Rattle.canon_policy.proofs.MadeForms.{permitting, in_replaces}
use Rattle.canon_policy.proofs.MadeLists.{ascending_carried}
use Rattle.canon_policy.proofs.Tables.{nodes_inside}
use Rattle.canon_policy.proofs.entries.replacing.Goals as goal

pub preference_of-requires : goal.preference_of-requires
preference_of-requires c =
    subst (λ (l : List (ℕ × ℕ)). AreInside c.args.store.now (nodes_of l)) (sym c.as_slice.ensures)
    (nodes_inside c.args.store.now never c.args.edge.now.lps c.requires.edge.means.lps.each)

pub replacement_by-requires : goal.replacement_by-requires
replacement_by-requires c =
    subst (λ (l : List ℕ). IsAscending l) (sym c.requires.carried)
    (ascending_carried c.args.store.now c.args.fixing.now.present c.args.edge.now.outs c.requires.edge.means.outs.ascending)

pub returns : goal.returns
returns c =
    let lists = c.in_ok-lists.ensures in
    let lp = c.preference_of.ensures ∙ ap (λ (l : List (ℕ × ℕ)). lp_in c.args.store.now c.args.fixing.now.present l) c.as_slice.ensures in
    let change = c.replacement_by.ensures ∙ ap (λ (l : List ℕ). replacement_by l) c.requires.carried in
    ap (λ (x : Option (List CommunityList)). permitting c.args.seq x c.preference_of.result c.replacement_by.result None 0) lists
    ∙ ap (λ (x : Option ℕ). permitting c.args.seq (match_of c.args.fixing.now.present) x c.replacement_by.result None 0) lp
    ∙ ap (λ (x : Option Change). permitting c.args.seq (match_of c.args.fixing.now.present)
    (lp_in c.args.store.now c.args.fixing.now.present c.args.edge.now.lps) x None 0) change
    ∙ sym (in_replaces c.args.store.now c.args.edge.now c.args.seq c.args.fixing.now c.requires.permit c.requires.replaced)
