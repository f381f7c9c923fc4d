use Rattle.std.proofs.Common.{◌∙◌, ℕ, List, ap, sym, subst, filter, Option}
use Rattle.base_kit.specs.declared.ids.Community.{Community}
use Rattle.base_kit.specs.Sets.{IsAscending}
use Rattle.cfg_ast.specs.declared.policy.Change.{Change}
use Rattle.cfg_ast.specs.declared.policy.CommunityList.{CommunityList}
use Rattle.policy_dd.specs.Edge.{by_number, never, carried_by_rest}
use Rattle.canon_policy.specs.Entries.{match_of, addition_of, deletion_of}
use Rattle.canon_policy.specs.Made.{nodes_of, carried_in, deleted_in, is_not_present, lp_in}
use Rattle.canon_policy.specs.Nodes.{AreInside}
use Rattle.canon_policy.proofs.MadeForms.{permitting, in_adds, more_ascends}
use Rattle.canon_policy.proofs.Tables.{nodes_inside}
use Rattle.canon_policy.proofs.entries.adding.Goals as goal

pub deleted-requires : goal.deleted-requires
deleted-requires c =
    subst (λ (l : List (Community × ℕ)). AreInside c.args.store.now (nodes_of (by_number l))) (sym c.as_slice.ensures)
    (nodes_inside c.args.store.now (carried_by_rest c.args.store.now c.args.edge.now.rest) (by_number c.args.edge.now.outs) c.requires.edge.means.outs.each)

pub preference_of-requires : goal.preference_of-requires
preference_of-requires c =
    subst (λ (l : List (ℕ × ℕ)). AreInside c.args.store.now (nodes_of l)) (sym c.as_slice-3.ensures)
    (nodes_inside c.args.store.now never c.args.edge.now.lps c.requires.edge.means.lps.each)

pub addition_of-requires : goal.addition_of-requires
addition_of-requires c =
    subst (λ (l : List ℕ). IsAscending l) (sym c.in_ok-more.ensures)
    (more_ascends c.args.store.now c.args.edge.now c.args.seq c.args.fixing.now c.args.carried.now c.requires.carried c.requires.edge.means.outs.ascending)

pub returns : goal.returns
returns c =
    let lists = c.in_ok-lists.ensures in
    let lp = c.preference_of.ensures ∙ ap (λ (l : List (ℕ × ℕ)). lp_in c.args.store.now c.args.fixing.now.present l) c.as_slice-3.ensures in
    let change = c.addition_of.ensures ∙ ap (λ (l : List ℕ). addition_of l)
    (c.in_ok-more.ensures ∙ ap (λ (l : List ℕ). filter (is_not_present c.args.fixing.now) l) c.requires.carried) in
    let delete = c.in_ok-delete.ensures ∙ ap (λ (l : List ℕ). deletion_of l)
    (c.as_slice-2.ensures.value ∙ c.in_ok-deleted.ensures
    ∙ ap (λ (l : List (Community × ℕ)). deleted_in c.args.store.now c.args.fixing.now l) c.as_slice.ensures) in
    ap (λ (x : Option (List CommunityList)). permitting c.args.seq x c.preference_of.result c.addition_of.result c.in_ok-delete.delete 0) lists
    ∙ ap (λ (x : Option ℕ). permitting c.args.seq (match_of c.args.fixing.now.present) x c.addition_of.result c.in_ok-delete.delete 0) lp
    ∙ ap (λ (x : Option Change). permitting c.args.seq (match_of c.args.fixing.now.present)
    (lp_in c.args.store.now c.args.fixing.now.present c.args.edge.now.lps) x c.in_ok-delete.delete 0) change
    ∙ ap (λ (x : Option CommunityList). permitting c.args.seq (match_of c.args.fixing.now.present)
    (lp_in c.args.store.now c.args.fixing.now.present c.args.edge.now.lps)
    (addition_of (filter (is_not_present c.args.fixing.now) (carried_in c.args.store.now c.args.fixing.now.present c.args.edge.now.outs))) x 0) delete
    ∙ sym (in_adds c.args.store.now c.args.edge.now c.args.seq c.args.fixing.now c.requires.permit c.requires.kept)
