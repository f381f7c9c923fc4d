use Rattle.std.proofs.Common.{◌≡◌, ℕ, Bool, List, flat_map, ap, ◌∙◌}
use Rattle.std.specs.List.{list_any}
use Rattle.cfg_ast.specs.declared.policy.CommunityList.{CommunityList}
use Rattle.cfg_ast.specs.declared.policy.RouteMap.{RouteMap}
use Rattle.cfg_ast.specs.meaning.PolicyFaults.{is_deleted_in, is_deleted, several_in}
use Rattle.cfg_check.specs.LeastLine.{least_line}
use Rattle.numbered_names.specs.NameSets.{has_name}
use Rattle.cfg_check.proofs.NameTurns.{has_is}
use Rattle.cfg_check.proofs.deletions.wide_deletions_of.Goals as goal

pub returns : goal.returns
returns c =
    let router = c.args.router.now in
    let names = c.in_ok-names.names in
    let deleted = λ (maps : List RouteMap) (q : List ℕ). list_any (is_deleted_in q) maps in
    let are : has_name names ≡ is_deleted router = has_is names (deleted c.as_slice.result.now) c.in_ok-names.ensures ∙ ap deleted c.as_slice.ensures in
    c.several_in_lists.ensures
    ∙ ap (λ (test : List ℕ → Bool). least_line (flat_map (several_in test) c.as_slice-2.result.now)) are
    ∙ ap (λ (lists : List CommunityList). least_line (flat_map (several_in (is_deleted router)) lists)) c.as_slice-2.ensures
