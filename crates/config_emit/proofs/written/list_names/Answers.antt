use Rattle.std.proofs.Common.{List, [], ◌∷◌, ◌++◌, ◌+◌, ◌∙◌, append_assoc, ap, drop, map, sym}
use Rattle.std.specs.List.{enumerate_from}
use Rattle.cfg_ast.specs.declared.policy.CommunityList.{CommunityList}
use Rattle.config_emit.specs.Maps.{match_list, match_name, name_of_list}
use Rattle.config_emit.proofs.ListSteps.{drop_turn}
use Rattle.config_emit.proofs.written.list_names.Goals as goal

pub loop-i-preserved : goal.loop-i-preserved
loop-i-preserved c =
    let k = c.args.k in
    let seq = c.args.seq in
    let i = c.loop-i.i in
    let names = c.loop-i.names in
    let rest = map name_of_list (map (match_list k seq) (enumerate_from (i + 1 + 1) (drop (i + 1) c.args.lists.now))) in
    let none : CommunityList = record { name = []; lines = [] } in
    ap (λ ns. ns ++ rest) (c.in_ok-push.ensures.ok ∙ ap (λ n. names ++ n ∷ []) c.in_ok-match_name.ensures)
    ∙ append_assoc names (match_name k seq (i + 1) ∷ []) rest
    ∙ ap (λ (xs : List CommunityList). names ++ map name_of_list (map (match_list k seq) (enumerate_from (i + 1) xs)))
    (sym (drop_turn c.args.lists.now i none c.loop-i-test.true))
    ∙ c.loop-i.invariant
