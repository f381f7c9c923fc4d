use Rattle.std.proofs.Common.{List, ap, map, sym, subst, ◌∙◌, []}
use Rattle.base_kit.specs.Prefixes.{Prefix}
use Rattle.cfg_ast.specs.declared.classes.Origin.{Origin}
use Rattle.cfg_ast.specs.declared.policy.PrefixList.{PrefixList}
use Rattle.dest_classes.specs.Cells.{entries_of, AreAllTold, AreMembers}
use Rattle.dest_classes.proofs.Rules.{at_now}
use Rattle.dest_classes.proofs.Asked.{started_told, started_entries}
use Rattle.dest_classes.proofs.cells.members_of.Goals as goal

pub ask_all-requires : goal.ask_all-requires
ask_all-requires c = subst (AreAllTold []) (sym c.in_ok-members.ensures.members) (started_told c.args.originators.entries)

pub returns-clause-members : goal.returns-clause-members
returns-clause-members c =
    let entries = ap entries_of c.in_ok-members.ensures.members ∙ started_entries c.args.originators.entries in
    let lists = ap (map at_now) c.as_slice.ensures.value ∙ c.in_ok-lists.ensures in
    subst (λ (ls : List PrefixList). AreMembers c.args.originators.entries ls c.in_ok-told.told.items) lists
    (subst (λ (es : List (Prefix × List Origin)). AreMembers es (map at_now c.as_slice.result.now) c.in_ok-told.told.items) entries c.in_ok-told.ensures)
