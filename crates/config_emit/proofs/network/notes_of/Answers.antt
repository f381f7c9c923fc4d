use Rattle.std.proofs.Common.{List, [], ℕ, ◌∙◌, ap, map}
use Rattle.std.specs.Prelude.{slice_index_or}
use Rattle.std.specs.List.{range_with_len}
use Rattle.base_kit.specs.Partition.{members_of}
use Rattle.cfg_ast.specs.declared.network.Notes.{Notes}
use Rattle.config_emit.specs.Emitted.{notes_of}
use Rattle.config_emit.proofs.network.notes_of.Goals as goal

pub returns : goal.returns
unfolding notes_of
returns c =
    let groups = c.args.source.now.groups.now in
    let count = c.args.source.now.count in
    let noted : List (List (List ℕ)) → Notes = λ ms. record { members = ms } in
    ap noted (c.in_ok-members.ensures ∙ ap (λ (names : List (List ℕ)).
    map (λ g. map (λ u. slice_index_or names u []) (members_of groups g)) (range_with_len 0 count)) (c.as_slice-names.ensures ∙ c.names.ensures))
