use Rattle.std.proofs.Common.{rules, ◌∙◌, ap, filter}
use Rattle.std.proofs.lemmas.Fn.{filter_same}
use Rattle.refine_partition.specs.Kept.{is_numbered}
use Rattle.refine_partition.proofs.division.members_with.Goals as goal

pub returns : goal.returns
returns c =
    filter_same _ _ _ (λ x b f' k. search rules) _ _ c.retain.ensures.filtered
    ∙ ap (filter (is_numbered c.args.numbers.now c.args.number)) c.in_ok-found.ensures.items
