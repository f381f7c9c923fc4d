use Rattle.std.proofs.Common.{◌∙◌, ◌≤◌, List, length, ap, sym, arith}
use Rattle.std.specs.List.{list_any}
use Rattle.route_maps.specs.declared.plain.PlainEntry.{PlainEntry}
use Rattle.canon_policy.specs.Canonical.{is_wide}
use Rattle.canon_policy.proofs.LastDenies.{limited_long, limited_wide, limited_some}
use Rattle.canon_policy.proofs.canonical.limited.Goals as goal

pub returns-then-len-gt-MOST_ENTRIES : goal.returns-then-len-gt-MOST_ENTRIES
returns-then-len-gt-MOST_ENTRIES c = let size = c.len.ensures in sym (limited_long c.args.entries (omega arith))

pub returns-then-any_is_wide : goal.returns-then-any_is_wide
returns-then-any_is_wide c =
    sym (limited_wide c.args.entries
    (ap (λ (l : List PlainEntry). list_any is_wide l) (sym c.as_slice.ensures) ∙ sym c.any_is_wide.ensures ∙ c.if-any_is_wide.true))

pub returns : goal.returns
returns c =
    let size = c.len.ensures in
    let few = c.if-len-gt-MOST_ENTRIES.false in
    let le : length c.args.entries ≤ 65535 = omega arith in
    limited_some c.args.entries _ le
    (ap (λ (l : List PlainEntry). list_any is_wide l) (sym c.as_slice.ensures) ∙ sym c.any_is_wide.ensures ∙ c.if-any_is_wide.false)
    c.without_last_denies.ensures
