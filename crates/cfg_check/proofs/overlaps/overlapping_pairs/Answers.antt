use Rattle.std.proofs.Common.{◌≡◌, take, ap, ◌∙◌}
use Rattle.std.specs.List.{list_any}
use Rattle.cfg_ast.specs.meaning.RouterFaults.{address_line, overlap}
use Rattle.cfg_check.specs.LeastLine.{lesser_line, fault_line_if}
use Rattle.cfg_check.proofs.Repeats.{least_repeat_turn}
use Rattle.cfg_check.proofs.overlaps.overlapping_pairs.Goals as goal

pub loop-place-preserved : goal.loop-place-preserved
loop-place-preserved c =
    let all = c.args.addresses.now in
    let i = c.loop-place.place in
    let x = c.index-addresses-place.result in
    let overlaps = c.overlaps_one-overlaps.result in
    let again : overlaps ≡ list_any (overlap x) (take i all) = c.overlaps_one-overlaps.ensures in
    let at = ap (λ n. lesser_line c.loop-place.least (fault_line_if overlaps n)) c.line.ensures in
    c.with_line_if-least.ensures ∙ at ∙ least_repeat_turn overlap address_line all i x c.loop-place.least overlaps c.loop-place-test.true
    c.index-addresses-place.is c.loop-place.invariant again
