use Rattle.std.proofs.Common.{◌≡◌, take, ap, ◌∙◌}
use Rattle.std.specs.List.{list_any}
use Rattle.cfg_ast.specs.meaning.RouterFaults.{address_line, overlap}
use Rattle.cfg_check.specs.LeastLine.{lesser_line, fault_line_if}
use Rattle.cfg_check.proofs.BlockLemmas.{has_own_len, has_past_lens, meets_past, kept_turn}
use Rattle.cfg_check.proofs.Repeats.{least_repeat_turn}
use Rattle.cfg_check.proofs.overlaps.overlapping.Goals as goal

pub loop-address-preserved : goal.loop-address-preserved
loop-address-preserved c =
    let all = c.args.addresses.now in
    let i = c.loop-address.address-index in
    let x = c.address-item.result in
    let below = c.loop-address-test.true in
    let here = c.address-item.is in
    let lens = c.requires in
    let kept = c.loop-address.invariant.kept in
    let own = has_own_len c.args.lens.now all i x below here lens in
    let again : c.meets-overlaps.result ≡ list_any (overlap x) (take i all) = c.meets-overlaps.ensures
    ∙ meets_past c.loop-address.seen c.args.lens.now (take i all) x kept own (has_past_lens c.args.lens.now all i lens) in
    let at = ap (λ n. lesser_line c.loop-address.least (fault_line_if c.meets-overlaps.result n)) c.line.ensures in
    record {
      least = c.with_line_if-least.ensures ∙ at ∙ least_repeat_turn overlap address_line all i x c.loop-address.least c.meets-overlaps.result below here
          c.loop-address.invariant.least again;
      kept = kept_turn c.loop-address.seen c.keep_subnet.new.subnets c.keep_around.new.around c.args.lens.now all i x below here kept
          c.in_ok-keep_subnet.ensures c.in_ok-keep_around.ensures;
    }
