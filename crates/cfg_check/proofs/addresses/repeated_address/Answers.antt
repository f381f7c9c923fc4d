use Rattle.std.proofs.Common.{◌≡◌, true, not, take, ap, ◌∙◌, nat_eq}
use Rattle.std.proofs.Math.Bool.{not-not}
use Rattle.std.specs.List.{list_any}
use Rattle.cfg_ast.specs.meaning.Addresses.{Address}
use Rattle.cfg_ast.specs.meaning.RouterFaults.{address_line}
use Rattle.cfg_check.specs.Items.{same_address}
use Rattle.cfg_check.proofs.Repeats.{least_repeat_turn}
use Rattle.cfg_check.proofs.Seen.{number_turn}
use Rattle.std.proofs.Common.{subst}
use Rattle.std.specs.HashSet.{contains, Updates}
use Rattle.cfg_check.specs.LeastLine.{lesser_line, fault_line_if}
use Rattle.cfg_check.proofs.addresses.repeated_address.Goals as goal

pub loop-address-preserved : goal.loop-address-preserved
loop-address-preserved c =
    let all = c.args.addresses.now in
    let i = c.loop-address.address-index in
    let x = c.address-item.result in
    let below = c.loop-address-test.true in
    let again : not c.in_ok-is_new.is_new ≡ list_any (same_address x) (take i all) =
    ap not c.in_ok-is_new.ensures.added ∙ not-not _ ∙ ap (λ a. contains nat_eq c.loop-address.seen a) c.addr.ensures ∙ c.loop-address.invariant.1 x.addr in
    let kept = least_repeat_turn same_address address_line all i x c.loop-address.least (not c.in_ok-is_new.is_new) below c.address-item.is
    c.loop-address.invariant.0 again in
    let at = ap (λ n. lesser_line c.loop-address.least (fault_line_if (not c.in_ok-is_new.is_new) n)) c.line.ensures in
    let updates = subst (λ a. Updates nat_eq c.loop-address.seen c.insert.new.self a true) c.addr.ensures c.in_ok-is_new.ensures.updates in (
      c.with_line_if-least.ensures ∙ at ∙ kept,
      number_turn (λ (y : Address). y.addr) all i x c.loop-address.seen c.insert.new.self below c.address-item.is updates c.loop-address.invariant.1,
    )
