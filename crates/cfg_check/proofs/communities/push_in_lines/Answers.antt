use Rattle.std.proofs.Common.{ℕ, List, map, ap}
use Rattle.cfg_ast.specs.meaning.PolicyFaults.{mention_at, mentions_on, mentions_on}
use Rattle.cfg_check.proofs.Turns.{flat_onto}
use Rattle.cfg_check.proofs.communities.push_in_lines.Goals as goal

pub loop-line-preserved : goal.loop-line-preserved
loop-line-preserved c = flat_onto mentions_on c.args.found.now.items c.args.lines.now c.loop-line.line-index c.line-item.result c.loop-line.found.items
    c.push_on.new.found.items (map (mention_at c.line-item.result.line) c.as_slice.result.now) c.loop-line-test.true c.line-item.is c.loop-line.invariant
    (ap (λ (comms : List ℕ). map (mention_at c.line-item.result.line) comms) c.as_slice.ensures.all) c.in_ok-push_on.ensures
