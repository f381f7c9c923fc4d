use Rattle.std.proofs.Common.{ℕ, List, map, ap}
use Rattle.cfg_ast.specs.meaning.PolicyFaults.{mention_at, mentions_in, mentions_in}
use Rattle.cfg_check.proofs.Turns.{flat_onto}
use Rattle.cfg_check.proofs.communities.push_in_entries.Goals as goal

pub loop-entry-preserved : goal.loop-entry-preserved
loop-entry-preserved c = flat_onto mentions_in c.args.found.now.items c.args.entries.now c.loop-entry.entry-index c.entry-item.result c.loop-entry.found.items
    c.push_on.new.found.items (map (mention_at c.entry-item.result.change_line) c.changed_by.result.now) c.loop-entry-test.true c.entry-item.is
    c.loop-entry.invariant (ap (λ (comms : List ℕ). map (mention_at c.entry-item.result.change_line) comms) c.changed_by.ensures) c.in_ok-push_on.ensures
