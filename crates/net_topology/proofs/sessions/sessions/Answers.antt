use Rattle.std.proofs.Common.{sym, ◌∙◌}
use Rattle.net_topology.proofs.SessionLemmas.{no_sessions}
use Rattle.net_topology.proofs.sessions.sessions.Goals as goal

pub returns-then-is_empty : goal.returns-then-is_empty
returns-then-is_empty c =
    c.new.ensures ∙ no_sessions c.args.network.now c.requires.faultless c.as_slice.result.now (c.as_slice.ensures.value ∙ c.in_ok-peers.ensures)
    (sym c.is_empty.ensures ∙ c.if-is_empty.true)
