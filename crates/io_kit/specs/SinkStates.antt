-- When a sink in memory fails.
use Rattle.std.specs.Prelude.{ℕ, ◌≤◌, ◌<◌, ◌⊎◌, List, length, Contains}
use Rattle.io_kit.specs.Calls.{up}
use Rattle.io_kit.specs.SinkState.{SinkState}
use Rattle.io_kit.specs.declared.mem_sink.MemSink.TheInside.{Inside}

abbrev pub sink_state : Inside → SinkState
sink_state s = record { taken = s.bytes.items; most = s.most; room = s.room; failing = s.failing; calls = s.calls; faults = s.faults }

-- the next call with this piece fails: it is listed, or there is something to take and no room
abbrev pub FailsAt : SinkState → List ℕ → Type 0
FailsAt s piece = Contains s.failing (up s.calls) ⊎ ((0 < length piece) × (s.room ≤ length s.taken))
