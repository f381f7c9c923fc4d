-- The fields of files in memory, and what is seen of them.
use Rattle.std.specs.Prelude.{drop}
use Rattle.io_kit.specs.Files.{bytes_of}
use Rattle.io_kit.specs.SourceState.{SourceState, SureState}
use Rattle.io_kit.specs.declared.mem_source.MemSource.TheInside as mem
use Rattle.io_kit.specs.declared.sure_source.SureSource.TheInside as sure

abbrev pub source_state : mem.Inside → SourceState
source_state s = record { files = s.files; rest = drop s.at (bytes_of s.files s.place); failing = s.failing; calls = s.calls; faults = s.faults }

abbrev pub sure_state : sure.Inside → SureState
sure_state s = record { files = s.files; rest = drop s.at (bytes_of s.files s.place) }
