-- What is seen of files in memory.
use Rattle.std.specs.Prelude.{ℕ, List}
use Rattle.io_kit.specs.declared.files.MemFile.{MemFile}

-- the files, what is left of the one begun last, the calls that fail, the calls so far and the faults
pub record SourceState : Type 0 where
  pub files : List MemFile
  pub rest : List ℕ
  pub failing : List ℕ
  pub calls : ℕ
  pub faults : ℕ

-- the same of files that never fail
pub record SureState : Type 0 where
  pub files : List MemFile
  pub rest : List ℕ
