-- What files in memory hold.
use Rattle.std.specs.Prelude.{ℕ, Bool, true, List, [], ◌∷◌, Option, Some, None, if◌then◌else◌, unwrap_or, slice_get}
use Rattle.std.specs.Option.{option_map}
use Rattle.std.specs.Str.{bytes_eq}
use Rattle.io_kit.specs.declared.files.MemFile.{MemFile}

-- what the first file of a name holds
abbrev pub contents_of : List MemFile → List ℕ → Option (List ℕ)
contents_of [] name = None
contents_of (file ∷ files) name = if bytes_eq file.name name then Some file.bytes else contents_of files name

-- what the file at a place holds; nothing past the end, and nothing without a place
abbrev pub bytes_of : List MemFile → Option ℕ → List ℕ
bytes_of files None = []
bytes_of files (Some i) = unwrap_or (option_map (λ file. file.bytes) (slice_get files i)) []

-- a name that no file has is an empty file
abbrev pub contents_or_empty : List MemFile → List ℕ → List ℕ
contents_or_empty files name = unwrap_or (contents_of files name) []

-- every name counts as begun
abbrev pub all_begun : List ℕ → Bool
all_begun name = true
