-- The lines that tell of a file that could not be read, of an output that could not be written, and of memory that ran out.
use Rattle.std.specs.Prelude.{ℕ, List, [], ◌∷◌, ◌++◌, codes}

-- the file has this name
abbrev pub read_fault_line : List ℕ → List ℕ
read_fault_line name = codes "read fault: " ++ name ++ 10 ∷ []

abbrev pub write_fault_line : List ℕ
write_fault_line = codes "write fault\n"

abbrev pub no_memory_line : List ℕ
no_memory_line = codes "out of memory\n"
