-- An answer that is exactly what its definition gives.
use Rattle.std.proofs.Common.{◌≡◌, Result, Ok, Err, sym}
use Rattle.solution_text.specs.declared.refusal.SolRefusal.{SolRefusal}
use Rattle.solution_text.specs.declared.refusal.SolRefusal.TheVariants as sol_refusal
use Rattle.solution_text.specs.Answers.{ReadsSolution}

pub exact_reads : {X : Type 0} (r d : Result X SolRefusal) → r ≡ d → ReadsSolution r d
exact_reads (Ok x) d e = sym e
exact_reads (Err (sol_refusal.At line kind)) d e = sym e
exact_reads (Err sol_refusal.Memory) d e = tt
