-- The answer of a call that may run out of memory, compared with its definition.
use Rattle.std.specs.Prelude.{◌≡◌, Result, Ok, Err}
use Rattle.solution_text.specs.declared.refusal.SolRefusal.{SolRefusal}
use Rattle.solution_text.specs.declared.refusal.SolRefusal.TheVariants as sol_refusal

-- the answer is that of the definition, or memory ran out
abbrev pub ReadsSolution : {X : Type 0} → Result X SolRefusal → Result X SolRefusal → Type 0
ReadsSolution (Ok x) defined = defined ≡ Ok x
ReadsSolution (Err sol_refusal.Memory) defined = Unit {0}
ReadsSolution (Err (sol_refusal.At line kind)) defined = defined ≡ Err (sol_refusal.At line kind)
