-- The answer of a call that may run out of memory, compared with its definition.
use Rattle.std.specs.Prelude.{◌≡◌, ℕ, Result, Ok, Err}
use Rattle.cut_certificate.specs.declared.refusal.CutKind.{CutKind}
use Rattle.cut_certificate.specs.declared.refusal.CutRefusal.{CutRefusal}
use Rattle.cut_certificate.specs.declared.refusal.CutRefusal.TheVariants as refusal
use Rattle.cut_certificate.specs.declared.refusal.Stop.{Stop}
use Rattle.cut_certificate.specs.declared.refusal.Stop.TheVariants as stop

-- the answer is that of the definition, or memory ran out
abbrev pub Verifies : {X : Type 0} → Result X CutRefusal → Result X CutRefusal → Type 0
Verifies (Ok x) defined = defined ≡ Ok x
Verifies (Err refusal.Memory) defined = Unit {0}
Verifies (Err (refusal.At line why)) defined = defined ≡ Err (refusal.At line why)

-- the same of a step, which knows no lines
abbrev pub Steps : {X : Type 0} → Result X Stop → Result X CutKind → Type 0
Steps (Ok x) defined = defined ≡ Ok x
Steps (Err stop.Memory) defined = Unit {0}
Steps (Err (stop.Fault kind)) defined = defined ≡ Err kind

-- the refusal at a line where a step stops
abbrev pub refused_at : ℕ → Stop → CutRefusal
refused_at line (stop.Fault kind) = refusal.At line kind
refused_at line stop.Memory = refusal.Memory
