-- The answer of a call that may run out of memory, compared with its definition.
use Rattle.std.specs.Prelude.{◌≡◌, Result, Ok, Err}
use Rattle.cfg_ast.specs.declared.refusal.ReadRefusal.{ReadRefusal}
use Rattle.cfg_ast.specs.declared.refusal.ReadRefusal.TheVariants as read_refusal
use Rattle.cfg_ast.specs.declared.refusal.FormFault.{FormFault}
use Rattle.cfg_ast.specs.declared.refusal.FormFault.TheVariants as form_fault

-- the refusal is the one that the definition gives, or memory ran out
abbrev pub RefusesAs : {X : Type 0} → ReadRefusal → Result X ReadRefusal → Type 0
RefusesAs read_refusal.Memory defined = Unit {0}
RefusesAs (read_refusal.At line kind) defined = defined ≡ Err (read_refusal.At line kind)

-- the answer is that of the definition, or memory ran out
abbrev pub Gives : {X : Type 0} → Result X ReadRefusal → Result X ReadRefusal → Type 0
Gives (Ok x) defined = defined ≡ Ok x
Gives (Err e) defined = RefusesAs e defined

-- the fault of a line is the one that the definition gives, or memory ran out
abbrev pub FailsAs : {X : Type 0} → FormFault → Result X FormFault → Type 0
FailsAs form_fault.Memory defined = Unit {0}
FailsAs form_fault.UnknownLine defined = defined ≡ Err form_fault.UnknownLine
FailsAs form_fault.Unsupported defined = defined ≡ Err form_fault.Unsupported
FailsAs form_fault.BadForm defined = defined ≡ Err form_fault.BadForm
FailsAs form_fault.WellKnown defined = defined ≡ Err form_fault.WellKnown

-- the item of a line is that of the definition, or memory ran out
abbrev pub Reads : {X : Type 0} → Result X FormFault → Result X FormFault → Type 0
Reads (Ok x) defined = defined ≡ Ok x
Reads (Err e) defined = FailsAs e defined
