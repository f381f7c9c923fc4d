-- An answer that is exactly what its definition gives.
use Rattle.std.proofs.Common.{◌≡◌, Result, Ok, Err, sym}
use Rattle.cfg_ast.specs.declared.refusal.FormFault.{FormFault}
use Rattle.cfg_ast.specs.declared.refusal.FormFault.TheVariants as form_fault
use Rattle.cfg_ast.specs.text.Answers.{Reads}

pub exact_reads : {X : Type 0} (r d : Result X FormFault) → r ≡ d → Reads r d
exact_reads (Ok x) d e = sym e
exact_reads (Err form_fault.UnknownLine) d e = sym e
exact_reads (Err form_fault.Unsupported) d e = sym e
exact_reads (Err form_fault.BadForm) d e = sym e
exact_reads (Err form_fault.WellKnown) d e = sym e
exact_reads (Err form_fault.Memory) d e = tt
