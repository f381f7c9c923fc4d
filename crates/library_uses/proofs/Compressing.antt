-- What is printed of the network of the groups compresses the network.
use Rattle.std.proofs.Common.{◌≡◌, ℕ, false, List, None, Result, Ok, Err, IfOk, sym, subst, ◌∙◌}
use Rattle.std.specs.Prelude.{Contains}
use Rattle.cfg_ast.specs.declared.classes.DestClass.{DestClass}
use Rattle.cfg_ast.specs.declared.network.Network.{Network}
use Rattle.cfg_ast.specs.meaning.Classes.{classes_of}
use Rattle.cfg_ast.specs.printing.Printed.{printed}
use Rattle.cfg_ast.specs.text.Reading.{IsGiven}
use Rattle.cfg_check.specs.Faultless.{IsFaultless}
use Rattle.cfg_print.specs.Prints.{is_too_long}
use Rattle.compress_laws.specs.Built.{IsPlanOf}
use Rattle.compress_laws.specs.Compressed.{Compresses}
use Rattle.compress_laws.specs.Laws.{compressed_text, PlanCompresses}
use Rattle.config_emit.specs.Answers.{Emits}
use Rattle.config_emit.specs.Plan.{Plan}
use Rattle.config_emit.specs.Pool.{pool_line}
use Rattle.config_emit.specs.declared.emitted.EmitRefusal.{EmitRefusal}
use Rattle.config_emit.specs.declared.emitted.Emitted.{Emitted}

pub printed_compresses : PlanCompresses → (n : Network) (class : DestClass) → ∥ IsGiven n ∥₁ → IsFaultless n → Contains (classes_of n) class
    → (plan : Plan) → IsPlanOf n class plan → (answer : Result Emitted EmitRefusal) → Emits answer plan
    → IfOk answer (λ x. is_too_long (printed x.network x.notes) ≡ false → Compresses n class (printed x.network x.notes))
printed_compresses law n class given faultless has plan is (Ok x) emits = λ short.
    let text : compressed_text plan ≡ printed x.network x.notes = sym (λ j. printed (emits.network j) (emits.notes j)) in
    let apart : pool_line n class ≡ None = (λ j. pool_line (sym is.network_is j) (sym is.class_is j)) ∙ emits.apart in
    subst (Compresses n class) text
    (law n class plan given faultless has is apart (subst (λ (t : List ℕ). is_too_long t ≡ false) (sym text) short))
printed_compresses law n class given faultless has plan is (Err e) emits = tt
