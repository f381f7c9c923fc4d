-- What a call that changes a value in place leaves, compared with its definition.
use Rattle.std.specs.Prelude.{◌≡◌, ⊤, Result, Ok, Err}
use Rattle.cfg_ast.specs.declared.refusal.ReadRefusal.{ReadRefusal}
use Rattle.cfg_ast.specs.declared.refusal.ReadRefusal.TheVariants as refusal
use Rattle.cfg_ast.specs.text.Answers.{RefusesAs}

-- where the call succeeds, the new value is what the definition makes of the old one; else the refusal is
-- the definition's
abbrev pub Sets : {X Y : Type 0} → Result Y ReadRefusal → X → Result X ReadRefusal → Type 0
Sets (Ok _) now defined = defined ≡ Ok now
Sets (Err fault) now defined = defined ≡ Err fault

-- as `Sets`, but memory may run out
abbrev pub Changes : {X Y : Type 0} → Result Y ReadRefusal → X → Result X ReadRefusal → Type 0
Changes (Ok _) now defined = defined ≡ Ok now
Changes (Err fault) now defined = RefusesAs fault defined

-- a refused line changes nothing, and a call that runs out of memory leaves what is said
abbrev pub Keeps : {X Y : Type 0} → Result Y ReadRefusal → X → X → Type 0 → Type 0
Keeps (Ok _) old now left = ⊤
Keeps (Err (refusal.At _ _)) old now left = now ≡ old
Keeps (Err refusal.Memory) old now left = left
