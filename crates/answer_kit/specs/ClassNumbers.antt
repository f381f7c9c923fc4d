-- The class that a number names, and what is to be written if there is none.
use Rattle.std.specs.Prelude.{◌≡◌, ◌-◌, ℕ, List, ◌++◌, codes, decimal, Option, Some, None, slice_get, nat_eq, if◌then◌else◌}
use Rattle.cfg_ast.specs.declared.classes.DestClass.{DestClass}
use Rattle.answer_kit.specs.Outcome.{Outcome, refused}

-- the class of this number, counted from 1
abbrev pub class_at : List DestClass → ℕ → Option DestClass
class_at classes number = if nat_eq number 0 then None else slice_get classes (number - 1)

-- the reason of a refusal where no class has this number
abbrev pub no_class : ℕ → List ℕ
no_class number = codes "NoClass " ++ decimal number

-- what is allowed of the class of this number, or its refusal where there is none
abbrev pub IsOfClass : Option DestClass → ℕ → (DestClass → Outcome → Type 0) → Outcome → Type 0
IsOfClass None number IsAllowed o = o ≡ refused (no_class number)
IsOfClass (Some class) number IsAllowed o = IsAllowed class o

-- no class is allowed
abbrev pub AllowsNoClass : DestClass → Outcome → Type 0
AllowsNoClass class o = ⊥
