-- The least of some lines.
use Rattle.std.specs.Prelude.{ℕ, Bool, true, false, List, [], ◌∷◌, Option, Some, None, nat_lt, if◌then◌else◌}
use Rattle.cfg_ast.specs.declared.refusal.Kind.{Kind}
use Rattle.cfg_ast.specs.declared.refusal.Fault.{Fault}

-- the lesser of two lines, if there are any
abbrev pub lesser_line : Option ℕ → Option ℕ → Option ℕ
lesser_line None line = line
lesser_line (Some x) None = Some x
lesser_line (Some x) (Some y) = if nat_lt y x then Some y else Some x

-- the least line of a list
abbrev pub least_line : List ℕ → Option ℕ
least_line [] = None
least_line (x ∷ xs) = lesser_line (Some x) (least_line xs)

-- a line that counts where there is a fault
abbrev pub fault_line_if : Bool → ℕ → Option ℕ
fault_line_if true line = Some line
fault_line_if false line = None

-- the fault of a kind at a line
abbrev pub fault_at : Kind → Option ℕ → Option Fault
fault_at what None = None
fault_at what (Some line) = Some (record { line = line; kind = what })
