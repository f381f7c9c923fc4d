-- Lines read one by one: what the rest of a text makes of what stands so far.
use Rattle.std.specs.Prelude.{ℕ, List, [], ◌∷◌, Option, Some, None, Result, Ok, Err}
use Rattle.cfg_ast.specs.declared.line.Line.{Line}
use Rattle.cfg_ast.specs.declared.refusal.Kind.TheVariants as kind
use Rattle.cfg_ast.specs.declared.refusal.ReadRefusal.{ReadRefusal}
use Rattle.cfg_ast.specs.declared.refusal.ReadRefusal.TheVariants as refusal
use Rattle.cfg_ast.specs.text.TextLines.{TextLine}
use Rattle.cfg_ast.specs.text.Steps.{◌>>=◌}
use Rattle.cfg_ast.specs.text.Reading.{State, steps, end_at, texts_of}

-- the fault of a last line that is not the end, by its number
abbrev pub answer_of : Option ℕ → Result (Unit {0}) ReadRefusal
answer_of None = Ok tt
answer_of (Some n) = Err (refusal.At n kind.NoEnd)

-- what the last line says of the end, or those before it where there is none
unfoldable pub ended_by : Result (Unit {0}) ReadRefusal → List TextLine → Result (Unit {0}) ReadRefusal
ended_by said [] = said
ended_by said (l ∷ ls) = ended_by (end_at (Some l)) ls

-- the state after the lines, if the last of them is the end
abbrev pub read_on : State → Result (Unit {0}) ReadRefusal → List TextLine → Result State ReadRefusal
read_on s said ls = steps s ls >>= (λ (t : State). ended_by said ls >>= (λ _. Ok t))

abbrev pub state_after : List ℕ → State → Result (Unit {0}) ReadRefusal → Result (List Line) ReadRefusal → Result State ReadRefusal
state_after bs s said lines = lines >>= (λ (ls : List Line). read_on s said (texts_of bs ls))
