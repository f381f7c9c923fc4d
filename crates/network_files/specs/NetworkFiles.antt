-- What is allowed of the network that a file holds, or its refusal.
use Rattle.std.specs.Prelude.{◌≡◌, ◌≤◌, ◌<◌, ◌⊎◌, ℕ, List, length, Option, IfSome, Result, Ok, Err}
use Rattle.cfg_ast.specs.declared.network.Network.{Network}
use Rattle.cfg_ast.specs.declared.refusal.ReadRefusal.{ReadRefusal}
use Rattle.cfg_ast.specs.declared.refusal.ReadRefusal.TheVariants as read_refusal
use Rattle.cfg_ast.specs.text.Reading.{reading_of}
use Rattle.answer_kit.specs.Kinds.{line_reason}
use Rattle.answer_kit.specs.Networks.{text_limit, long_text}
use Rattle.endings.specs.Telling.{Telling, refused}

-- what is allowed of a network, or the line and kind that refuse its text
abbrev pub IsOfReading : (Network → Telling → Type 0) → Result Network ReadRefusal → Telling → Type 0
IsOfReading IsAllowed (Ok network) o = IsAllowed network o
IsOfReading IsAllowed (Err (read_refusal.At line kind)) o = o ≡ refused (line_reason line kind)
IsOfReading IsAllowed (Err read_refusal.Memory) o = ⊥

-- what is allowed of the network that a text gives, or its refusal
abbrev pub IsOfText : (Network → Telling → Type 0) → List ℕ → Telling → Type 0
IsOfText IsAllowed text o = ((text_limit < length text) × (o ≡ refused long_text)) ⊎ ((length text ≤ text_limit) × IsOfReading IsAllowed (reading_of text) o)

-- The same of what a file holds. Where it is not known, anything is allowed.
abbrev pub IsOfFile : (Network → Telling → Type 0) → Option (List ℕ) → Telling → Type 0
IsOfFile IsAllowed file o = IfSome file (λ text. IsOfText IsAllowed text o)

-- no network is allowed
abbrev pub AllowsNothing : Network → Telling → Type 0
AllowsNothing network o = ⊥

-- the text is not too long, and gives this network
pub record HoldsNetwork (network : Network) (text : List ℕ) : Type 0 where
  pub short : length text ≤ text_limit
  pub reads : reading_of text ≡ Ok network
