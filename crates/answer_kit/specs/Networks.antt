-- What is allowed of the network of a text, or its refusal.
use Rattle.std.specs.Prelude.{◌≡◌, ℕ, List, codes, Result, Ok, Err}
use Rattle.cfg_ast.specs.declared.network.Network.{Network}
use Rattle.cfg_ast.specs.declared.refusal.ReadRefusal.{ReadRefusal}
use Rattle.cfg_ast.specs.declared.refusal.ReadRefusal.TheVariants as read_refusal
use Rattle.cfg_ast.specs.text.Reading.{reading_of}
use Rattle.answer_kit.specs.declared.reply.Reply.{Reply}
use Rattle.answer_kit.specs.declared.reply.Reply.TheVariants.{NoMemory}
use Rattle.answer_kit.specs.Kinds.{line_reason}
use Rattle.answer_kit.specs.Outcome.{Outcome, refused}
use Rattle.answer_kit.specs.Replies.{Answers, Only}
use Rattle.answer_kit.specs.SecondFiles.{IsOfText}

-- a text has at most this many bytes
abbrev pub text_limit : ℕ
text_limit = 16777216

abbrev pub long_text : List ℕ
long_text = codes "FileTooLong"

-- what is allowed of a network, or the line and kind that refuse its text
abbrev pub IsOfReading : (Network → Outcome → Type 0) → Result Network ReadRefusal → Outcome → Type 0
IsOfReading IsAllowed (Ok network) o = IsAllowed network o
IsOfReading IsAllowed (Err (read_refusal.At line kind)) o = o ≡ refused (line_reason line kind)
IsOfReading IsAllowed (Err read_refusal.Memory) o = ⊥

-- what is allowed of the network that a text gives
abbrev pub IsOfNetworkIn : (Network → Outcome → Type 0) → List ℕ → Outcome → Type 0
IsOfNetworkIn IsAllowed text o = IsOfText text_limit long_text (λ t p. IsOfReading IsAllowed (reading_of t) p) text o

-- no network is allowed
abbrev pub AllowsNoNetwork : Network → Outcome → Type 0
AllowsNoNetwork network o = ⊥

-- A refusal of the text is answered by its line and kind, and a lack of memory as such.
abbrev pub Refuses : Reply → ReadRefusal → Type 0
Refuses reply (read_refusal.At line kind) = Answers reply (Only (refused (line_reason line kind))) ⊥ ⊥
Refuses reply read_refusal.Memory = reply ≡ NoMemory
