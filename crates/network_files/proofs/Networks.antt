-- Public: from what is found of a network to what is allowed of the file that holds it.
use Rattle.std.proofs.Common.{◌≡◌, ◌≤◌, ◌<◌, ℕ, List, length, inl, inr, ap, sym, subst, Option, Some, None, IfSome, Result, Ok, Err}
use Rattle.cfg_ast.specs.declared.network.Network.{Network}
use Rattle.cfg_ast.specs.declared.refusal.ReadRefusal.{ReadRefusal}
use Rattle.cfg_ast.specs.declared.refusal.ReadRefusal.TheVariants as read_refusal
use Rattle.cfg_ast.specs.text.Reading.{reading_of}
use Rattle.answer_kit.specs.Kinds.{line_reason}
use Rattle.answer_kit.specs.Networks.{text_limit, long_text, AllowsNoNetwork}
use Rattle.answer_kit.specs.Networks as network
use Rattle.answer_kit.specs.Outcome as outcome
use Rattle.answer_kit.specs.Replies.{Only}
use Rattle.endings.specs.declared.ending.Ending.TheVariants.{Refused}
use Rattle.endings.specs.Telling.{Telling, refused}
use Rattle.network_files.specs.NetworkFiles.{AllowsNothing, HoldsNetwork, IsOfFile, IsOfReading, IsOfText}

-- a refusal of a text by its line and kind is one here too
pub as_refused : (reading : Result Network ReadRefusal) (reason : List ℕ) → network.IsOfReading AllowsNoNetwork reading (outcome.refused reason)
    → IsOfReading AllowsNothing reading (refused reason)
as_refused (Ok n) reason is = is
as_refused (Err (read_refusal.At line kind)) reason is = ap (λ (o : outcome.Outcome). record { ending = Refused; out = o.out; err = o.err }) is
as_refused (Err read_refusal.Memory) reason is = is

-- and so is that of a text that is too long
pub as_long : (reason : List ℕ) → Only (outcome.refused long_text) (outcome.refused reason) → Only (refused long_text) (refused reason)
as_long reason is = ap (λ (o : outcome.Outcome). record { ending = Refused; out = o.out; err = o.err }) is

-- the file holds the network
pub of_network : (A : Network → Telling → Type 0) (n : Network) (file : Option (List ℕ)) (o : Telling) → IfSome file (HoldsNetwork n) → A n o →
    IsOfFile A file o
of_network A n None o holds is = tt
of_network A n (Some text) o holds is = inr (
  holds.short,
  subst (λ (r : Result Network ReadRefusal). IsOfReading A r o) (sym holds.reads) is,
)

of_reading : (A : Network → Telling → Type 0) (reading : Result Network ReadRefusal) (o : Telling) → IsOfReading AllowsNothing reading o
    → IsOfReading A reading o
of_reading A (Ok n) o is = absurd is
of_reading A (Err (read_refusal.At line kind)) o is = is
of_reading A (Err read_refusal.Memory) o is = absurd is

-- it holds none
pub of_none : (A : Network → Telling → Type 0) (file : Option (List ℕ)) (o : Telling) → IsOfFile AllowsNothing file o → IsOfFile A file o
of_none A None o is = tt
of_none A (Some text) o (inl long) = inl long
of_none A (Some text) o (inr short) = inr (short.0, of_reading A (reading_of text) o short.1)

-- what was read of the file gives none
pub of_unread : (text : List ℕ) (file : Option (List ℕ)) (o : Telling) → length text ≤ text_limit → IfSome file (λ held. text ≡ held)
    → IsOfReading AllowsNothing (reading_of text) o → IsOfFile AllowsNothing file o
of_unread text None o short same is = tt
of_unread text (Some held) o short same is = subst (λ (t : List ℕ). IsOfText AllowsNothing t o) same (inr (short, is))

-- the file is too long
pub of_long : (file : Option (List ℕ)) (o : Telling) → IfSome file (λ held. text_limit < length held) → Only (refused long_text) o
    → IsOfFile AllowsNothing file o
of_long None o long is = tt
of_long (Some held) o long is = inl (long, is)

-- what was read is what the file holds
pub held : (n : Network) (text : List ℕ) (file : Option (List ℕ)) → IfSome file (λ held. text ≡ held) → HoldsNetwork n text → IfSome file (HoldsNetwork n)
held n text None same holds = tt
held n text (Some t) same holds = subst (HoldsNetwork n) same holds
