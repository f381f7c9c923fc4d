-- Public: from the answer to a network to the answer to the text that gives it.
use Rattle.std.proofs.Common.{◌≡◌, ◌<◌, ◌≤◌, inl, inr, ℕ, List, length, refl, sym, subst, Result, Ok, Err}
use Rattle.cfg_ast.specs.declared.network.Network.{Network}
use Rattle.cfg_ast.specs.declared.refusal.ReadRefusal.{ReadRefusal}
use Rattle.cfg_ast.specs.declared.refusal.ReadRefusal.TheVariants as read_refusal
use Rattle.cfg_ast.specs.meaning.Meaning.{judged}
use Rattle.cfg_ast.specs.text.Answers.{RefusesAs}
use Rattle.cfg_ast.specs.text.Reading.{network_of_text, reading_of}
use Rattle.answer_kit.specs.declared.reply.Reply.{Reply}
use Rattle.answer_kit.specs.Networks.{text_limit, long_text, IsOfReading, IsOfNetworkIn, AllowsNoNetwork, Refuses}
use Rattle.answer_kit.specs.Outcome.{Outcome, refused}
use Rattle.answer_kit.specs.Replies.{Answers, Only}
use Rattle.answer_kit.proofs.Replies.{answers_as, answers_only}

-- ---- the reading of a text, by what each of its two steps answers

pub reading_judged : (text : List ℕ) (network : Network) (answer : Result Network ReadRefusal) → network_of_text text ≡ Ok network → judged network ≡ answer
    → reading_of text ≡ answer
unfolding reading_of
reading_judged text network answer given is = rw given is

pub reading_refused : (text : List ℕ) (refusal : ReadRefusal) → network_of_text text ≡ Err refusal → reading_of text ≡ Err refusal
unfolding reading_of
reading_refused text refusal given = rw given refl

-- where one step of the reading refuses, the reading does
pub answers_refused : (reply : Reply) (text : List ℕ) (e : ReadRefusal) (step : Result Network ReadRefusal) → (step ≡ Err e → reading_of text ≡ Err e)
    → RefusesAs e step → Refuses reply e
    → Answers reply (IsOfReading AllowsNoNetwork (reading_of text)) ⊥ ⊥
answers_refused reply text (read_refusal.At line kind) step reads refused answers =
    answers_as reply _ _ ⊥ ⊥ ⊥ ⊥ (λ o is. subst (λ (r : Result Network ReadRefusal). IsOfReading AllowsNoNetwork r o) (sym (reads refused)) is) (λ e. e)
    (λ e. e) answers
answers_refused reply text read_refusal.Memory step reads refused answers =
    subst (λ (r : Reply). Answers r (IsOfReading AllowsNoNetwork (reading_of text)) ⊥ ⊥) (sym answers) tt

-- ---- any answer

-- the text gives the network
pub answers_read : (reply : Reply) (reading : Result Network ReadRefusal) (n : Network) (A : Network → Outcome → Type 0) (first second : Type 0)
    → reading ≡ Ok n
    → Answers reply (A n) first second → Answers reply (IsOfReading A reading) first second
answers_read reply reading n A first second is answers =
    subst (λ (r : Result Network ReadRefusal). Answers reply (IsOfReading A r) first second) (sym is) answers

none_of : (reading : Result Network ReadRefusal) (A : Network → Outcome → Type 0) (o : Outcome) → IsOfReading AllowsNoNetwork reading o
    → IsOfReading A reading o
none_of (Ok n) A o is = absurd is
none_of (Err (read_refusal.At line kind)) A o is = is
none_of (Err read_refusal.Memory) A o is = absurd is

-- the text gives none
pub answers_not_read : (reply : Reply) (reading : Result Network ReadRefusal) (A : Network → Outcome → Type 0) (first second : Type 0)
    → Answers reply (IsOfReading AllowsNoNetwork reading) ⊥ ⊥ → Answers reply (IsOfReading A reading) first second
answers_not_read reply reading A first second answers =
    answers_as reply (IsOfReading AllowsNoNetwork reading) (IsOfReading A reading) ⊥ first ⊥ second (none_of reading A) (λ e. absurd e) (λ e. absurd e) answers

-- ---- a text that may be too long

-- it is short
pub answers_short : (reply : Reply) (text : List ℕ) (A : Network → Outcome → Type 0) (first second : Type 0) → length text ≤ text_limit
    → Answers reply (IsOfReading A (reading_of text)) first second → Answers reply (IsOfNetworkIn A text) first second
answers_short reply text A first second short answers =
    answers_as reply (IsOfReading A (reading_of text)) (IsOfNetworkIn A text) first first second second (λ o is. inr (short, is)) (λ f. f) (λ s. s) answers

-- it is too long
pub answers_long : (reply : Reply) (text : List ℕ) (A : Network → Outcome → Type 0) (first second : Type 0) → text_limit < length text
    → Answers reply (Only (refused long_text)) ⊥ ⊥ → Answers reply (IsOfNetworkIn A text) first second
answers_long reply text A first second long answers = answers_only reply (refused long_text) (IsOfNetworkIn A text) first second (inl (long, refl)) answers
