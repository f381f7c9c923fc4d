-- Public: a reply where more is allowed.
use Rattle.std.proofs.Common.{◌≡◌, ℕ, List, ◌++◌, sym, ap, ◌∙◌, subst, append_assoc, codes, Result, Ok, Err}
use Rattle.std.specs.Prelude.{IfOk, OnErr, String, string_bytes, decimal}
use Rattle.std.specs.declared.alloc.AllocError.{AllocError}
use Rattle.std.specs.declared.alloc.Global.{Global}
use Rattle.answer_kit.specs.declared.reply.Reply.{Reply}
use Rattle.answer_kit.specs.declared.reply.Reply.TheVariants.{Output, Refusal, NotStable, Misuse, ReadFailed, SecondFailed, NoMemory}
use Rattle.answer_kit.specs.Outcome.{Outcome, done, refused, not_stable}
use Rattle.answer_kit.specs.Replies.{Answers, Only, IsRefusalOf}

-- a reply that is allowed is so where more is allowed, with weaker causes
pub answers_as : (reply : Reply) (A B : Outcome → Type 0) (first first' second second' : Type 0) → ((o : Outcome) → A o → B o) → (first → first')
    → (second → second') → Answers reply A first second → Answers reply B first' second'
answers_as (Output bytes) A B first first' second second' more f s answers = more (done bytes.items) answers
answers_as (Refusal reason) A B first first' second second' more f s answers = more (refused reason.items) answers
answers_as (NotStable reason) A B first first' second second' more f s answers = more (not_stable reason.items) answers
answers_as Misuse A B first first' second second' more f s answers = answers
answers_as ReadFailed A B first first' second second' more f s answers = f answers
answers_as SecondFailed A B first first' second second' more f s answers = s answers
answers_as NoMemory A B first first' second second' more f s answers = tt

-- a reply that is one outcome alone, where that one is allowed
pub answers_only : (reply : Reply) (allowed : Outcome) (A : Outcome → Type 0) (first second : Type 0) → A allowed → Answers reply (Only allowed) ⊥ ⊥
    → Answers reply A first second
answers_only reply allowed A first second a answers = answers_as reply (Only allowed) A ⊥ first ⊥ second (λ o is. subst A (sym is) a) (λ e. absurd e)
    (λ e. absurd e) answers

-- a refusal for a reason that has these bytes
pub refused_for : (reply : Reply) (reason : Result (String Global) AllocError) (bytes : List ℕ) → IfOk reason (λ text. string_bytes text ≡ bytes)
    → IfOk reason (λ text. IsRefusalOf (string_bytes text) reply) → OnErr reason (reply ≡ NoMemory) → Answers reply (Only (refused bytes)) ⊥ ⊥
refused_for (Refusal why) (Ok text) bytes has told memory = ap refused (told ∙ has)
refused_for (Output out) (Ok text) bytes has told memory = absurd told
refused_for (NotStable why) (Ok text) bytes has told memory = absurd told
refused_for Misuse (Ok text) bytes has told memory = absurd told
refused_for ReadFailed (Ok text) bytes has told memory = absurd told
refused_for SecondFailed (Ok text) bytes has told memory = absurd told
refused_for NoMemory (Ok text) bytes has told memory = absurd told
refused_for reply (Err e) bytes has told memory = subst (λ r. Answers r (Only (refused bytes)) ⊥ ⊥) (sym memory) tt

-- a refusal for a line and the name of what is wrong there
pub refused_at : (reply : Reply) (reason : Result (String Global) AllocError) (before : List ℕ) (line : ℕ) (name kind : List ℕ) → name ≡ kind
    → IfOk reason (λ text. string_bytes text ≡ before ++ (decimal line ++ (codes ": " ++ name)))
    → IfOk reason (λ text. IsRefusalOf (string_bytes text) reply) → OnErr reason (reply ≡ NoMemory)
    → Answers reply (Only (refused (before ++ decimal line ++ codes ": " ++ kind))) ⊥ ⊥
refused_at reply reason before line name kind is has told memory =
    let same : before ++ (decimal line ++ (codes ": " ++ name)) ≡ before ++ decimal line ++ codes ": " ++ kind =
    sym (append_assoc (before ++ decimal line) (codes ": ") name ∙ append_assoc before (decimal line) (codes ": " ++ name)) ∙ ap
    (λ (n : List ℕ). before ++ decimal line ++ codes ": " ++ n) is in
    refused_for reply reason (before ++ decimal line ++ codes ": " ++ kind)
    (subst (λ (bytes : List ℕ). IfOk reason (λ text. string_bytes text ≡ bytes)) same has) told memory
