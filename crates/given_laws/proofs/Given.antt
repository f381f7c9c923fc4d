-- What holds of the value that a part of a form or of a step gives, if it gives one.
use Rattle.std.proofs.Common.{◌≡◌, ℕ, Bool, true, false, Option, Some, None, Result, Ok, Err, refl}
use Rattle.std.specs.Prelude.{IfSome, IfOk, if◌then◌else◌}
use Rattle.std.specs.Option.{option_and_then, option_map}
use Rattle.cfg_ast.specs.declared.refusal.FormFault.{FormFault}
use Rattle.cfg_ast.specs.declared.refusal.ReadRefusal.{ReadRefusal}
use Rattle.cfg_ast.specs.text.FormSteps.{or_bad, bad_unless}
use Rattle.cfg_ast.specs.text.Steps.{◌>>=◌}
use Rattle.cfg_ast.specs.text.Stanzas.{said_at, once}

-- ---- words

-- what stands behind a test
pub tested : {A : Type 0} (P : A → Type 0) (b : Bool) (x : A) → (b ≡ true → P x) → IfSome (if b then Some x else None) P
tested P true x rest = rest refl
tested P false x rest = tt

-- one word after the other
pub and_after : {A B : Type 0} (Q : A → Type 0) (P : B → Type 0) (o : Option A) (f : A → Option B) → IfSome o Q → ((x : A) → Q x → IfSome (f x) P) →
    IfSome (option_and_then f o) P
and_after Q P (Some x) f is rest = rest x is
and_after Q P None f is rest = tt

-- any value will do
abbrev pub IsAny : {A : Type 0} → A → Type 0
IsAny x = Unit {0}

pub anything : {A : Type 0} (o : Option A) → IfSome o (IsAny {A = A})
anything (Some x) = tt
anything None = tt

pub any_result : {A E : Type 0} (r : Result A E) → IfOk r (IsAny {A = A})
any_result (Ok x) = tt
any_result (Err fault) = tt

-- ---- forms

-- one part of a form after the other
pub after : {A B : Type 0} (Q : A → Type 0) (P : B → Type 0) (r : Result A FormFault) (f : A → Result B FormFault) → IfOk r Q → ((x : A) → Q x → IfOk (f x) P) →
    IfOk (r >>= f) P
after Q P (Ok x) f is rest = rest x is
after Q P (Err fault) f is rest = tt

-- a word that must give something, and the parts after it
pub given : {A B : Type 0} (Q : A → Type 0) (P : B → Type 0) (o : Option A) (f : A → Result B FormFault) → IfSome o Q → ((x : A) → Q x → IfOk (f x) P) →
    IfOk (or_bad o >>= f) P
given Q P (Some x) f is rest = rest x is
given Q P None f is rest = tt

-- a word that must give something, and what is made of it
pub mapped : {A B : Type 0} (Q : A → Type 0) (P : B → Type 0) (o : Option A) (f : A → B) → IfSome o Q → ((x : A) → Q x → P (f x)) →
    IfOk (or_bad (option_map f o)) P
mapped Q P (Some x) f is rest = rest x is
mapped Q P None f is rest = tt

-- a form that must fit
pub fits : {A : Type 0} (P : A → Type 0) (b : Bool) (r : Result A FormFault) → (b ≡ true → IfOk r P) → IfOk (bad_unless b r) P
fits P true r rest = rest refl
fits P false r rest = tt

-- one of two forms
pub either : {A E : Type 0} (P : A → Type 0) (b : Bool) (r s : Result A E) → (b ≡ true → IfOk r P) → (b ≡ false → IfOk s P) → IfOk (if b then r else s) P
either P true r s first second = first refl
either P false r s first second = second refl

-- ---- steps

pub then_step : {A B : Type 0} (Q : A → Type 0) (P : B → Type 0) (r : Result A ReadRefusal) (f : A → Result B ReadRefusal) → IfOk r Q →
    ((x : A) → Q x → IfOk (f x) P) → IfOk (r >>= f) P
then_step Q P (Ok x) f is rest = rest x is
then_step Q P (Err fault) f is rest = tt

-- what a line says, and what is made of it
pub then_said : {A B : Type 0} (Q : A → Type 0) (P : B → Type 0) (n : ℕ) (r : Result A FormFault) (f : A → Result B ReadRefusal) → IfOk r Q →
    ((x : A) → Q x → IfOk (f x) P) → IfOk (said_at n r >>= f) P
then_said Q P n (Ok x) f is rest = rest x is
then_said Q P n (Err fault) f is rest = tt

-- what may stand once
pub stands_once : {A : Type 0} (P : A → Type 0) (n : ℕ) (b : Bool) (x : A) → (b ≡ false → P x) → IfOk (once n b x) P
stands_once P n true x rest = tt
stands_once P n false x rest = rest refl
