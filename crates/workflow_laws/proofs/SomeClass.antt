-- The class of what is done.
use Rattle.std.proofs.Common.{◌≡◌, ℕ, ◌-◌, List, Option, Some, None}
use Rattle.std.specs.Prelude.{Contains, nat_eq}
use Rattle.cfg_ast.specs.declared.classes.DestClass.{DestClass}
use Rattle.cfg_ast.specs.declared.network.Network.{Network}
use Rattle.cfg_ast.specs.meaning.Classes.{classes_of}
use Rattle.answer_kit.specs.ClassNumbers.{class_at, no_class, IsOfClass}
use Rattle.answer_kit.specs.Outcome.{Outcome, done}
use Rattle.answer_kit.proofs.OneClass.{found_in}
use Rattle.carried_laws.proofs.Carried.{not_refused}

-- the class of a number is one of the network's
pub has_class : (n : Network) (number : ℕ) (class : DestClass) → class_at (classes_of n) number ≡ Some class → Contains (classes_of n) class
has_class n number class at = found_in (classes_of n) (number - 1) class (nat_eq number 0) at

pub record IsOfSome (n : Network) (number : ℕ) (IsAllowed : DestClass → Outcome → Type 0) (written : List ℕ) : Type 0 where
  pub class : DestClass
  pub class_is : class_at (classes_of n) number ≡ Some class
  pub allowed : IsAllowed class (done written)

pub some_class : (n : Network) (number : ℕ) (A : DestClass → Outcome → Type 0) (written : List ℕ) (found : Option DestClass)
    → class_at (classes_of n) number ≡ found → IsOfClass found number A (done written) → IsOfSome n number A written
some_class n number A written None at is = absurd (not_refused written (no_class number) is)
some_class n number A written (Some class) at is = record { class = class; class_is = at; allowed = is }
