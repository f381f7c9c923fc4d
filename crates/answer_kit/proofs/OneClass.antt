-- Public: what is determined by a network and the number of a class.
use Rattle.std.proofs.Common.{◌≡◌, ◌-◌, ℕ, Bool, true, false, List, refl, sym, ◌∙◌, subst, Option, Some, None, slice_get, nat_eq, if◌then◌else◌}
use Rattle.std.specs.Prelude.{Contains, filter}
use Rattle.base_kit.specs.Prefixes.{Prefix}
use Rattle.base_kit.specs.Partition.{IsNumbered, Refines}
use Rattle.base_kit.proofs.Elements.{In, contains_in, get_in, in_contains, in_filter, filter_in, map_in}
use Rattle.cfg_ast.specs.declared.network.Network.{Network}
use Rattle.cfg_ast.specs.declared.classes.DestClass.{DestClass}
use Rattle.cfg_ast.specs.meaning.Classes.{classes_of, class_of, originated, is_least, is_same_class}
use Rattle.cfg_ast.proofs.ClassFacts.{is_one_class}
use Rattle.srp_core.specs.Alike.{ProblemsAlike}
use Rattle.srp_core.specs.Problem.{Problem}
use Rattle.srp_core.specs.Quotient.{IsCoarsest}
use Rattle.srp_core.proofs.Alike.{same_coarsest}
use Rattle.answer_kit.specs.ClassNumbers.{class_at, IsOfClass}
use Rattle.answer_kit.specs.Outcome.{Outcome}
use Rattle.answer_kit.proofs.NumberedOnce.{one_numbering}

-- a class has a prefix: its least one
pub some_prefix : (n : Network) (class : DestClass) → Contains (classes_of n) class → (p : Prefix) × Contains class.prefixes p
unfolding classes_of
some_prefix n class c =
    let m = map_in (class_of n) (filter (is_least n) (originated n)) class (in_contains _ class c) in
    let p = m.0 in
    let inside : In (originated n) p = (filter_in (is_least n) (originated n) p m.1).0 in
    let own : Contains (class_of n p).prefixes p = contains_in _ p
    (in_filter (is_same_class n p) (originated n) p inside (is_one_class n p p (record { origins = refl; answers = refl }))) in
    (p, subst (λ (k : DestClass). Contains k.prefixes p) m.2 own)

-- the class of a number is one of the network
pub found_in : (classes : List DestClass) (k : ℕ) (class : DestClass) (b : Bool) → (if b then None else slice_get classes k) ≡ Some class
    → Contains classes class
found_in classes k class true found = cc
found_in classes k class false found = contains_in classes class (get_in classes k class found)

-- of each class of the network one outcome is allowed
abbrev pub IsOneOfEach : Network → (DestClass → Outcome → Type 0) → Type 0
IsOneOfEach n IsAllowed = (class : DestClass) → Contains (classes_of n) class → (o p : Outcome) → IsAllowed class o → IsAllowed class p → o ≡ p

pub one_of_class : (n : Network) (IsAllowed : DestClass → Outcome → Type 0) → IsOneOfEach n IsAllowed → (number : ℕ) (class : Option DestClass)
    → class_at (classes_of n) number ≡ class
    → (o p : Outcome) → IsOfClass class number IsAllowed o → IsOfClass class number IsAllowed p → o ≡ p
one_of_class n IsAllowed one number None found o p x y = x ∙ sym y
one_of_class n IsAllowed one number (Some class) found o p x y = one class (found_in (classes_of n) (number - 1) class (nat_eq number 0) found) o p x y

-- problems that are alike have the same groups
module _ (P Q : Problem) (same : ProblemsAlike P Q) where
  pub one_list_of_groups : (gs hs : List ℕ) (m k : ℕ) → IsCoarsest P gs → IsCoarsest Q hs → IsNumbered gs m → IsNumbered hs k → gs ≡ hs
  one_list_of_groups gs hs m k c d x y =
      let e = same_coarsest P Q same gs c in
      let total = e.admissible.total in
      let other = d.admissible.total in
      one_numbering gs hs m k (total ∙ sym other) x y
      (subst (λ (l : ℕ). Refines l gs hs) (sym total) (d.refined gs e.admissible))
      (subst (λ (l : ℕ). Refines l hs gs) (sym other) (e.refined hs d.admissible))
