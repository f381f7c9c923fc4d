-- The names of classes after one more was put.
use Rattle.std.proofs.Common.{◌≡◌, ◌≢◌, ℕ, Bool, nat_eq, List, [], ◌∷◌, ◌++◌, Some, None, refl, sym, ◌∙◌, ap}
use Rattle.std.specs.Prelude.{Option, if◌then◌else◌}
use Rattle.refine_partition.specs.ClassNames.{named_among}
use Rattle.refine_partition.proofs.MemberLemmas.{same_test, other_test}

among_push : {V : Type 0} (class other : ℕ) (name : V) (pairs : List (ℕ × V)) (found : Option V) →
    named_among other (pairs ++ (class, name) ∷ []) found ≡ (if nat_eq class other then Some name else named_among other pairs found)
among_push class other name [] found = refl
among_push class other name (pair ∷ pairs) found = among_push class other name pairs (if nat_eq pair.0 other then Some pair.1 else found)

pub among_named : {V : Type 0} (class : ℕ) (name : V) (pairs new : List (ℕ × V)) → new ≡ pairs ++ (class, name) ∷ [] →
    named_among class new None ≡ Some name
among_named class name pairs new is =
    ap (λ ps. named_among class ps None) is ∙ among_push class class name pairs None
    ∙ ap (λ (b : Bool). if b then Some name else named_among class pairs None) (same_test class class refl)

pub among_others : {V : Type 0} (class : ℕ) (name : V) (pairs new : List (ℕ × V)) → new ≡ pairs ++ (class, name) ∷ [] → (other : ℕ) → other ≢ class →
    named_among other new None ≡ named_among other pairs None
among_others class name pairs new is other ne =
    ap (λ ps. named_among other ps None) is ∙ among_push class other name pairs None
    ∙ ap (λ (b : Bool). if b then Some name else named_among other pairs None) (other_test class other (λ e. ne (sym e)))
