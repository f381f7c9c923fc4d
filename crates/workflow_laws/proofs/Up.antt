-- Asked below, carried up.
use Rattle.std.proofs.Common.{◌≡◌, ℕ, List, refl, ap, subst, Option, Some}
use Rattle.std.specs.Prelude.{Contains, IsSome}
use Rattle.cfg_ast.specs.declared.classes.DestClass.{DestClass}
use Rattle.cfg_ast.specs.declared.network.Network.{Network}
use Rattle.cfg_ast.specs.meaning.Classes.{classes_of}
use Rattle.srp_core.proofs.AlikeOf.{one_problem as problems_alike}
use Rattle.answer_kit.specs.ClassNumbers.{class_at, IsOfClass}
use Rattle.answer_kit.specs.Outcome.{Outcome}
use Rattle.answer_kit.proofs.OneClass.{some_prefix}
use Rattle.answer_solutions.specs.Carries.{IsLifted, IsLiftOf, IsLiftAnswer}
use Rattle.answer_solutions.specs.Checks.{IsCheckOf, IsCheckAnswer}
use Rattle.workflow_laws.specs.Commands as command
use Rattle.workflow_laws.specs.CarriedUp.{CheckBelowIsLift}
use Rattle.workflow_laws.specs.Setting.{verdict_told}
use Rattle.workflow_laws.specs.Words.{check, lift}
use Rattle.workflow_laws.proofs.Answers.{answer_of}
use Rattle.workflow_laws.proofs.Kept.{large_within, short_large, short_small, IsSmall, SmallLaws, small_network}
use Rattle.workflow_laws.proofs.Named.{names_check, names_lift}
use Rattle.workflow_laws.proofs.SomeClass.{has_class}
use Rattle.workflow_laws.proofs.Verdicts.{says_so}

-- the answer for the class of a number
pub check_of : (n : Network) (number : ℕ) (class : DestClass) (second : Option (List ℕ)) (o : Outcome) → class_at (classes_of n) number ≡ Some class
    → IsCheckAnswer n number second o → IsCheckOf n second class o
check_of n number class second o at is = subst (λ (found : Option DestClass). IsOfClass found number (IsCheckOf n second) o) at is

pub lift_of : (n : Network) (number : ℕ) (class : DestClass) (second : Option (List ℕ)) (o : Outcome) → class_at (classes_of n) number ≡ Some class
    → IsLiftAnswer n number second o → IsLiftOf n second class o
lift_of n number class second o at is = subst (λ (found : Option DestClass). IsOfClass found number (IsLiftOf n second) o) at is

-- `check` of the small network says what `lift` of the large one comes to
pub below_is_lift : (n m : Network) (class lower : DestClass) (bytes : List ℕ) → Contains (classes_of n) class → IsSmall n class bytes m
    → ((p : _) → Contains class.prefixes p → Contains lower.prefixes p)
    → (second : Option (List ℕ)) → IsSome second → (lifted checked : Outcome) → IsLiftOf n second class lifted → IsCheckOf m second lower checked
    → checked ≡ verdict_told lifted
below_is_lift n m class lower bytes has small prefixes second told lifted checked x y =
    let p = some_prefix n class has in
    let own = small.of_groups x.sides x.are p.0 p.1 in
    let alike = problems_alike m p.0 x.sides.small y.problem own (y.of_class p.0 (prefixes p.0 p.1)) in
    says_so x.sides.small (IsLifted x.sides) (λ labels o is. ap (λ (q : Outcome). q.status) is.written) y.problem alike x.are.small_rules second told lifted
    checked x.solution y.solution

pub check_below_is_lift : SmallLaws → CheckBelowIsLift
check_below_is_lift laws contents F G S N K c told lifted checked x y =
    let well = laws.well in
    let n = c.of_large.network in
    let m = c.of_small.network in
    let small = small_network laws contents F G N K c in
    let lifts = answer_of (lift F N S) contents (command.Lift N) refl (names_lift F S N (short_large well contents F G N K c)) c.large c.holds lifted n
    c.of_large.reads (large_within well contents F G N K c laws.fits) x in
    let checks = answer_of (check G K S) contents (command.Check K) refl (names_check G S K (short_small well contents F G N K c)) c.small c.kept checked m
    c.of_small.reads small.short y in
    below_is_lift n m c.of_large.class c.of_small.class c.small (has_class n N c.of_large.class c.of_large.class_is) small c.prefixes (contents S) told lifted
    checked
    (lift_of n N c.of_large.class (contents S) lifted c.of_large.class_is lifts) (check_of m K c.of_small.class (contents S) checked c.of_small.class_is checks)
