-- Public: the text of a class's plan compresses the network.
use Rattle.std.proofs.Common.{◌≡◌, ℕ, ◌≤◌, Bool, true, false, ◌||◌, List, length, refl, subst, arith}
use Rattle.std.specs.Prelude.{nat_lt}
use Rattle.std.proofs.lemmas.Bool.Decides.{nat_tests}
use Rattle.cfg_ast.specs.declared.classes.DestClass.{DestClass}
use Rattle.cfg_ast.specs.declared.network.Network.{Network}
use Rattle.cfg_print.specs.Prints.{is_too_long, count_newlines}
use Rattle.compress_laws.specs.Compressed.{Compresses}
use Rattle.cfg_check.specs.Laws.{FaultlessIsAccepted}
use Rattle.cfg_round_trip.specs.Laws.{PrintedIsReadBack}
use Rattle.srp_build.specs.Built.{IsBuiltFor}
use Rattle.config_emit.specs.Laws.{EmittedCanBePrinted, EmittedStandsForGroups}
use Rattle.compress_laws.specs.Laws.{compressed_text, TextCompresses, FitsClass, BuiltFits, FittingPlanFits, FittingPlanCompresses, PlanFits, PlanCompresses, TextHasProblemOfGroups}
use Rattle.compress_laws.proofs.Compressing.{has_problem}
use Rattle.compress_laws.proofs.Plans.{plan_as}

second : (a b : Bool) → (a || b) ≡ false → b ≡ false
second true b e = absurd cc
second false b e = e

few : (bs : List ℕ) → is_too_long bs ≡ false → count_newlines bs ≤ 1000000
unfolding is_too_long
few bs e = let f = second (nat_lt 16777216 (length bs)) (nat_lt 1000000 (count_newlines bs)) e in grind (arith, nat_tests)

first : (a b : Bool) → (a || b) ≡ false → a ≡ false
first true b e = e
first false b e = refl

-- what is not too long is short enough for a text
pub short_text : (bs : List ℕ) → is_too_long bs ≡ false → length bs ≤ 16777216
unfolding is_too_long
short_text bs e = let f = first (nat_lt 16777216 (length bs)) (nat_lt 1000000 (count_newlines bs)) e in grind (arith, nat_tests)

pub fitting_plan_compresses : FittingPlanFits → TextCompresses → FittingPlanCompresses
fitting_plan_compresses fits compresses n class e given ok has is apart short =
    subst (λ (c : DestClass). Compresses n c (compressed_text e)) is.class_is
    (subst (λ (m : Network). Compresses m e.class (compressed_text e)) is.network_is
    (compresses e (fits n class e given ok has is apart) is.coarsest (few (compressed_text e) short) (short_text (compressed_text e) short)))

pub plan_compresses : BuiltFits → FittingPlanCompresses → PlanCompresses
plan_compresses built fitting n class e given ok has is apart short =
    fitting n class e given ok has (plan_as IsBuiltFor FitsClass n class (λ problem. built n class problem given ok has) e is) apart short

pub text_has_problem : PlanFits → EmittedCanBePrinted → EmittedStandsForGroups → PrintedIsReadBack → FaultlessIsAccepted → TextHasProblemOfGroups
text_has_problem fits printed stands back accepted n class e given ok has is apart short =
    has_problem printed stands back accepted e (fits n class e given ok has is apart) (few (compressed_text e) short)
