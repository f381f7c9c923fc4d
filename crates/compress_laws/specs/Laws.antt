-- What is written of a plan is the compressed network.
use Rattle.std.specs.Prelude.{◌≡◌, ◌≤◌, ℕ, false, List, length, None, Ok, Contains}
use Rattle.std.specs.List.{AllByRecursion}
use Rattle.base_kit.specs.Prefixes.{Prefix}
use Rattle.cfg_print.specs.Prints.{is_too_long}
use Rattle.cfg_ast.specs.declared.classes.DestClass.{DestClass}
use Rattle.cfg_ast.specs.declared.network.Network.{Network}
use Rattle.cfg_ast.specs.meaning.Classes.{classes_of}
use Rattle.cfg_ast.specs.meaning.PolicyFaults.{communities_of}
use Rattle.cfg_ast.specs.text.Reading.{IsGiven, reading_of}
use Rattle.cfg_check.specs.Faultless.{IsFaultless}
use Rattle.config_emit.specs.Pool.{pool_line}
use Rattle.srp_build.specs.Built.{IsBuiltFor}
use Rattle.compress_laws.specs.Built.{IsPlanFor, IsPlanOf}
use Rattle.cfg_ast.specs.printing.Printed.{printed}
use Rattle.cfg_round_trip.specs.Laws.{HasFewLines}
use Rattle.srp_core.specs.Problem.{Problem}
use Rattle.srp_core.specs.ProblemOf.{IsProblemOf}
use Rattle.srp_core.specs.Quotient.{IsCoarsest}
use Rattle.config_emit.specs.Plan.{Plan, small}
use Rattle.config_emit.specs.Emitted.{emitted, notes_of}
use Rattle.srp_core.specs.ActMaps.{IsPrintableAct, IsActWithin}
use Rattle.config_emit.specs.Laws.{IsPlan}
use Rattle.compress_laws.specs.Compressed.{Compresses}

-- the text that is written of a plan
abbrev pub compressed_text : Plan → List ℕ
compressed_text e = printed (emitted e) (notes_of e)

-- It compresses the network, if the groups are the coarsest and it has at most 1,000,000 lines and
-- 16,777,216 bytes.
abbrev pub TextCompresses : Type 0
TextCompresses = (e : Plan) → IsPlan e → IsCoarsest e.problem e.groups → HasFewLines (emitted e) (notes_of e)
    → length (compressed_text e) ≤ 16777216 → Compresses e.network e.class (compressed_text e)

-- A problem by which a class can be written: that of every prefix of the class, with acts whose maps can be
-- printed and name only communities that the network names.
pub record FitsClass (network : Network) (class : DestClass) (problem : Problem) : Type 0 where
  pub of : (p : Prefix) → Contains class.prefixes p → IsProblemOf network p problem
  pub printable : AllByRecursion IsPrintableAct problem.acts
  pub within : AllByRecursion (IsActWithin (communities_of network)) problem.acts

-- Such is the problem that is built for a class of a network that may be used.
abbrev pub BuiltFits : Type 0
BuiltFits = (n : Network) (class : DestClass) (problem : Problem)
    → ∥ IsGiven n ∥₁ → IsFaultless n → Contains (classes_of n) class → IsBuiltFor n class problem → FitsClass n class problem

-- A plan with such a problem fits together, if no prefix of the class meets the addresses of the links.
abbrev pub FittingPlanFits : Type 0
FittingPlanFits = (n : Network) (class : DestClass) (e : Plan)
    → ∥ IsGiven n ∥₁ → IsFaultless n → Contains (classes_of n) class → IsPlanFor FitsClass n class e → pool_line n class ≡ None → IsPlan e

-- A text of it compresses the network.
abbrev pub FittingPlanCompresses : Type 0
FittingPlanCompresses = (n : Network) (class : DestClass) (e : Plan)
    → ∥ IsGiven n ∥₁ → IsFaultless n → Contains (classes_of n) class → IsPlanFor FitsClass n class e
    → pool_line n class ≡ None → is_too_long (compressed_text e) ≡ false → Compresses n class (compressed_text e)

-- A plan of a class of a network that may be used fits together, if no prefix of the class meets the
-- addresses of the links.
abbrev pub PlanFits : Type 0
PlanFits = (n : Network) (class : DestClass) (e : Plan) → ∥ IsGiven n ∥₁ → IsFaultless n → Contains (classes_of n) class
    → IsPlanOf n class e → pool_line n class ≡ None → IsPlan e

-- A text of the plan of a class of a network that may be used compresses that network.
abbrev pub PlanCompresses : Type 0
PlanCompresses = (n : Network) (class : DestClass) (e : Plan) → ∥ IsGiven n ∥₁ → IsFaultless n → Contains (classes_of n) class
    → IsPlanOf n class e → pool_line n class ≡ None → is_too_long (compressed_text e) ≡ false
    → Compresses n class (compressed_text e)

-- The text of a plan is read as a network that has, for each prefix of the class, the problem of the groups.
pub record HasProblemOfGroups (e : Plan) : Type 0 where
  pub read : Network
  pub reads : reading_of (compressed_text e) ≡ Ok read
  pub problem : (p : Prefix) → Contains e.class.prefixes p → IsProblemOf read p (small e)

-- So is the text of a plan of a class of a network that may be used.
abbrev pub TextHasProblemOfGroups : Type 0
TextHasProblemOfGroups = (n : Network) (class : DestClass) (e : Plan) → ∥ IsGiven n ∥₁ → IsFaultless n
    → Contains (classes_of n) class → IsPlanOf n class e → pool_line n class ≡ None → is_too_long (compressed_text e) ≡ false
    → HasProblemOfGroups e
