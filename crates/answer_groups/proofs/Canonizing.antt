-- From what `canon_srp` answers to what `canon` is to write.
use Rattle.std.proofs.Common.{◌≡◌, ℕ, List, [], ◌∷◌, ◌++◌, length, Option, Some, Ok, Err, inl, inr, refl, sym, ap, ◌∙◌, subst, append_assoc, codes}
use Rattle.std.specs.Prelude.{Contains, slice_index_or, IfOk, String, string_bytes}
use Rattle.std.specs.declared.alloc.AllocError.{AllocError}
use Rattle.std.specs.declared.alloc.Global.{Global}
use Rattle.std.specs.List.{AllByRecursion}
use Rattle.base_kit.specs.declared.act_graph.Edge.{Edge}
use Rattle.base_kit.specs.Prefixes.{Prefix}
use Rattle.cfg_ast.specs.declared.network.Network.{Network}
use Rattle.cfg_ast.specs.declared.classes.DestClass.{DestClass}
use Rattle.cfg_ast.specs.meaning.PolicyFaults.{communities_of}
use Rattle.canon_policy.specs.CanonicalProblem.{IsCanonicalProblem, IsFirstWithout, IsCanonicalOr}
use Rattle.canon_policy.specs.declared.problem.CanonSrpRefusal.{CanonSrpRefusal}
use Rattle.canon_policy.specs.declared.problem.CanonSrpRefusal.TheVariants.{NoCanon}
use Rattle.compress_laws.specs.Laws.{FitsClass}
use Rattle.compress_laws.proofs.Alike.{problem_too}
use Rattle.config_emit.specs.Plan.{Plan}
use Rattle.config_emit.specs.Pool.{pool_line}
use Rattle.config_emit.specs.declared.emitted.EmitRefusal.{EmitRefusal}
use Rattle.config_emit.specs.declared.emitted.Emitted.{Emitted}
use Rattle.std.specs.Prelude.{Result}
use Rattle.driver.specs.Steps.{IsPlanWith, IsEmittedOf}
use Rattle.driver.proofs.Emitting.{emitted_as}
use Rattle.srp_build.specs.Built.{IsBuiltFor}
use Rattle.srp_core.specs.ActMaps.{IsPrintableAct, IsActWithin}
use Rattle.srp_core.specs.Alike.{ProblemsAlike}
use Rattle.srp_core.specs.Problem.{Problem, IsProblem}
use Rattle.answer_kit.specs.Outcome.{Outcome, refused}
use Rattle.answer_kit.specs.Replies.{Answers, Only}
use Rattle.answer_kit.specs.declared.reply.Reply.{Reply}
use Rattle.answer_kit.proofs.Replies.{answers_only}
use Rattle.answer_groups.specs.CanonText.{no_canon, IsCanonicalFor, IsCanonicalPlanOf, IsWithoutCanon, IsCanonOf}
use Rattle.answer_groups.specs.Compressing.{IsTextOrRefusal}
use Rattle.answer_groups.proofs.Compressing.{told_of}

-- ---- the canonical problem of a class

pub canonical_for : (n : Network) (class : DestClass) (universe : List ℕ) (original problem : Problem)
    → IsBuiltFor n class original → universe ≡ communities_of n → IsCanonicalProblem universe original problem → IsCanonicalFor n class problem
canonical_for n class universe original problem built named canonical = record {
  original = original;
  built = built;
  canonical = subst (λ (set : List ℕ). IsCanonicalProblem set original problem) named canonical;
}

pub fits_for : (n : Network) (class : DestClass) (universe : List ℕ) (original problem : Problem)
    → IsBuiltFor n class original → universe ≡ communities_of n → IsProblem problem → ProblemsAlike original problem
    → AllByRecursion IsPrintableAct problem.acts → AllByRecursion (IsActWithin universe) problem.acts → FitsClass n class problem
fits_for n class universe original problem built named rules alike printable within = record {
  of = λ p has. problem_too n p original problem (built.of p has) rules alike;
  printable = printable;
  within = subst (λ (set : List ℕ). AllByRecursion (IsActWithin set) problem.acts) named within;
}

-- ---- the edge that is reported

at_length : (before : List Edge) (e : Edge) (after : List Edge) (none : Edge) → slice_index_or (before ++ e ∷ after) (length before) none ≡ e
at_length [] e after none = refl
at_length (d ∷ before) e after none = at_length before e after none

pub first_at : (universe : List ℕ) (problem : Problem) (place : ℕ) (x : IsFirstWithout universe problem place) (edges : List Edge) → edges ≡ problem.edges
    → (none : Edge) → slice_index_or edges place none ≡ x.edge
first_at universe problem place x edges same none =
    ap (λ (es : List Edge). slice_index_or es place none) (same ∙ x.split)
    ∙ ap (λ (k : ℕ). slice_index_or (x.before ++ x.edge ∷ x.after) k none) (sym x.place_is)
    ∙ at_length x.before x.edge x.after none

pub first_of : (universe : List ℕ) (problem : Problem) (why : CanonSrpRefusal) (place : ℕ) → why ≡ NoCanon place → IsCanonicalOr universe problem (Err why)
    → IsFirstWithout universe problem place
first_of universe problem why place same is = subst (λ (r : CanonSrpRefusal). IsCanonicalOr universe problem (Err r)) same is

pub told_first : (n : Network) (class : DestClass) (problem : Problem) → IsBuiltFor n class problem → (place : ℕ)
    → (x : IsFirstWithout (communities_of n) problem place) (edge : Edge) → edge ≡ x.edge → (reply : Reply)
    → Answers reply (Only (refused (no_canon problem edge))) ⊥ ⊥ → Answers reply (IsWithoutCanon n class) ⊥ ⊥
told_first n class problem built place x edge same reply answers =
    let without : IsWithoutCanon n class (refused (no_canon problem edge)) = record {
      problem = problem;
      built = built;
      place = place;
      first = x;
      told = ap (λ (e : Edge). refused (no_canon problem e)) same;
    } in
    answers_only reply (refused (no_canon problem edge)) (IsWithoutCanon n class) ⊥ ⊥ without answers

-- the bytes that are reported, with the names of both ends
pub names_told : (reason : Result (String Global) AllocError) (importer exporter first second : List ℕ) → first ≡ importer → second ≡ exporter
    → IfOk reason (λ text. string_bytes text ≡ codes "NoCanon " ++ (first ++ (codes " " ++ second)))
    → IfOk reason (λ text. string_bytes text ≡ codes "NoCanon " ++ importer ++ codes " " ++ exporter)
names_told (Ok text) importer exporter first second one two told =
    told ∙ (λ j. codes "NoCanon " ++ (one j ++ (codes " " ++ two j)))
    ∙ ap (λ (t : List ℕ). codes "NoCanon " ++ t) (sym (append_assoc importer (codes " ") exporter))
names_told (Err e) importer exporter first second one two told = told

-- ---- the text

plan_of : (n : Network) (class : DestClass) (problem : Problem) → IsCanonicalFor n class problem
    → (plan : Plan) → IsPlanWith n class problem plan → IsCanonicalPlanOf n class plan
plan_of n class problem canonical plan is = record {
  network_is = is.network_is;
  class_is = is.class_is;
  built = subst (IsCanonicalFor n class) (sym is.problem_is) canonical;
  coarsest = is.coarsest;
  numbered = is.numbered;
  links = is.links;
}

pub canon_of : (n : Network) (class : DestClass) (problem : Problem) → IsCanonicalFor n class problem
    → (answer : Result Emitted EmitRefusal) → IsEmittedOf n class problem answer → (o : Outcome) → IsTextOrRefusal answer o → IsCanonOf n class o
canon_of n class problem canonical answer of o told =
    let plans = plan_of n class problem canonical in
    let emitted = emitted_as (IsPlanWith n class problem) (IsCanonicalPlanOf n class) n class plans answer of in
    inr (record { problem = problem; is = canonical; emission = told_of (IsCanonicalPlanOf n class) n class answer emitted o told })
