-- A class has one plan, so `compress` has one outcome.
use Rattle.std.proofs.Common.{◌≡◌, ℕ, Bool, true, false, List, [], ◌∷◌, Option, Some, None, refl, sym, ◌∙◌, subst}
use Rattle.std.specs.Prelude.{Contains}
use Rattle.base_kit.specs.Partition.{IsNumbered}
use Rattle.cfg_ast.specs.declared.network.Network.{Network}
use Rattle.cfg_ast.specs.declared.classes.DestClass.{DestClass}
use Rattle.cfg_ast.specs.meaning.Classes.{classes_of}
use Rattle.cfg_print.specs.Prints.{is_too_long}
use Rattle.abstract_net.specs.declared.qlink.QLink.{QLink}
use Rattle.abstract_net.specs.Links.{quotient_links}
use Rattle.srp_core.specs.Problem.{Problem, act_of}
use Rattle.base_kit.specs.declared.act_graph.Edge.{Edge}
use Rattle.srp_core.proofs.Steps.{alike_self}
use Rattle.srp_core.specs.Alike.{AllEdgesAlike, ProblemsAlike}
use Rattle.config_emit.specs.Plan.{Plan}
use Rattle.config_emit.specs.Pool.{pool_line}
use Rattle.srp_build.specs.Built.{IsBuiltFor}
use Rattle.compress_laws.specs.Built.{IsPlanFor}
use Rattle.answer_groups.specs.CompressText.{IsPlanOf, compressed_text, IsTextOr, IsTextOfPlan, IsUnlessPool, IsCompressOf}
use Rattle.answer_kit.specs.Outcome.{Outcome}
use Rattle.answer_kit.proofs.NumberedOnce.{one_count_of_groups}
use Rattle.answer_kit.proofs.OneClass.{some_prefix, one_list_of_groups}
use Rattle.class_laws.proofs.OneProblem.{one_problem}

abbrev pub plan_with : Network → DestClass → Problem → List ℕ → ℕ → List QLink → Plan
plan_with network class problem groups count links = record {
  network = network;
  class = class;
  problem = problem;
  groups = groups;
  count = count;
  links =
      links;
}

-- the problem that is built for a class is one
pub built_is_one : (n : Network) (class : DestClass) → Contains (classes_of n) class
    → (P Q : Problem) → IsBuiltFor n class P → IsBuiltFor n class Q → P ≡ Q
built_is_one n class has P Q x y =
    let p = some_prefix n class has in
    one_problem n p.0 P Q (x.of p.0 p.1) (y.of p.0 p.1) x.order y.order (x.acts p.0 p.1) (y.acts p.0 p.1)

edges_self : (P : Problem) (es : List Edge) → AllEdgesAlike P P es es
edges_self P [] = tt
edges_self P (e ∷ es) = (record { importer = refl; exporter = refl; link = refl; acts = alike_self (act_of P e) }, edges_self P es)

problem_self : (P : Problem) → ProblemsAlike P P
problem_self P = record { protocol = refl; names = refl; numbers = refl; init = refl; lone = refl; edges = edges_self P P.edges }

-- where a class has one problem of a kind, it has one plan with such a problem
pub one_plan : (F : Network → DestClass → Problem → Type 0) (n : Network) (class : DestClass)
    → ((P Q : Problem) → F n class P → F n class Q → P ≡ Q)
    → (e f : Plan) → IsPlanFor F n class e → IsPlanFor F n class f → e ≡ f
one_plan F n class one e f x y =
    let problems = one e.problem f.problem x.built y.built in
    let alike = subst (λ (Q : Problem). ProblemsAlike e.problem Q) problems (problem_self e.problem) in
    let groups = one_list_of_groups e.problem f.problem alike e.groups f.groups e.count f.count x.coarsest y.coarsest x.numbered y.numbered in
    let counts = one_count_of_groups f.groups e.count f.count (subst (λ (g : List ℕ). IsNumbered g e.count) groups x.numbered) y.numbered in
    let links = x.links ∙ (λ j. quotient_links (problems j).edges (groups j) (counts j)) ∙ sym y.links in
    let networks = x.network_is ∙ sym y.network_is in
    let classes = x.class_is ∙ sym y.class_is in
    λ j. plan_with (networks j) (classes j) (problems j) (groups j) (counts j) (links j)

one_text_or : (long : Bool) (text : List ℕ) (o p : Outcome) → IsTextOr long text o → IsTextOr long text p → o ≡ p
one_text_or true text o p x y = x ∙ sym y
one_text_or false text o p x y = x ∙ sym y

-- one plan has one text
pub one_text : (IsAllowed : Plan → Type 0) → ((e f : Plan) → IsAllowed e → IsAllowed f → e ≡ f)
    → (o p : Outcome) → IsTextOfPlan IsAllowed o → IsTextOfPlan IsAllowed p → o ≡ p
one_text IsAllowed one o p x y =
    let plans = one x.plan y.plan x.is y.is in
    one_text_or (is_too_long (compressed_text y.plan)) (compressed_text y.plan) o p
    (subst (λ (e : Plan). IsTextOr (is_too_long (compressed_text e)) (compressed_text e) o) plans x.written) y.written

pub one_unless_pool : (IsAllowed : Outcome → Type 0) → ((o p : Outcome) → IsAllowed o → IsAllowed p → o ≡ p)
    → (line : Option ℕ) (o p : Outcome) → IsUnlessPool line IsAllowed o → IsUnlessPool line IsAllowed p → o ≡ p
one_unless_pool IsAllowed one (Some line) o p x y = x ∙ sym y
one_unless_pool IsAllowed one None o p x y = one o p x y

pub one_compress : (n : Network) (class : DestClass) → Contains (classes_of n) class → (o p : Outcome) → IsCompressOf n class o → IsCompressOf n class p → o ≡ p
one_compress n class has o p x y =
    one_unless_pool (IsTextOfPlan (IsPlanOf n class))
    (one_text (IsPlanOf n class) (one_plan IsBuiltFor n class (built_is_one n class has)))
    (pool_line n class) o p x y
