-- A class has one plan.
use Rattle.std.proofs.Common.{◌≡◌, ℕ, List, sym, ◌∙◌, subst}
use Rattle.std.specs.Prelude.{Contains}
use Rattle.base_kit.specs.Partition.{IsNumbered}
use Rattle.cfg_ast.specs.declared.network.Network.{Network}
use Rattle.cfg_ast.specs.declared.classes.DestClass.{DestClass}
use Rattle.cfg_ast.specs.meaning.Classes.{classes_of}
use Rattle.abstract_net.specs.declared.qlink.QLink.{QLink}
use Rattle.abstract_net.specs.Links.{quotient_links}
use Rattle.srp_core.specs.Problem.{Problem}
use Rattle.srp_core.proofs.AlikeOf.{one_problem as problems_alike}
use Rattle.config_emit.specs.Plan.{Plan}
use Rattle.compress_laws.specs.Built.{IsPlanOf}
use Rattle.class_laws.specs.Laws.{BuiltProblemIsOne}
use Rattle.answer_kit.proofs.NumberedOnce.{one_count_of_groups}
use Rattle.answer_kit.proofs.OneClass.{some_prefix, one_list_of_groups}

abbrev plan_with : Network → DestClass → Problem → List ℕ → ℕ → List QLink → Plan
plan_with network class problem groups count links = record {
  network = network;
  class = class;
  problem = problem;
  groups = groups;
  count = count;
  links =
      links;
}

pub one_plan : BuiltProblemIsOne → (n : Network) (class : DestClass) → Contains (classes_of n) class → (e f : Plan) → IsPlanOf n class e → IsPlanOf n class f
    → e ≡ f
one_plan law n class has e f x y =
    let p = some_prefix n class has in
    let alike = problems_alike n p.0 e.problem f.problem (x.built.of p.0 p.1) (y.built.of p.0 p.1) in
    let problems = law n class has e.problem f.problem x.built y.built in
    let groups = one_list_of_groups e.problem f.problem alike e.groups f.groups e.count f.count x.coarsest y.coarsest x.numbered y.numbered in
    let counts = one_count_of_groups f.groups e.count f.count (subst (λ (g : List ℕ). IsNumbered g e.count) groups x.numbered) y.numbered in
    let links = x.links ∙ (λ j. quotient_links (problems j).edges (groups j) (counts j)) ∙ sym y.links in
    let networks = x.network_is ∙ sym y.network_is in
    let classes = x.class_is ∙ sym y.class_is in
    λ j. plan_with (networks j) (classes j) (problems j) (groups j) (counts j) (links j)
