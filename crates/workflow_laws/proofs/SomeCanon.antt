-- What `canon` is to write of a class that has a problem.
use Rattle.std.proofs.Common.{◌⊎◌, inl, inr, [], map, refl}
use Rattle.base_kit.specs.Sets.{IsAscending}
use Rattle.base_kit.proofs.SetFacts.{ascending_with_numbers}
use Rattle.abstract_net.specs.Links.{quotient_links}
use Rattle.cfg_ast.specs.declared.classes.DestClass.{DestClass}
use Rattle.cfg_ast.specs.declared.network.Network.{Network}
use Rattle.cfg_ast.specs.meaning.PolicyFaults.{communities_of, community_of, mentions}
use Rattle.cfg_ast.specs.printing.WellFormed.{IsWellFormed}
use Rattle.compress_laws.specs.Laws.{FitsClass}
use Rattle.config_emit.specs.Plan.{Plan}
use Rattle.config_emit.specs.Pool.{pool_line}
use Rattle.canon_policy.specs.Exists.{EachHasCanonical, HasCanonical, IsWithoutCanonical}
use Rattle.quotient_laws.specs.Numbered.{EachHasGroups}
use Rattle.srp_build.specs.Built.{IsBuiltFor}
use Rattle.srp_core.specs.Problem.{IsProblem, Problem}
use Rattle.answer_groups.specs.CanonText.{no_canon, IsCanonicalFor, IsCanonicalPlanOf, IsCanonOf}
use Rattle.answer_groups.specs.CompressText.{IsTextOfPlan}
use Rattle.answer_groups.proofs.Canonizing.{canonical_for}
use Rattle.answer_groups.proofs.NamedCommunities.{named_communities}
use Rattle.answer_kit.specs.Outcome.{refused}
use Rattle.workflow_laws.proofs.Existence.{text_of_plan, unless_overlap}
use Rattle.workflow_laws.proofs.Labelled.{SomeOf}

ascending : (n : Network) → IsAscending (communities_of n)
unfolding communities_of
ascending n = ascending_with_numbers (map community_of (mentions n)) [] tt

module _ (canon : EachHasCanonical) (groups_of : EachHasGroups) (n : Network) (form : IsWellFormed n) (class : DestClass) (problem : Problem)
    (built : IsBuiltFor n class problem)
    (rules : IsProblem problem) (fits : FitsClass n class problem) where
  with_canon : HasCanonical (communities_of n) problem → SomeOf (IsCanonOf n class)
  with_canon h =
      let is : IsCanonicalFor n class h.canonical = canonical_for n class (communities_of n) problem h.canonical built refl h.is in
      let groups = groups_of h.canonical h.rules in
      let plan : Plan = record {
        network = n;
        class = class;
        problem = h.canonical;
        groups = groups.groups;
        count = groups.count;
        links = quotient_links h.canonical.edges groups.groups groups.count;
      } in
      let is_plan : IsCanonicalPlanOf n class plan =
      record { network_is = refl; class_is = refl; built = is; coarsest = groups.coarsest; numbered = groups.numbered; links = refl } in
      let o = unless_overlap (IsTextOfPlan (IsCanonicalPlanOf n class)) (text_of_plan (IsCanonicalPlanOf n class) plan is_plan) (pool_line n class) in
      (o.0, inr (record { problem = h.canonical; is = is; emission = o.1 }))

  without_canon : IsWithoutCanonical (communities_of n) problem → SomeOf (IsCanonOf n class)
  without_canon w =
      (refused (no_canon problem w.first.edge), inl (record { problem = problem; built = built; place = w.place; first = w.first; told = refl }))

  either : HasCanonical (communities_of n) problem ⊎ IsWithoutCanonical (communities_of n) problem → SomeOf (IsCanonOf n class)
  either (inl h) = with_canon h
  either (inr w) = without_canon w

  pub some_canon : SomeOf (IsCanonOf n class)
  some_canon = either (canon (communities_of n) (ascending n) (named_communities n form) problem rules fits.printable fits.within)
