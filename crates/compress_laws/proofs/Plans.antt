-- Public: the plan of a class fits together.
use Rattle.std.proofs.Common.{◌≡◌, ℕ, List, [], ◌∷◌, None, sym, subst}
use Rattle.std.specs.Prelude.{Contains}
use Rattle.std.specs.List.{AllByRecursion}
use Rattle.cfg_ast.specs.declared.classes.DestClass.{DestClass}
use Rattle.cfg_ast.specs.declared.network.Network.{Network}
use Rattle.cfg_ast.specs.meaning.Classes.{classes_of}
use Rattle.cfg_ast.specs.meaning.PolicyFaults.{communities_of}
use Rattle.cfg_ast.specs.text.Reading.{IsGiven}
use Rattle.cfg_check.specs.Faultless.{IsFaultless}
use Rattle.given_laws.specs.Laws.{GivenIsWellFormed}
use Rattle.srp_build.specs.Built.{IsBuiltFor}
use Rattle.srp_build.specs.Laws.{ActsPrint, ActsStayWithin}
use Rattle.srp_core.specs.Problem.{Problem}
use Rattle.config_emit.specs.Laws.{IsPlan}
use Rattle.config_emit.specs.Plan.{Plan}
use Rattle.config_emit.specs.Pool.{pool_line}
use Rattle.emit_form_laws.proofs.Origins.{class_is, some_prefix}
use Rattle.compress_laws.specs.Built.{IsPlanFor}
use Rattle.compress_laws.specs.Laws.{FitsClass, BuiltFits, FittingPlanFits, PlanFits}

-- ---- a plan fits together

pub built_fits : GivenIsWellFormed → ActsPrint → ActsStayWithin → BuiltFits
built_fits well print within n class problem given ok has built =
    let prefix = some_prefix n class (class_is n class has) in
    let first = built.acts prefix.0 prefix.1 in
    record {
      of = built.of;
      printable = print n prefix.0 problem (well n given) ok.undefined_list ok.delete_list built.order first;
      within = within n prefix.0 problem built.order first;
    }

fits : GivenIsWellFormed → (e : Plan)
    → ∥ IsGiven e.network ∥₁ → IsFaultless e.network → Contains (classes_of e.network) e.class → IsPlanFor FitsClass e.network e.class e
    → pool_line e.network e.class ≡ None → IsPlan e
fits well e given ok has is apart = record {
  well_formed = well e.network given;
  faultless = ok;
  class = has;
  problem = is.built.of;
  printable = is.built.printable;
  within = is.built.within;
  groups = is.coarsest.admissible;
  numbered = is.numbered;
  links = is.links;
  apart = apart;
}

pub fitting_plan_fits : GivenIsWellFormed → FittingPlanFits
fitting_plan_fits well n class e given ok has is apart =
    let network = sym is.network_is in
    let own = sym is.class_is in
    fits well e
    (subst (λ (m : Network). ∥ IsGiven m ∥₁) network given)
    (subst IsFaultless network ok)
    (subst (λ (c : DestClass). Contains (classes_of e.network) c) own (subst (λ (m : Network). Contains (classes_of m) class) network has))
    (subst (λ (c : DestClass). IsPlanFor FitsClass e.network c e) own (subst (λ (m : Network). IsPlanFor FitsClass m class e) network is))
    (subst (λ (c : DestClass). pool_line e.network c ≡ None) own (subst (λ (m : Network). pool_line m class ≡ None) network apart))

-- a plan with a problem of one kind has one of another kind
pub plan_as : (F G : Network → DestClass → Problem → Type 0) (n : Network) (class : DestClass)
    → ((problem : Problem) → F n class problem → G n class problem) → (e : Plan) → IsPlanFor F n class e → IsPlanFor G n class e
plan_as F G n class more e is = record {
  network_is = is.network_is;
  class_is = is.class_is;
  built = more e.problem is.built;
  coarsest = is.coarsest;
  numbered = is.numbered;
  links = is.links;
}

pub plan_fits : BuiltFits → FittingPlanFits → PlanFits
plan_fits built fitting n class e given ok has is apart =
    fitting n class e given ok has (plan_as IsBuiltFor FitsClass n class (λ problem. built n class problem given ok has) e is) apart
