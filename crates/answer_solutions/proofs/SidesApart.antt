-- The groups of a class have names of their own.
use Rattle.std.proofs.Common.{◌≡◌, length, sym, ◌∙◌, subst}
use Rattle.std.specs.Prelude.{Contains}
use Rattle.cfg_ast.specs.declared.network.Network.{Network}
use Rattle.cfg_ast.specs.declared.classes.DestClass.{DestClass}
use Rattle.cfg_ast.specs.meaning.Classes.{classes_of}
use Rattle.cfg_check.specs.Faultless.{IsFaultless}
use Rattle.srp_core.specs.Problem.{Problem}
use Rattle.base_kit.specs.Names.{AreApart}
use Rattle.answer_kit.proofs.NamesApart.{problem_apart}
use Rattle.answer_kit.proofs.OneClass.{some_prefix}
use Rattle.answer_solutions.specs.declared.carry.Way.{Way}
use Rattle.answer_solutions.specs.declared.carry.Way.TheVariants.{Fold, Lift}
use Rattle.answer_solutions.specs.declared.sides.Sides.{Sides}
use Rattle.answer_solutions.specs.Carries.{AreSides, carried_from}
use Rattle.answer_solutions.proofs.GroupNames.{group_names_apart}

module _ (n : Network) (faultless : IsFaultless n) (class : DestClass) (has : Contains (classes_of n) class) (s : Sides) (are : AreSides n class s) where
  -- a name for each router
  pub named : length s.problem.names ≡ length s.groups
  named = (let p = some_prefix n class has in (are.built.of p.0 p.1).rules.tables.names ∙ sym are.coarsest.admissible.total)

  pub routers_apart : AreApart s.problem.names
  routers_apart = problem_apart n faultless class has s.problem are.built.of

  pub groups_apart : AreApart s.small.names
  groups_apart = subst (λ (P : Problem). AreApart P.names) (sym are.small_is) (group_names_apart s.problem s.groups are.count are.numbered named routers_apart)

  pub carried_apart : (way : Way) → AreApart (carried_from way s).names
  carried_apart Fold = routers_apart
  carried_apart Lift = groups_apart
