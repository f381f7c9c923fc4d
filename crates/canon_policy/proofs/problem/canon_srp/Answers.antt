use Rattle.std.proofs.Common.{◌∙◌, refl, sym, subst}
use Rattle.std.specs.List.{AllByRecursion}
use Rattle.srp_core.specs.Alike.{ProblemsAlike}
use Rattle.srp_core.specs.Problem.{Problem}
use Rattle.canon_policy.specs.CanonicalProblem.{IsCanonicalProblem}
use Rattle.srp_core.specs.ActMaps.{IsPrintableAct, IsActWithin}
use Rattle.canon_policy.proofs.ProblemMade.{keeps_rules, is_canonical, is_alike, is_printable, is_named}
use Rattle.canon_policy.proofs.problem.canon_srp.Goals as goal

pub new-requires : goal.new-requires
new-requires c = λ keep.
    keeps_rules
    c.args.store.now.universe c.args.srp.now c.in_ok-acts.acts c.in_ok-acts.ensures.acts c.count-known.ensures.rules _
    c.protocol.ensures (c.in_ok-names.ensures ∙ c.as_slice.ensures ∙ c.names.ensures)
    (c.from_vec.ensures ∙ c.in_ok-numbers.ensures.items ∙ c.numbers.ensures) (c.in_ok-init.ensures ∙ c.init.ensures)
    (c.from_vec-2.ensures ∙ c.in_ok-lone.ensures.items ∙ c.lone.ensures) refl
    (c.from_vec-3.ensures ∙ c.in_ok-edges.ensures.items ∙ c.edges.ensures) keep

pub returns-clause-canonical : goal.returns-clause-canonical
returns-clause-canonical c =
    subst (IsCanonicalProblem c.args.store.now.universe c.args.srp.now) (sym c.new.ensures)
    (is_canonical
    c.args.store.now.universe c.args.srp.now c.in_ok-acts.acts c.in_ok-acts.ensures.acts c.count-known.ensures.rules _
    c.protocol.ensures (c.in_ok-names.ensures ∙ c.as_slice.ensures ∙ c.names.ensures)
    (c.from_vec.ensures ∙ c.in_ok-numbers.ensures.items ∙ c.numbers.ensures) (c.in_ok-init.ensures ∙ c.init.ensures)
    (c.from_vec-2.ensures ∙ c.in_ok-lone.ensures.items ∙ c.lone.ensures) refl
    (c.from_vec-3.ensures ∙ c.in_ok-edges.ensures.items ∙ c.edges.ensures))

pub returns-clause-alike : goal.returns-clause-alike
returns-clause-alike c =
    subst (ProblemsAlike c.args.srp.now) (sym c.new.ensures)
    (is_alike
    c.args.store.now.universe c.args.srp.now c.in_ok-acts.acts c.in_ok-acts.ensures.acts c.count-known.ensures.rules _
    c.protocol.ensures (c.in_ok-names.ensures ∙ c.as_slice.ensures ∙ c.names.ensures)
    (c.from_vec.ensures ∙ c.in_ok-numbers.ensures.items ∙ c.numbers.ensures) (c.in_ok-init.ensures ∙ c.init.ensures)
    (c.from_vec-2.ensures ∙ c.in_ok-lone.ensures.items ∙ c.lone.ensures) refl
    (c.from_vec-3.ensures ∙ c.in_ok-edges.ensures.items ∙ c.edges.ensures))

pub returns-clause-printable : goal.returns-clause-printable
returns-clause-printable c =
    subst (λ (p : Problem). AllByRecursion IsPrintableAct p.acts) (sym c.new.ensures)
    (is_printable
    c.args.store.now.universe c.args.srp.now c.in_ok-acts.acts c.in_ok-acts.ensures.acts c.count-known.ensures.rules _
    c.protocol.ensures (c.in_ok-names.ensures ∙ c.as_slice.ensures ∙ c.names.ensures)
    (c.from_vec.ensures ∙ c.in_ok-numbers.ensures.items ∙ c.numbers.ensures) (c.in_ok-init.ensures ∙ c.init.ensures)
    (c.from_vec-2.ensures ∙ c.in_ok-lone.ensures.items ∙ c.lone.ensures) refl
    (c.from_vec-3.ensures ∙ c.in_ok-edges.ensures.items ∙ c.edges.ensures))

pub returns-clause-within : goal.returns-clause-within
returns-clause-within c =
    subst (λ (p : Problem). AllByRecursion (IsActWithin c.args.store.now.universe) p.acts) (sym c.new.ensures)
    (is_named
    c.args.store.now.universe c.args.srp.now c.in_ok-acts.acts c.in_ok-acts.ensures.acts c.count-known.ensures.rules _
    c.protocol.ensures (c.in_ok-names.ensures ∙ c.as_slice.ensures ∙ c.names.ensures)
    (c.from_vec.ensures ∙ c.in_ok-numbers.ensures.items ∙ c.numbers.ensures) (c.in_ok-init.ensures ∙ c.init.ensures)
    (c.from_vec-2.ensures ∙ c.in_ok-lone.ensures.items ∙ c.lone.ensures) refl
    (c.from_vec-3.ensures ∙ c.in_ok-edges.ensures.items ∙ c.edges.ensures))
