use Rattle.std.proofs.Common.{◌≡◌, ◌∙◌, ℕ, List, Some, Err, ap, sym, subst}
use Rattle.route_maps.specs.Maps.{import_of}
use Rattle.srp_core.specs.declared.route.Act.{Act}
use Rattle.canon_policy.specs.Canonical.{canonical_lists_of}
use Rattle.canon_policy.specs.CanonicalProblem.{session_with, canonical_act, AreCommunities}
use Rattle.srp_core.specs.ActMaps.{IsPrintableAct}
use Rattle.canon_policy.specs.Made.{AreListsOf}
use Rattle.canon_policy.specs.MadeActs.{IsActFor, IsCanonicalActOr}
use Rattle.canon_policy.specs.Printed.{ArePrintable}
use Rattle.canon_policy.proofs.ActsMade.{session_for, session_is, session_refused, cost_is}
use Rattle.canon_policy.proofs.SmallNumbers.{small_import}
use Rattle.canon_policy.proofs.problem.canonical_act.Goals as goal

pub returns-in-Err-clause-canonical : goal.returns-in-Err-clause-canonical
returns-in-Err-clause-canonical c =
    let a = c.in-Import in
    subst (λ (x : Act). IsCanonicalActOr c.args.store.now.universe x (Err c.in-Err.refusal)) (sym c.in-Import.is)
    (session_refused c.args.store.now.universe a.out a.sends a.into c.in-Err.refusal
    (subst (λ (u : List ℕ). AreListsOf (Err c.in-Err.refusal) (canonical_lists_of u (import_of c.in-Import.out c.in-Import.sends c.in-Import.into)))
    c.edge_fn.ensures.grows.universe (c.in-Err.ensures.canonical (import_of a.out a.sends a.into) c.in_ok-function-in-Import.ensures.edge)))

pub returns-in-Import-clause-canonical : goal.returns-in-Import-clause-canonical
returns-in-Import-clause-canonical c =
    let a = c.in-Import in
    ap (canonical_act c.args.store.now.universe) c.in-Import.is
    ∙ session_is c.args.store.now.universe a.out a.sends a.into c.in-Ok.lists
    (subst (λ (u : List ℕ). canonical_lists_of u (import_of c.in-Import.out c.in-Import.sends c.in-Import.into) ≡ Some c.in-Ok.lists)
    c.edge_fn.ensures.grows.universe (c.in-Ok.ensures.canonical (import_of a.out a.sends a.into) c.in_ok-function-in-Import.ensures.edge))

pub returns-in-Import-clause-instead : goal.returns-in-Import-clause-instead
returns-in-Import-clause-instead c =
    let a = c.in-Import in
    let maps = subst IsPrintableAct c.in-Import.is c.requires.printable in
    let communities = subst AreCommunities (sym c.edge_fn.ensures.grows.universe) c.requires.communities in
    subst (λ (x : Act). IsActFor c.args.store.now.universe x (session_with c.in-Ok.lists)) (sym c.in-Import.is)
    (session_for c.args.store.now.universe a.out a.sends a.into c.in-Ok.lists
    (subst (λ (u : List ℕ). canonical_lists_of u (import_of c.in-Import.out c.in-Import.sends c.in-Import.into) ≡ Some c.in-Ok.lists)
    c.edge_fn.ensures.grows.universe (c.in-Ok.ensures.canonical (import_of a.out a.sends a.into) c.in_ok-function-in-Import.ensures.edge))
    (c.in-Ok.ensures.imports (import_of a.out a.sends a.into) c.in_ok-function-in-Import.ensures.edge)
    (subst (λ (u : List ℕ). ArePrintable u c.in-Ok.lists) c.edge_fn.ensures.grows.universe
    (c.in-Ok.ensures.printable (import_of a.out a.sends a.into) c.in_ok-function-in-Import.ensures.edge communities
    (small_import a.out a.sends a.into maps.0 maps.1))))

pub returns-clause-canonical : goal.returns-clause-canonical
returns-clause-canonical c = ap (canonical_act c.args.store.now.universe) c.in-Cost.is ∙ cost_is c.args.store.now.universe c.in-Cost.cost
