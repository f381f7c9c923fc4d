-- Canonical lists depend only on the function, and import as it does.
use Rattle.std.proofs.Common.{◌≡◌, ℕ, true, List, Option, Some, sym, ◌∙◌, ap, subst}
use Rattle.std.proofs.Math.Path.{fun_ext}
use Rattle.base_kit.specs.Sets.{IsAscending}
use Rattle.policy_dd.specs.Imports.{AreOneImport}
use Rattle.route_maps.specs.declared.plain.Imported.{Imported}
use Rattle.route_maps.specs.Maps.{import_of}
use Rattle.canon_policy.specs.declared.lists.CanonEdge.{CanonEdge}
use Rattle.canon_policy.specs.Functions.{as_set, on_sets}
use Rattle.canon_policy.specs.Plain.{IsPlain}
use Rattle.canon_policy.specs.Canonical.{canonical_of, canonical_lists_of}
use Rattle.canon_policy.proofs.SameSets.{ascending-as_set, as_set-ascending}
use Rattle.canon_policy.specs.Uniform.{IsUniform}
use Rattle.canon_policy.proofs.Imports.{imports_as}
use Rattle.canon_policy.proofs.Uniform.{one_over_both}

pub equal_lists : (universe : List ℕ) (f g : List ℕ → Option Imported) → AreOneImport f g → canonical_lists_of universe f ≡ canonical_lists_of universe g
unfolding canonical_lists_of
equal_lists universe f g one =
    let same : on_sets f ≡ on_sets g = fun_ext (λ (set : List ℕ). one.same (as_set set) (ascending-as_set set)) in
    ap (λ (h : List ℕ → Option Imported). canonical_of universe h) same

pub two_universes : (universe other : List ℕ) (f g : List ℕ → Option Imported) → IsAscending universe → IsAscending other → IsUniform universe (on_sets f)
    → IsUniform other (on_sets g) → AreOneImport f g → canonical_lists_of universe f ≡ canonical_lists_of other g
unfolding canonical_lists_of
two_universes universe other f g up up' uniform uniform' one =
    let same : on_sets f ≡ on_sets g = fun_ext (λ (set : List ℕ). one.same (as_set set) (ascending-as_set set)) in
    one_over_both universe other up up' (on_sets f) uniform (subst (IsUniform other) (sym same) uniform')
    ∙ ap (λ (h : List ℕ → Option Imported). canonical_of other h) same

pub import_alike : (universe : List ℕ) (f : List ℕ → Option Imported) (lists : CanonEdge) → IsAscending universe → IsPlain universe (on_sets f)
    → canonical_lists_of universe f ≡ Some lists → AreOneImport (import_of lists.out true lists.into) f
unfolding canonical_lists_of
import_alike universe f lists up plain e = record {
  same = λ set set_up. imports_as universe (on_sets f) plain up set set_up lists e ∙ ap f (as_set-ascending set set_up);
}

pub equal_functions : (universe : List ℕ) (f g : List ℕ → Option Imported) (lists : CanonEdge) → IsAscending universe → IsPlain universe (on_sets f)
    → IsPlain universe (on_sets g) → canonical_lists_of universe f ≡ Some lists → canonical_lists_of universe g ≡ Some lists → AreOneImport f g
equal_functions universe f g lists up of_f of_g e e' =
    let one = import_alike universe f lists up of_f e in
    let two = import_alike universe g lists up of_g e' in
    record { same = λ set set_up. sym (one.same set set_up) ∙ two.same set set_up }
