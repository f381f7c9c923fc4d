-- The lists over a store that has grown, and how a refusal of one is a refusal of both.
use Rattle.std.proofs.Common.{◌≡◌, ℕ, ◌<◌, true, false, nat_lt, List, length, Option, Some, None, Err, refl, sym, ◌∙◌, ap, subst, arith}
use Rattle.std.proofs.lemmas.Bool.Decides.{nat_tests}
use Rattle.dd_core.specs.Sets.{Shown, Grows}
use Rattle.policy_dd.specs.declared.edge.EdgeFn.{EdgeFn}
use Rattle.policy_dd.specs.Edge.{keys_of, by_number, IsEdgeFn}
use Rattle.policy_dd.proofs.KeptLemmas.{edge_kept}
use Rattle.route_maps.specs.declared.plain.Imported.{Imported}
use Rattle.route_maps.specs.declared.plain.Plain.{Plain}
use Rattle.canon_policy.specs.declared.fixing.Fixing.{Fixing}
use Rattle.canon_policy.specs.declared.lists.CanonEdge.{CanonEdge}
use Rattle.canon_policy.specs.declared.lists.CanonRefusal.{CanonRefusal}
use Rattle.canon_policy.specs.declared.lists.CanonRefusal.TheVariants.{NoCanon, Memory}
use Rattle.canon_policy.specs.Functions.{on_sets}
use Rattle.canon_policy.specs.Fixings.{nothing_fixed, split, settled}
use Rattle.canon_policy.specs.Canonical.{out_asked, in_list, out_list, lists_of, depends_on_others, canonical_of, canonical_lists_of}
use Rattle.canon_policy.specs.Made.{IsEdgeForm, asked_of, IsListOf, AreListsOf}
use Rattle.canon_policy.specs.Nodes.{are_over, IsWalkedFromNothing}
use Rattle.canon_policy.specs.Plain.{IsPlain}

pub over_long : (fixings : List Fixing) → 65535 < length fixings → are_over fixings ≡ true
unfolding are_over
over_long fixings lt = let e : nat_lt 65535 (length fixings) ≡ true = grind (arith, nat_tests) in rw e refl

pub refused : (e : CanonRefusal) (fixings : List Fixing) (list : Option Plain) → IsWalkedFromNothing (Err e) fixings
    → (are_over fixings ≡ true → list ≡ None) → IsListOf (Err e) list
refused NoCanon fixings list over none = none over
refused Memory fixings list over none = tt

pub form_kept : (old new : Shown) → Grows old new → (edge : EdgeFn) → IsEdgeForm old edge → IsEdgeForm new edge
form_kept old new grows edge form = record { import = form.import; means = edge_kept old new edge form.import grows form.means }

pub plain_kept : (old new : Shown) → Grows old new → (f : List ℕ → Option Imported) → IsPlain old.universe f → IsPlain new.universe f
plain_kept old new grows f plain = subst (λ (u : List ℕ). IsPlain u f) (sym grows.universe) plain

-- what a list is over the store that has grown it is over the store before
pub in_back : (old new : Shown) → Grows old new → (edge : EdgeFn) (f : List ℕ → Option Imported) → IsEdgeFn old edge f → IsPlain old.universe (on_sets f)
    → (found : List Fixing) (list : Option Plain)
    → (IsEdgeFn new edge f → IsPlain new.universe (on_sets f)
    → found ≡ settled (length new.universe) (split new.universe (asked_of new.universe (on_sets f) (keys_of (by_number edge.outs)))) nothing_fixed
    → list ≡ in_list new.universe (on_sets f))
    → found ≡ settled (length old.universe) (split old.universe (asked_of old.universe (on_sets f) (keys_of (by_number edge.outs)))) nothing_fixed
    → in_list old.universe (on_sets f) ≡ list
in_back old new grows edge f of plain found list says e =
    ap (λ (u : List ℕ). in_list u (on_sets f)) (sym grows.universe)
    ∙ sym (says (edge_kept old new edge f grows of) (plain_kept old new grows (on_sets f) plain)
    (e ∙ ap (λ (u : List ℕ). settled (length u) (split u (asked_of u (on_sets f) (keys_of (by_number edge.outs)))) nothing_fixed) (sym grows.universe)))

pub out_back : (old new : Shown) → Grows old new → (edge : EdgeFn) (f : List ℕ → Option Imported) → IsEdgeFn old edge f → IsPlain old.universe (on_sets f)
    → (found : List Fixing) (list : Option Plain)
    → (IsEdgeFn new edge f → IsPlain new.universe (on_sets f)
    → found ≡ settled (length new.universe) (split new.universe (out_asked new.universe (on_sets f))) nothing_fixed → list ≡ out_list new.universe (on_sets f))
    → found ≡ settled (length old.universe) (split old.universe (out_asked old.universe (on_sets f))) nothing_fixed
    → out_list old.universe (on_sets f) ≡ list
out_back old new grows edge f of plain found list says e =
    ap (λ (u : List ℕ). out_list u (on_sets f)) (sym grows.universe)
    ∙ sym (says (edge_kept old new edge f grows of) (plain_kept old new grows (on_sets f) plain)
    (e ∙ ap (λ (u : List ℕ). settled (length u) (split u (out_asked u (on_sets f))) nothing_fixed) (sym grows.universe)))

module _ (universe : List ℕ) (f : List ℕ → Option Imported) where
  pub none_depends : depends_on_others universe (on_sets f) ≡ true → canonical_lists_of universe f ≡ None
  unfolding canonical_of canonical_lists_of
  none_depends e = rw e refl

  lists_are : depends_on_others universe (on_sets f) ≡ false
      → canonical_lists_of universe f ≡ lists_of (out_list universe (on_sets f)) (in_list universe (on_sets f))
  unfolding canonical_of canonical_lists_of
  lists_are e = rw e refl

  none_into : (out : Option Plain) → lists_of out None ≡ None
  none_into None = refl
  none_into (Some out) = refl

  pub refused_into : (e : CanonRefusal) → depends_on_others universe (on_sets f) ≡ false → IsListOf (Err e) (in_list universe (on_sets f))
      → AreListsOf (Err e) (canonical_lists_of universe f)
  refused_into NoCanon plain is = lists_are plain ∙ ap (lists_of (out_list universe (on_sets f))) is ∙ none_into (out_list universe (on_sets f))
  refused_into Memory plain is = tt

  pub refused_out : (e : CanonRefusal) → depends_on_others universe (on_sets f) ≡ false → IsListOf (Err e) (out_list universe (on_sets f))
      → AreListsOf (Err e) (canonical_lists_of universe f)
  refused_out NoCanon plain is = lists_are plain ∙ ap (λ (o : Option Plain). lists_of o (in_list universe (on_sets f))) is
  refused_out Memory plain is = tt

  abbrev pair : Plain → Plain → CanonEdge
  pair out into = record { out = out; into = into }

  pub both_lists : (out into : Plain) → depends_on_others universe (on_sets f) ≡ false → out_list universe (on_sets f) ≡ Some out
      → in_list universe (on_sets f) ≡ Some into → canonical_lists_of universe f ≡ Some (pair out into)
  both_lists out into plain of_out of_into =
      lists_are plain ∙ ap (λ (o : Option Plain). lists_of o (in_list universe (on_sets f))) of_out ∙ ap (lists_of (Some out)) of_into
