-- Finitely many sets of communities decide what sessions import: the sets of named communities, each
-- with and without one community that no line names.
use Rattle.std.proofs.Common.{◌≡◌, ℕ, ◌+◌, Bool, true, false, ◌&&◌, List, ◌++◌, map, Option, Some, None, refl, sym, ap, ◌∙◌, subst, arith}
use Rattle.std.specs.Option.{option_map, option_map_or}
use Rattle.base_kit.specs.Sets.{has, with_number, IsAscending}
use Rattle.base_kit.proofs.Elements.{contains_in, in_contains, in_left, in_map, in_right, map_in, In}
use Rattle.base_kit.proofs.SetFacts.{one_list}
use Rattle.dd_core.specs.Sets.{has_others}
use Rattle.policy_dd.specs.Imports.{AreOneImport}
use Rattle.route_maps.specs.declared.plain.Imported.{Imported}
use Rattle.route_maps.specs.declared.plain.Plain.{Plain}
use Rattle.route_maps.specs.Maps.{import_of}
use Rattle.canon_policy.specs.Fixings.{sets_of}
use Rattle.canon_policy.specs.Functions.{as_set, carries, keeps, on_sets, outside_of}
use Rattle.canon_policy.specs.Uniform.{HaveOneTrace, IsUniform}
use Rattle.canon_policy.proofs.MapsUniform.{import_uniform}
use Rattle.canon_policy.proofs.Outside.{others_put, outside_same}
use Rattle.canon_policy.proofs.SameSets.{as_set-ascending, ascending-as_set, filtered_in, named, named_same, same_back, same_on}
use Rattle.canon_policy.proofs.Values.{none_others, outside_not}
use Rattle.srp_build.specs.Exists.{AreSessionMaps, HasSamples}

abbrev Function : Type 0
Function = List ℕ → Option Imported

one_imported : (a b : Imported) → a.lp ≡ b.lp → a.adds ≡ b.adds → a.comms ≡ b.comms → a ≡ b
one_imported a b lp adds comms = λ i. record { lp = lp i; comms = comms i; adds = adds i }

-- ---- one set for all that are alike

module _ (universe : List ℕ) where
  abbrev with_other : List ℕ → List ℕ
  with_other set = with_number (outside_of universe) set

  -- finitely many sets
  reps : List (List ℕ)
  reps = sets_of universe ++ map with_other (sets_of universe)

  named_in : (set : List ℕ) → In reps (named universe set)
  unfolding reps
  named_in set = in_left (sets_of universe) (map with_other (sets_of universe)) (named universe set) (filtered_in (has set) universe)

  other_in : (set : List ℕ) → In reps (with_other (named universe set))
  unfolding reps
  other_in set = in_right (sets_of universe) (map with_other (sets_of universe)) (with_other (named universe set))
      (in_map with_other (sets_of universe) (named universe set) (filtered_in (has set) universe))

  -- the set that stands for another one
  record Stands (set : List ℕ) : Type 0 where
    rep : List ℕ
    inside : In reps rep
    trace : HaveOneTrace universe set rep

  stands : (set : List ℕ) → Stands set
  stands set = by (has_others universe set) refl
    where
      by : (b : Bool) → has_others universe set ≡ b → Stands set
      by true e = record {
        rep = with_other (named universe set);
        inside = other_in set;
        trace = record {
          named = same_on universe set (named universe set) (with_other (named universe set))
              (same_back universe (named universe set) set (named_same universe set))
              (same_back universe (with_other (named universe set)) (named universe set)
              (outside_same universe (outside_of universe) (outside_not universe) (named universe set)));
          others = e ∙ sym (others_put universe (outside_of universe) (outside_not universe) (named universe set));
        };
      }
      by false e = record {
        rep = named universe set;
        inside = named_in set;
        trace = record { named = same_back universe (named universe set) set (named_same universe set); others = e ∙ sym (none_others universe set) };
      }

  -- ---- two functions

  joined : (a b : Option Imported) → ((i : Imported) → a ≡ Some i → IsAscending i.comms) → ((i : Imported) → b ≡ Some i → IsAscending i.comms)
      → option_map_or (λ (i : Imported). i.lp + 1) a 0 ≡ option_map_or (λ (i : Imported). i.lp + 1) b 0
      → option_map_or (λ (i : Imported). i.adds + 1) a 0 ≡ option_map_or (λ (i : Imported). i.adds + 1) b 0
      → ((c : ℕ) → option_map_or (λ (i : Imported). has i.comms c) a false ≡ option_map_or (λ (i : Imported). has i.comms c) b false) → a ≡ b
  joined None None up up' lp adds comms = refl
  joined None (Some j) up up' lp adds comms = absurd (omega arith)
  joined (Some i) None up up' lp adds comms = absurd (omega arith)
  joined (Some i) (Some j) up up' lp adds comms =
      ap Some (one_imported i j (omega arith) (omega arith) (one_list i.comms j.comms (up i refl) (up' j refl) comms))

  module _ (f g : Function) (u : IsUniform universe (on_sets f)) (v : IsUniform universe (on_sets g)) where
    module _ (same : (set : List ℕ) → In reps set → on_sets f set ≡ on_sets g set) where
      kept : (set : List ℕ) → keeps (on_sets f) universe set ≡ keeps (on_sets g) universe set
      kept set =
          let there = same_back universe (named universe set) set (named_same universe set) in
          u.kept.same set (named universe set) there
          ∙ ap (λ (o : Option Imported). option_map_or (λ (i : Imported). has i.comms (outside_of universe)) o false)
          (same (with_other (named universe set)) (other_in set))
          ∙ sym (v.kept.same set (named universe set) there)

      carried : (set : List ℕ) (c : ℕ) → carries (on_sets f) c set ≡ carries (on_sets g) c set
      carried set c = by (has universe c) refl
        where
          by : (b : Bool) → has universe c ≡ b → carries (on_sets f) c set ≡ carries (on_sets g) c set
          by true known =
              let s = stands set in
              u.carried c known set s.rep s.trace
              ∙ ap (λ (o : Option Imported). option_map_or (λ (i : Imported). has i.comms c) o false) (same s.rep s.inside)
              ∙ sym (v.carried c known set s.rep s.trace)
          by false none = u.unnamed set c none ∙ ap (λ b. has set c && b) (kept set) ∙ sym (v.unnamed set c none)

      everywhere : (set : List ℕ) → on_sets f set ≡ on_sets g set
      everywhere set =
          let s = stands set in
          joined (on_sets f set) (on_sets g set) (λ i is. u.ascending set i is) (λ i is. v.ascending set i is)
          (u.lp set s.rep s.trace ∙ ap (λ (o : Option Imported). option_map_or (λ (i : Imported). i.lp + 1) o 0) (same s.rep s.inside)
          ∙ sym (v.lp set s.rep s.trace))
          (u.adds set s.rep s.trace ∙ ap (λ (o : Option Imported). option_map_or (λ (i : Imported). i.adds + 1) o 0) (same s.rep s.inside)
          ∙ sym (v.adds set s.rep s.trace))
          (carried set)

    one_import : ((set : List ℕ) → In reps set → on_sets f set ≡ on_sets g set) → AreOneImport f g
    one_import same = record { same = λ set up. ap f (sym (as_set-ascending set up)) ∙ everywhere same set ∙ ap g (as_set-ascending set up) }

  -- ---- samples

  samples : List (List ℕ)
  samples = map as_set reps

  lp_like : (a b : Option Imported) → option_map_or (λ (i : Imported). i.lp + 1) a 0 ≡ option_map_or (λ (i : Imported). i.lp + 1) b 0
      → option_map (λ (i : Imported). i.lp) a ≡ option_map (λ (i : Imported). i.lp) b
  lp_like None None e = refl
  lp_like None (Some j) e = absurd (omega arith)
  lp_like (Some i) None e = absurd (omega arith)
  lp_like (Some i) (Some j) e = ap Some (let same : i.lp ≡ j.lp = omega arith in same)

  uniform : (out into : Plain) (sends : Bool) → AreSessionMaps universe out into → IsUniform universe (on_sets (import_of out sends into))
  uniform out into sends maps = import_uniform universe out sends into maps.out_is maps.into_is maps.out_within maps.into_within

  pub has_samples : HasSamples universe
  unfolding samples
  has_samples = record {
    samples = samples;
    ascending = λ set inside. (let m = map_in as_set reps set (in_contains samples set inside) in subst IsAscending m.2 (ascending-as_set m.0));
    one = λ out into other_out other_into sends other_sends first second same.
        one_import (import_of out sends into) (import_of other_out other_sends other_into) (uniform out into sends first)
        (uniform other_out other_into other_sends second)
        (λ set at. same (as_set set) (contains_in samples (as_set set) (in_map as_set reps set at)));
    like = λ out into sends maps set up. (
        let f = import_of out sends into in
        let s = stands set in
        let u = uniform out into sends maps in
        record {
          sample = as_set s.rep;
          inside = contains_in samples (as_set s.rep) (in_map as_set reps s.rep s.inside);
          same = lp_like (on_sets f s.rep) (on_sets f set) (sym (u.lp set s.rep s.trace))
              ∙ ap (λ (x : List ℕ). option_map (λ (i : Imported). i.lp) (f x)) (as_set-ascending set up);
        });
  }
