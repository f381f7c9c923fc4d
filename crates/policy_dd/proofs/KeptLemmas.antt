-- Public: crates above cite `edge_kept`. A function keeps its meaning and its form while the store grows.
use Rattle.std.proofs.Common.{◌≡◌, ℕ, Bool, false, ◌&&◌, List, [], ◌∷◌, Option, Some, None, refl, sym, ◌∙◌, ap}
use Rattle.base_kit.specs.Sets.{has, with_number}
use Rattle.route_maps.specs.declared.plain.Imported.{Imported}
use Rattle.dd_core.specs.Sets.{Shown, Grows, value_of}
use Rattle.dd_core.proofs.ShownLemmas.{value_of_kept, grows_inside}
use Rattle.policy_dd.specs.declared.edge.EdgeFn.{EdgeFn}
use Rattle.policy_dd.specs.Edge.{case_or, IsCase, AllCases, AreCases, never, by_number, carried_by_rest, is_carried, ImportIs, IsOneOf, IsEdgeFn}
use Rattle.policy_dd.specs.Imports.{EdgeKept}

module _ (old new : Shown) (grows : Grows old new) where
  pub case_or_kept : (other : ℕ → List ℕ → Bool) (cases : List (ℕ × ℕ)) → AllCases old other cases → (set : List ℕ) (key : ℕ) (b : Bool) →
      case_or new set cases key b ≡ case_or old set cases key b
  case_or_kept other [] all set key b = refl
  case_or_kept other (case ∷ cases) all set key b = rw (value_of_kept old new set case.1 grows all.0.inside, case_or_kept other cases all.1 set key b) refl

  case_kept : (f g : ℕ → List ℕ → Bool) → ((key : ℕ) (set : List ℕ) → f key set ≡ g key set) → (case : ℕ × ℕ) → IsCase old f case → IsCase new g case
  case_kept f g same case is = record {
    inside = grows_inside old new case.1 grows is.inside;
    set = is.set;
    ascending = is.ascending;
    differ = λ e. is.differ (sym (value_of_kept old new is.set case.1 grows is.inside) ∙ e ∙ sym (same case.0 is.set));
  }

  pub all_cases_kept : (f g : ℕ → List ℕ → Bool) → ((key : ℕ) (set : List ℕ) → f key set ≡ g key set) → (cases : List (ℕ × ℕ)) → AllCases old f cases →
      AllCases new g cases
  all_cases_kept f g same [] all = tt
  all_cases_kept f g same (case ∷ cases) all = (case_kept f g same case all.0, all_cases_kept f g same cases all.1)

  pub cases_kept : (f g : ℕ → List ℕ → Bool) → ((key : ℕ) (set : List ℕ) → f key set ≡ g key set) → (cases : List (ℕ × ℕ)) → AreCases old f cases →
      AreCases new g cases
  cases_kept f g same cases are = record { ascending = are.ascending; each = all_cases_kept f g same cases are.each }

  one_of_kept : (permit : ℕ) (cases : List (ℕ × ℕ)) (set : List ℕ) → value_of new set permit ≡ value_of old set permit → AllCases old never cases →
      IsOneOf old permit cases set → IsOneOf new permit cases set
  one_of_kept permit cases set same all is = record {
    one = λ v w x y. is.one v w (sym (case_or_kept never cases all set v false) ∙ x) (sym (case_or_kept never cases all set w false) ∙ y);
    implied = λ v x. case_or_kept never cases all set v false ∙ is.implied v (sym same ∙ x);
  }

  carried_kept : (edge : EdgeFn) → AllCases old (carried_by_rest old edge.rest) (by_number edge.outs) → (set : List ℕ) →
      value_of new set edge.rest ≡ value_of old set edge.rest → (c : ℕ) → is_carried new edge set c ≡ is_carried old edge set c
  carried_kept edge all set same c =
      case_or_kept (carried_by_rest old edge.rest) (by_number edge.outs) all set c (carried_by_rest new edge.rest c set)
      ∙ ap (λ b. case_or old set (by_number edge.outs) c (has set c && b)) same

  import_kept : (edge : EdgeFn) (f : List ℕ → Option Imported) → IsEdgeFn old edge f → (set : List ℕ) (r : Option Imported) → ImportIs old edge set r →
      ImportIs new edge set r
  import_kept edge f is set None denied = value_of_kept old new set edge.permit grows is.permit_inside ∙ denied
  import_kept edge f is set (Some import) accepts = record {
    permit = value_of_kept old new set edge.permit grows is.permit_inside ∙ accepts.permit;
    lp = case_or_kept never edge.lps is.lps.each set import.lp false ∙ accepts.lp;
    adds = case_or_kept never edge.adds is.adds.each set import.adds false ∙ accepts.adds;
    ascending = accepts.ascending;
    comms = λ c. accepts.comms c ∙ sym (carried_kept edge is.outs.each set (value_of_kept old new set edge.rest grows is.rest_inside) c);
  }

  kept : (edge : EdgeFn) (f : List ℕ → Option Imported) → IsEdgeFn old edge f → IsEdgeFn new edge f
  kept edge f is =
      let permit : (set : List ℕ) → value_of new set edge.permit ≡ value_of old set edge.permit =
      λ set. value_of_kept old new set edge.permit grows is.permit_inside in
      let rest : (set : List ℕ) → value_of new set edge.rest ≡ value_of old set edge.rest = λ set. value_of_kept old new set edge.rest grows is.rest_inside in
      record {
        permit_inside = grows_inside old new edge.permit grows is.permit_inside;
        rest_inside = grows_inside old new edge.rest grows is.rest_inside;
        means = λ set up. import_kept edge f is set (f set) (is.means set up);
        one_lp = λ set up. one_of_kept edge.permit edge.lps set (permit set) is.lps.each (is.one_lp set up);
        one_adds = λ set up. one_of_kept edge.permit edge.adds set (permit set) is.adds.each (is.one_adds set up);
        lps = cases_kept never never (λ key set. refl) edge.lps is.lps;
        adds = cases_kept never never (λ key set. refl) edge.adds is.adds;
        outs = cases_kept (carried_by_rest old edge.rest) (carried_by_rest new edge.rest) (λ key set. ap (λ b. has set key && b) (sym (rest set)))
            (by_number edge.outs) is.outs;
        outs_known = λ c there. ap (λ (u : List ℕ). has u c) grows.universe ∙ is.outs_known c there;
        outs_implied = λ set c up denied. carried_kept edge is.outs.each set (rest set) c ∙ is.outs_implied set c up (sym (permit set) ∙ denied);
        rest = λ set outside up none.
            rest set ∙ is.rest set outside up (sym (ap (λ (u : List ℕ). has u outside) grows.universe) ∙ none)
            ∙ ap (λ b. b && value_of old (with_number outside set) edge.rest) (sym (permit set))
            ∙ ap (λ b. value_of new set edge.permit && b) (sym (rest (with_number outside set)));
      }

pub edge_kept : EdgeKept
edge_kept old new edge import grows is = kept old new grows edge import is
