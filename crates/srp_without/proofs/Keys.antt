-- The table of a function has the preferences that its import gives.
use Rattle.std.proofs.Common.{◌≡◌, ◌≢◌, ℕ, Bool, true, false, List, [], ◌∷◌, Option, Some, None, refl, sym, ◌∙◌, ap, subst, arith, inl, inr}
use Rattle.std.proofs.lemmas.Bool.{cases_eq}
use Rattle.base_kit.specs.Sets.{IsAscending}
use Rattle.route_maps.specs.declared.plain.Imported.{Imported}
use Rattle.dd_core.specs.Sets.{Shown, value_of}
use Rattle.policy_dd.specs.declared.edge.EdgeFn.{EdgeFn}
use Rattle.policy_dd.specs.Edge.{case_or, IsCase, never, ImportIs, IsEdgeFn, AreCases}
use Rattle.policy_dd.proofs.CaseLemmas.{case_here, case_later}
use Rattle.route_maps.specs.declared.plain.Plain.{Plain}
use Rattle.route_maps.specs.Maps.{import_of}
use Rattle.srp_core.specs.declared.route.Act.{Act}
use Rattle.srp_core.specs.declared.route.Act.TheVariants.{Import, Cost}
use Rattle.srp_without.specs.declared.accepted.Accepted.{Accepted}
use Rattle.srp_core.specs.Acts.{import_by}
use Rattle.srp_without.specs.Accepting.{Accepts, ActAccepts, IsAll, accepted_of}

not_false : (b : Bool) → b ≢ false → b ≡ true
not_false true ne = refl
not_false false ne = absurd (ne refl)

module _ (shown : Shown) (a : EdgeFn) (import : List ℕ → Option Imported) (is : IsEdgeFn shown a import) where
  -- a preference whose node is true on some set is accepted
  taken : (set : List ℕ) (key : ℕ) → IsAscending set → case_or shown set a.lps key false ≡ true → Accepts import key
  taken set key up value = by (import set) refl (is.means set up)
    where
      by : (r : Option Imported) → import set ≡ r → ImportIs shown a set r → Accepts import key
      by None e none = let no = (is.one_lp set up).implied key none in absurd cc
      by (Some i) e gives = record {
        comms = set;
        is_set = up;
        imported = i;
        accepted = e;
        preferred = (is.one_lp set up).one i.lp key gives.lp value;
      }

  -- and each that is accepted has such a node
  node_of : (preference : ℕ) (accepts : Accepts import preference) → case_or shown accepts.comms a.lps preference false ≡ true
  node_of preference accepts =
      let gives : ImportIs shown a accepts.comms (Some accepts.imported) =
      subst (λ (r : Option Imported). ImportIs shown a accepts.comms r) accepts.accepted (is.means accepts.comms accepts.is_set) in
      subst (λ (key : ℕ). case_or shown accepts.comms a.lps key false ≡ true) accepts.preferred gives.lp

  module _ (lps : List (ℕ × ℕ)) (same : a.lps ≡ lps) where
    value : (set : List ℕ) (key : ℕ) → case_or shown set lps key false ≡ true → case_or shown set a.lps key false ≡ true
    value set key e = ap (λ (cases : List (ℕ × ℕ)). case_or shown set cases key false) same ∙ e

    cases_same : AreCases shown never lps
    cases_same = subst (AreCases shown never) same is.lps

    there : (preference : ℕ) (accepts : Accepts import preference) → case_or shown accepts.comms lps preference false ≡ true
    there preference accepts = ap (λ (cases : List (ℕ × ℕ)). case_or shown accepts.comms cases preference false) (sym same) ∙ node_of preference accepts

  first_taken : (case : ℕ × ℕ) (cases : List (ℕ × ℕ)) → a.lps ≡ case ∷ cases → Accepts import case.0
  first_taken case cases same =
      let first : IsCase shown never case = (cases_same (case ∷ cases) same).each.0 in
      taken first.set case.0 first.ascending (value (case ∷ cases) same first.set case.0
      (case_here shown first.set case cases case.0 false refl ∙ not_false (value_of shown first.set case.1) first.differ))

  second_taken : (case other : ℕ × ℕ) (cases : List (ℕ × ℕ)) → a.lps ≡ case ∷ other ∷ cases → case.0 ≢ other.0 → Accepts import other.0
  second_taken case other cases same differ =
      let second : IsCase shown never other = (cases_same (case ∷ other ∷ cases) same).each.1.0 in
      taken second.set other.0 second.ascending (value (case ∷ other ∷ cases) same second.set other.0
      (case_later shown second.set case (other ∷ cases) other.0 false differ
      ∙ case_here shown second.set other cases other.0 false refl ∙ not_false (value_of shown second.set other.1) second.differ))

  -- what the table says of all preferences that are accepted
  all_at : (lps : List (ℕ × ℕ)) → a.lps ≡ lps → IsAll (Accepts import) (accepted_of lps)
  all_at [] same = λ preference accepts. let no = there [] same preference accepts in cc
  all_at (case ∷ []) same = record {
    accepted = first_taken case [] same;
    only = λ other accepts. elim (cases_eq case.0 other) [
      | inl e ↦ sym e
      | inr ne ↦ absurd (
          let no = there (case ∷ []) same other accepts in
          let none = case_later shown accepts.comms case [] other false ne in cc)
    ];
  }
  all_at (case ∷ other ∷ cases) same =
      let less = (cases_same (case ∷ other ∷ cases) same).ascending.0.0 in
      let differ : case.0 ≢ other.0 = omega arith in
      record {
        first = case.0;
        second = other.0;
        first_accepted = first_taken case (other ∷ cases) same;
        second_accepted = second_taken case other cases same differ;
        differ = differ;
      }

  pub all_of : IsAll (Accepts import) (accepted_of a.lps)
  all_of = all_at a.lps refl

-- the same of an act
act_all : (shown : Shown) (a : EdgeFn) (out : Plain) (sends : Bool) (into : Plain) → IsEdgeFn shown a (import_of out sends into) →
    IsAll (ActAccepts (Import out sends into)) (accepted_of a.lps)
unfolding import_by
act_all shown a out sends into is = all_of shown a (import_of out sends into) is

pub act_said : (act : Act) (shown : Shown) (a : EdgeFn) (out : Plain) (sends : Bool) (into : Plain) → act ≡ Import out sends into →
    IsEdgeFn shown a (import_of out sends into) → (lps : List (ℕ × ℕ)) → lps ≡ a.lps → (accepted : Accepted) → accepted ≡ accepted_of lps →
    IsAll (ActAccepts act) accepted
act_said act shown a out sends into same is lps of_lps accepted said =
    let P : Accepted → Type 0 = λ x. IsAll (ActAccepts (Import out sends into)) x in
    let Q : Act → Type 0 = λ x. IsAll (ActAccepts x) accepted in
    subst Q (sym same) (subst P (sym (said ∙ ap accepted_of of_lps)) (act_all shown a out sends into is))

cost_none : (cost preference : ℕ) → ¬ ActAccepts (Cost cost) preference
unfolding import_by
cost_none cost preference a = let none = a.accepted in cc

pub cost_said : (act : Act) (cost : ℕ) → act ≡ Cost cost → (preference : ℕ) → ¬ ActAccepts act preference
cost_said act cost same preference a = cost_none cost preference (subst (λ x. ActAccepts x preference) same a)
