-- What a session imports is decided by finitely many sets: so it can be decided whether two sessions import alike, whether one
-- imports anything, and with which preferences.
use Rattle.std.proofs.Common.{◌≡◌, ◌⊎◌, inl, inr, ℕ, Bool, List, [], ◌∷◌, flat_map, Option, Some, None, refl, ap, ◌∙◌, subst}
use Rattle.std.specs.Option.{option_map}
use Rattle.std.proofs.lemmas.Bool.{cases_eq}
use Rattle.base_kit.specs.Sets.{IsAscending}
use Rattle.base_kit.proofs.Elements.{contains_in, flat_map_in, in_contains, in_flat_map, In}
use Rattle.policy_dd.specs.Imports.{AcceptsNone, AcceptsSome, AreOneImport}
use Rattle.route_maps.specs.declared.plain.Imported.{Imported}
use Rattle.route_maps.specs.declared.plain.Plain.{Plain}
use Rattle.route_maps.specs.Maps.{import_of}
use Rattle.srp_build.specs.Exists.{AreSessionMaps, HasSamples}

-- ---- what can be told apart

abbrev pub Dec : Type 0 → Type 0
Dec P = P ⊎ (P → ⊥)

first_of : List ℕ → ℕ
first_of [] = 0
first_of (x ∷ xs) = x

rest_of : List ℕ → List ℕ
rest_of [] = []
rest_of (x ∷ xs) = xs

dec_list : (xs ys : List ℕ) → Dec (xs ≡ ys)
unfolding first_of rest_of
dec_list [] [] = inl refl
dec_list [] (y ∷ ys) = inr (λ e. cc)
dec_list (x ∷ xs) [] = inr (λ e. cc)
dec_list (x ∷ xs) (y ∷ ys) = elim (cases_eq x y) [
  | inr other ↦ inr (λ e. other (ap first_of e))
  | inl same ↦ elim (dec_list xs ys) [
    | inr other ↦ inr (λ e. other (ap rest_of e))
    | inl rest ↦ inl (λ i. same i ∷ rest i)
  ]
]

one_imported : (a b : Imported) → a.lp ≡ b.lp → a.adds ≡ b.adds → a.comms ≡ b.comms → a ≡ b
one_imported a b lp adds comms = λ i. record { lp = lp i; comms = comms i; adds = adds i }

imported_of : Option Imported → Imported
imported_of None = record { lp = 0; comms = []; adds = 0 }
imported_of (Some i) = i

dec_imported : (a b : Imported) → Dec (a ≡ b)
dec_imported a b = elim (cases_eq a.lp b.lp) [
  | inr other ↦ inr (λ e. other (ap (λ (i : Imported). i.lp) e))
  | inl lp ↦ elim (cases_eq a.adds b.adds) [
    | inr other ↦ inr (λ e. other (ap (λ (i : Imported). i.adds) e))
    | inl adds ↦ elim (dec_list a.comms b.comms) [
      | inr other ↦ inr (λ e. other (ap (λ (i : Imported). i.comms) e))
      | inl comms ↦ inl (one_imported a b lp adds comms)
    ]
  ]
]

pub dec_import : (a b : Option Imported) → Dec (a ≡ b)
unfolding imported_of
dec_import None None = inl refl
dec_import None (Some b) = inr (λ e. cc)
dec_import (Some a) None = inr (λ e. cc)
dec_import (Some a) (Some b) = elim (dec_imported a b) [
  | inl same ↦ inl (ap Some same)
  | inr other ↦ inr (λ e. other (ap imported_of e))
]

-- all items have it, or one has it not
pub all_or : {X : Type 0} (P : X → Type 0) → ((x : X) → Dec (P x)) → (xs : List X) → ((x : X) → In xs x → P x) ⊎ ((x : X) × In xs x × (P x → ⊥))
all_or P decide [] = inl (λ x at. absurd at)
all_or P decide (x ∷ xs) = elim (decide x) [
  | inr other ↦ inr (x, inl refl, other)
  | inl first ↦ elim (all_or P decide xs) [
    | inr other ↦ inr (other.0, inr other.1, other.2)
    | inl rest ↦ inl (λ y at. (elim at [ inl same ↦ subst P same first | inr at' ↦ rest y at' ]))
  ]
]

-- ---- samples

dec_none : (o : Option Imported) → Dec (o ≡ None)
dec_none None = inl refl
dec_none (Some i) = inr (λ e. cc)

some_by : (o : Option Imported) → (o ≡ None → ⊥) → (i : Imported) × (o ≡ Some i)
some_by None some = absurd (some refl)
some_by (Some i) some = (i, refl)

none_like : (a b : Option Imported) → option_map (λ (i : Imported). i.lp) a ≡ option_map (λ (i : Imported). i.lp) b → a ≡ None → b ≡ None
none_like None None e none = refl
none_like None (Some j) e none = absurd cc
none_like (Some i) b e none = absurd cc

abbrev preference_of : Option Imported → List ℕ
preference_of None = []
preference_of (Some i) = i.lp ∷ []

in_like : (a b : Option Imported) (lp : ℕ) → option_map (λ (i : Imported). i.lp) a ≡ option_map (λ (i : Imported). i.lp) b → (i : Imported) → b ≡ Some i
    → i.lp ≡ lp → In (preference_of a) lp
in_like None None lp e i is same = absurd cc
in_like None (Some j) lp e i is same = absurd cc
in_like (Some k) None lp e i is same = absurd cc
in_like (Some k) (Some j) lp e i is same =
    let one : j ≡ i = cc in
    let both : k.lp ≡ j.lp = cc in
    inl (both ∙ ap (λ (x : Imported). x.lp) one ∙ same)

-- some set is imported with that preference
pub record Prefers (f : List ℕ → Option Imported) (lp : ℕ) : Type 0 where
  pub set : List ℕ
  pub ascending : IsAscending set
  pub import : Imported
  pub is : f set ≡ Some import
  pub preferred : import.lp ≡ lp

module _ (universe : List ℕ) (has : HasSamples universe) where
  -- the preferences with which it imports
  pub preferences : (List ℕ → Option Imported) → List ℕ
  preferences f = flat_map (λ set. preference_of (f set)) has.samples

  -- whether two sessions import alike
  pub dec_one : (out into other_out other_into : Plain) (sends other_sends : Bool) → AreSessionMaps universe out into
      → AreSessionMaps universe other_out other_into
      → Dec (AreOneImport (import_of out sends into) (import_of other_out other_sends other_into))
  dec_one out into other_out other_into sends other_sends first second =
      elim (all_or (λ set. import_of out sends into set ≡ import_of other_out other_sends other_into set)
      (λ set. dec_import (import_of out sends into set) (import_of other_out other_sends other_into set)) has.samples) [
        | inl same ↦ inl (has.one out into other_out other_into sends other_sends first second (λ set at. same set (in_contains has.samples set at)))
        | inr other ↦ inr (λ one. other.2 (one.same other.0 (has.ascending other.0 (contains_in has.samples other.0 other.1))))
      ]

  pub preferred : (f : List ℕ → Option Imported) (lp : ℕ) → In (preferences f) lp → Prefers f lp
  unfolding preferences
  preferred f lp at = (let r = flat_map_in (λ set. preference_of (f set)) has.samples lp at in by r.0 r.1 (f r.0) refl r.2)
    where
      by : (set : List ℕ) → In has.samples set → (o : Option Imported) → f set ≡ o → In (preference_of o) lp → Prefers f lp
      by set inside None e at = absurd at
      by set inside (Some i) e (inl same) = record {
        set = set;
        ascending = has.ascending set (contains_in has.samples set inside);
        import = i;
        is = e;
        preferred = same;
      }
      by set inside (Some i) e (inr at) = absurd at

  module _ (out into : Plain) (sends : Bool) (maps : AreSessionMaps universe out into) where
    -- whether it imports anything
    pub dec_accepts : AcceptsSome (import_of out sends into) ⊎ AcceptsNone (import_of out sends into)
    dec_accepts = elim (all_or (λ set. import_of out sends into set ≡ None) (λ set. dec_none (import_of out sends into set)) has.samples) [
      | inr other ↦ (let some = some_by (import_of out sends into other.0) other.2 in
          inl (record { set = other.0; ascending = has.ascending other.0 (contains_in has.samples other.0 other.1); import = some.0; is = some.1 }))
      | inl none ↦ inr (record {
        none = λ set up. (
            let s = has.like out into sends maps set up in
            none_like (import_of out sends into s.sample) (import_of out sends into set) s.same (none s.sample (in_contains has.samples s.sample s.inside)));
      })
    ]

    pub prefers : (lp : ℕ) → Prefers (import_of out sends into) lp → In (preferences (import_of out sends into)) lp
    unfolding preferences
    prefers lp p =
        let s = has.like out into sends maps p.set p.ascending in
        in_flat_map (λ set. preference_of (import_of out sends into set)) has.samples s.sample lp (in_contains has.samples s.sample s.inside)
        (in_like (import_of out sends into s.sample) (import_of out sends into p.set) lp s.same p.import p.is p.preferred)
