-- A uniform function is plain if it does not depend on communities outside. This holds over one universe
-- as over another.
use Rattle.std.proofs.Common.{◌≡◌, ℕ, Bool, true, false, not, ◌&&◌, ◌||◌, nat_eq, List, ◌++◌, Option, None, refl, sym, ◌∙◌, ap}
use Rattle.std.specs.Bool.{beq}
use Rattle.std.specs.List.{list_any}
use Rattle.base_kit.specs.Sets.{has, with_number, IsAscending}
use Rattle.base_kit.proofs.SetFacts.{same_number, other_number, has-with_number}
use Rattle.base_kit.proofs.Elements.{in_left, in_right}
use Rattle.dd_core.specs.Sets.{has_others}
use Rattle.route_maps.specs.declared.plain.Imported.{Imported}
use Rattle.canon_policy.specs.Functions.{outside_of, carries, preference, added_count}
use Rattle.canon_policy.specs.Fixings.{sets_of}
use Rattle.canon_policy.specs.Canonical.{differs_with_outside, depends_on_others, canonical_of}
use Rattle.canon_policy.specs.Hanging.{SameOn}
use Rattle.canon_policy.specs.Plain.{IsPlain}
use Rattle.canon_policy.specs.Uniform.{HaveOneTrace, IsUniform}
use Rattle.canon_policy.proofs.Least.{has_in, in_has}
use Rattle.canon_policy.proofs.Outside.{outside_same, others_put, numbers_equal, bits_equal, any_none, accepted_alike, differs_not}
use Rattle.canon_policy.proofs.SameSets.{or_none, none_in, filtered_in, named, named_same, same_back, same_on}
use Rattle.canon_policy.proofs.TwoUniverses.{one_canonical}
use Rattle.canon_policy.proofs.Values.{outside_not, none_others}

-- a community outside, and another one
two_outside : (universe : List ℕ) (c d : ℕ) → has universe c ≡ false → has universe d ≡ false → (set : List ℕ)
    → HaveOneTrace universe (with_number c set) (with_number d set)
two_outside universe c d none none' set = record {
  named = same_on universe (with_number c set) set (with_number d set) (outside_same universe c none set)
      (same_back universe (with_number d set) set (outside_same universe d none' set));
  others = others_put universe c none set ∙ sym (others_put universe d none' set);
}

module _ (universe : List ℕ) (f : List ℕ → Option Imported) (uniform : IsUniform universe f) (independent : depends_on_others universe f ≡ false) where
  abbrev put : List ℕ → List ℕ
  put set = with_number (outside_of universe) set

  same_there : (set : List ℕ) → differs_with_outside universe f (named universe set) ≡ false
  unfolding depends_on_others
  same_there set = none_in (differs_with_outside universe f) (sets_of universe) (named universe set) independent (filtered_in (has set) universe)

  abbrev first : List ℕ → Bool
  first set = not (nat_eq (preference f set) (preference f (put set)))

  abbrev second : List ℕ → Bool
  second set = not (nat_eq (added_count f set) (added_count f (put set)))

  abbrev third : List ℕ → Bool
  third set = list_any (λ c. not (beq (carries f c set) (carries f c (put set)))) universe

  one_lp : (set : List ℕ) → preference f (named universe set) ≡ preference f (put (named universe set))
  one_lp set =
      numbers_equal (preference f (named universe set)) (preference f (put (named universe set)))
      (or_none (first (named universe set)) (second (named universe set) || third (named universe set)) (same_there set)).0

  one_count : (set : List ℕ) → added_count f (named universe set) ≡ added_count f (put (named universe set))
  one_count set =
      numbers_equal (added_count f (named universe set)) (added_count f (put (named universe set)))
      (or_none (second (named universe set)) (third (named universe set))
      (or_none (first (named universe set)) (second (named universe set) || third (named universe set)) (same_there set)).1).0

  one_carried : (c : ℕ) → has universe c ≡ true → (set : List ℕ) → carries f c (named universe set) ≡ carries f c (put (named universe set))
  one_carried c known set =
      bits_equal (carries f c (named universe set)) (carries f c (put (named universe set)))
      (none_in (λ d. not (beq (carries f d (named universe set)) (carries f d (put (named universe set))))) universe c
      (or_none (second (named universe set)) (third (named universe set))
      (or_none (first (named universe set)) (second (named universe set) || third (named universe set)) (same_there set)).1).1
      (has_in universe c known))

  -- what is the same for one trace, and for one more community outside, depends only on the universe
  module _ {X : Type 0} (part : List ℕ → X) (traced : (a b : List ℕ) → HaveOneTrace universe a b → part a ≡ part b)
      (one : (set : List ℕ) → part (named universe set) ≡ part (put (named universe set))) where
    to_named : (set : List ℕ) → part set ≡ part (named universe set)
    to_named set = by (has_others universe set) refl
      where
        by : (b : Bool) → has_others universe set ≡ b → part set ≡ part (named universe set)
        by true e =
            traced set (put (named universe set)) (record {
              named = same_on universe set (named universe set) (put (named universe set))
                  (same_back universe (named universe set) set (named_same universe set))
                  (same_back universe (put (named universe set)) (named universe set)
                  (outside_same universe (outside_of universe) (outside_not universe) (named universe set)));
              others = e ∙ sym (others_put universe (outside_of universe) (outside_not universe) (named universe set));
            })
            ∙ sym (one set)
        by false e =
            traced set (named universe set) (record {
              named = same_back universe (named universe set) set (named_same universe set);
              others = e ∙ sym (none_others universe set);
            })

    to_same : (a b : List ℕ) → SameOn universe a b → part a ≡ part b
    to_same a b same =
        to_named a
        ∙ traced (named universe a) (named universe b) (record {
          named = same_on universe (named universe a) a (named universe b) (named_same universe a)
              (same_on universe a b (named universe b) same (same_back universe (named universe b) b (named_same universe b)));
          others = none_others universe a ∙ sym (none_others universe b);
        })
        ∙ sym (to_named b)

  pub uniform_plain : IsPlain universe f
  uniform_plain = record {
    accepted = record { same = λ a b same. accepted_alike (f a) (f b) (to_same (preference f) uniform.lp one_lp a b same) };
    kept = uniform.kept;
    lp = record { same = to_same (preference f) uniform.lp one_lp };
    adds = record { same = to_same (added_count f) uniform.adds one_count };
    carried = λ c known. record { same = to_same (carries f c) (uniform.carried c known) (one_carried c known) };
    unnamed = uniform.unnamed;
    ascending = uniform.ascending;
  }

-- a function that is plain over one universe does not depend on what is outside another, over which it is uniform
module _ (universe other : List ℕ) (f : List ℕ → Option Imported) (plain : IsPlain universe f) (uniform : IsUniform other f) where
  abbrev beyond : ℕ
  beyond = outside_of (universe ++ other)

  not_left : has universe beyond ≡ false
  not_left = by (has universe beyond) refl
    where
      by : (b : Bool) → has universe beyond ≡ b → b ≡ false
      by true e =
          let h = in_has (universe ++ other) beyond (in_left universe other beyond (has_in universe beyond e)) in
          absurd (let wrong : true ≡ false = sym h ∙ outside_not (universe ++ other) in cc)
      by false e = refl

  not_right : has other beyond ≡ false
  not_right = by (has other beyond) refl
    where
      by : (b : Bool) → has other beyond ≡ b → b ≡ false
      by true e =
          let h = in_has (universe ++ other) beyond (in_right universe other beyond (has_in other beyond e)) in
          absurd (let wrong : true ≡ false = sym h ∙ outside_not (universe ++ other) in cc)
      by false e = refl

  moved : (set : List ℕ) → HaveOneTrace other (with_number (outside_of other) set) (with_number beyond set)
  moved set = two_outside other (outside_of other) beyond (outside_not other) not_right set

  gone : (set : List ℕ) → SameOn universe (with_number beyond set) set
  gone set = outside_same universe beyond not_left set

  carried_same : (c : ℕ) → has other c ≡ true → (set : List ℕ) → carries f c set ≡ carries f c (with_number (outside_of other) set)
  carried_same c known set = sym (uniform.carried c known (with_number (outside_of other) set) (with_number beyond set) (moved set) ∙ by (has universe c) refl)
    where
      apart : nat_eq beyond c ≡ false
      apart = other_number beyond c (λ same. let h : has other beyond ≡ has other c = ap (has other) same in
          let wrong : true ≡ false = sym known ∙ sym h ∙ not_right in cc)

      by : (b : Bool) → has universe c ≡ b → carries f c (with_number beyond set) ≡ carries f c set
      by true e = (plain.carried c e).same (with_number beyond set) set (gone set)
      by false e =
          let there : has (with_number beyond set) c ≡ has set c = has-with_number beyond set c ∙ rw apart refl in
          let kept = plain.kept.same (with_number beyond set) set (gone set) in
          plain.unnamed (with_number beyond set) c e ∙ (λ i. there i && kept i) ∙ sym (plain.unnamed set c e)

  nothing_differs : (set : List ℕ) → differs_with_outside other f set ≡ false
  nothing_differs set =
      neither (nat_eq (preference f set) (preference f (with_number (outside_of other) set)))
      (nat_eq (added_count f set) (added_count f (with_number (outside_of other) set)))
      (list_any (λ c. not (beq (carries f c set) (carries f c (with_number (outside_of other) set)))) other)
      (same_number (preference f set) (preference f (with_number (outside_of other) set))
      (sym (uniform.lp (with_number (outside_of other) set) (with_number beyond set) (moved set) ∙ plain.lp.same (with_number beyond set) set (gone set))))
      (same_number (added_count f set) (added_count f (with_number (outside_of other) set))
      (sym (uniform.adds (with_number (outside_of other) set) (with_number beyond set) (moved set) ∙ plain.adds.same (with_number beyond set) set (gone set))))
      (any_none (λ c. not (beq (carries f c set) (carries f c (with_number (outside_of other) set)))) other (λ c h.
      differs_not (carries f c set) (carries f c (with_number (outside_of other) set)) (carried_same c (in_has other c h) set)))
    where
      neither : (a b c : Bool) → a ≡ true → b ≡ true → c ≡ false → not a || (not b || c) ≡ false
      neither true true c e e' e'' = e''
      neither true false c e e' e'' = absurd cc
      neither false b c e e' e'' = absurd cc

  pub independent_over : depends_on_others other f ≡ false
  unfolding depends_on_others
  independent_over = any_none (differs_with_outside other f) (sets_of other) (λ set h. nothing_differs set)

module _ (universe other : List ℕ) (up : IsAscending universe) (other_up : IsAscending other) (f : List ℕ → Option Imported) (uniform : IsUniform universe f)
    (uniform' : IsUniform other f) where
  alike : depends_on_others universe f ≡ false → canonical_of universe f ≡ canonical_of other f
  alike e =
      let plain = uniform_plain universe f uniform e in
      one_canonical universe other up other_up f plain (uniform_plain other f uniform' (independent_over universe other f plain uniform'))

  no_lists : (us : List ℕ) → depends_on_others us f ≡ true → canonical_of us f ≡ None
  unfolding canonical_of
  no_lists us e = rw e refl

  pub one_over_both : canonical_of universe f ≡ canonical_of other f
  one_over_both = by (depends_on_others universe f) (depends_on_others other f) refl refl
    where
      by : (a b : Bool) → depends_on_others universe f ≡ a → depends_on_others other f ≡ b → canonical_of universe f ≡ canonical_of other f
      by false b e e' = alike e
      by true true e e' = no_lists universe e ∙ sym (no_lists other e')
      by true false e e' =
          let here = independent_over other universe f (uniform_plain other f uniform' e') uniform in
          absurd (let wrong : true ≡ false = sym e ∙ here in cc)
