-- One more key has its number, or gets the next one if it is new.
use Rattle.std.proofs.Common.{◌≡◌, ◌≢◌, ℕ, ◌+◌, ◌<◌, ◌≤◌, Bool, true, false, cond, ◌||◌, nat_eq, List, [], ◌∷◌, ◌++◌, length, get_or, take, map, max, Option, Some, None, refl, sym, ◌∙◌, ap, arith, inl, inr}
use Rattle.std.specs.Prelude.{◌⊎◌}
use Rattle.std.proofs.lemmas.Bool.{cases_eq}
use Rattle.std.proofs.lemmas.List.{take_more, length_push, map-append}
use Rattle.std.proofs.lemmas.List.Folds.{list_any-append}
use Rattle.base_kit.specs.Sets.{has}
use Rattle.cut_certificate.specs.Blocks.{with_new, place_among, number_among}
use Rattle.cut_certificate.proofs.Seen.{front, front_next, front_place, has_with_own, has_left, with_old, with_next, place_left, place_new, place_below, other_test}

-- the number that a key has so far
abbrev pub so_far : List ℕ → ℕ → Option ℕ
so_far seen key = cond (has seen key) (Some (place_among seen key + 1)) None

pub record AreNumbered (keys numbers : List ℕ) (count i : ℕ) (names : ℕ → Option ℕ) : Type 0 where
  pub few : count ≡ length (front keys i)
  pub small : count ≤ i
  pub known : (q : ℕ) → names q ≡ so_far (front keys i) q
  pub numbers_are : numbers ≡ map (number_among keys) (take i keys)

pub none_numbered : (keys : List ℕ) (names : ℕ → Option ℕ) → ((q : ℕ) → names q ≡ None) → AreNumbered keys [] 0 0 names
none_numbered keys names none = record { few = refl; small = omega arith; known = none; numbers_are = refl }

so_far_old : (seen : List ℕ) (key : ℕ) → has seen key ≡ true → so_far seen key ≡ Some (place_among seen key + 1)
so_far_old seen key e = rw e refl

so_far_new : (seen : List ℕ) (key : ℕ) → has seen key ≡ false → so_far seen key ≡ None
so_far_new seen key e = rw e refl

some_same : (a b : ℕ) → Some a ≡ Some b → a ≡ b
some_same a b e = cc

-- another key has the same number, or none, when one is added
so_far_other : (seen : List ℕ) (key q : ℕ) → q ≢ key → so_far (seen ++ key ∷ []) q ≡ so_far seen q
so_far_other seen key q ne = by (has seen q) refl
  where
    none_more : (seen : List ℕ) → has seen q ≡ false → has (seen ++ key ∷ []) q ≡ false
    none_more seen e = list_any-append (λ other. nat_eq other q) seen (key ∷ []) ∙ ap (λ b. b || has (key ∷ []) q) e
        ∙ ap (λ b. b || false) (other_test key q (λ same. ne (sym same)))

    by : (b : Bool) → has seen q ≡ b → so_far (seen ++ key ∷ []) q ≡ so_far seen q
    by true e = so_far_old (seen ++ key ∷ []) q (has_left seen (key ∷ []) q e) ∙ ap (λ k. Some (k + 1)) (place_left seen (key ∷ []) q e)
        ∙ sym (so_far_old seen q e)
    by false e = so_far_new (seen ++ key ∷ []) q (none_more seen e) ∙ sym (so_far_new seen q e)

pub next_numbered : (keys numbers more : List ℕ) (count next i key number : ℕ) (old new : ℕ → Option ℕ)
    → AreNumbered keys numbers count i old → i < length keys → key ≡ get_or keys i 0
    → new key ≡ Some number → ((q : ℕ) → q ≢ key → new q ≡ old q) → ((old key ≡ Some number) ⊎ ((old key ≡ None) × (number ≡ count + 1)))
    → more ≡ numbers ++ number ∷ [] → next ≡ max count number
    → AreNumbered keys more next (i + 1) new
next_numbered keys numbers more count next i key number old new are inside is named others was pushed most = record {
  few = few_by (has seen key) refl;
  small = small_by (has seen key) refl;
  known = λ q. elim (cases_eq q key) [
    | inl e ↦ ap new e ∙ named ∙ ap (λ k. Some k) (number_is (has seen key) refl) ∙ sym (so_far_old further key own) ∙ ap (so_far further) (sym e)
    | inr ne ↦ others q ne ∙ are.known q ∙ known_other q ne (has seen key) refl
  ];
  numbers_are = pushed ∙ ap (λ (ns : List ℕ). ns ++ number ∷ []) are.numbers_are ∙ ap (λ k. map (number_among keys) (take i keys) ++ k ∷ []) final
      ∙ sym (ap (map (number_among keys)) (take_more keys i 0 inside) ∙ map-append (number_among keys) (take i keys) (get_or keys i 0 ∷ []));
}
  where
    seen : List ℕ
    seen = front keys i

    further : List ℕ
    further = front keys (i + 1)

    further_is : further ≡ with_new seen key
    further_is = front_next keys i key inside is

    own : has further key ≡ true
    own = ap (λ s. has s key) further_is ∙ has_with_own seen key

    known_other : (q : ℕ) → q ≢ key → (b : Bool) → has seen key ≡ b → so_far seen q ≡ so_far further q
    known_other q ne true e = ap (λ s. so_far s q) (sym (further_is ∙ with_old seen key e))
    known_other q ne false e = sym (ap (λ s. so_far s q) (further_is ∙ with_next seen key e) ∙ so_far_other seen key q ne)

    number_is : (b : Bool) → has seen key ≡ b → number ≡ place_among further key + 1
    number_is true e = elim was [
      | inl has' ↦ sym (some_same (place_among seen key + 1) number (sym (so_far_old seen key e) ∙ sym (are.known key) ∙ has'))
          ∙ ap (λ s. place_among s key + 1) (sym (further_is ∙ with_old seen key e))
      | inr none ↦ absurd (let f : Some (place_among seen key + 1) ≡ None = sym (so_far_old seen key e) ∙ sym (are.known key) ∙ none.0 in cc)
    ]
    number_is false e = elim was [
      | inl has' ↦ absurd (let f : Some number ≡ None = sym has' ∙ are.known key ∙ so_far_new seen key e in cc)
      | inr none ↦ none.1 ∙ ap (λ k. k + 1) (are.few ∙ sym (place_new seen key e)) ∙ ap (λ s. place_among s key + 1) (sym (further_is ∙ with_next seen key e))
    ]

    few_by : (b : Bool) → has seen key ≡ b → next ≡ length further
    few_by true e =
        let below = place_below seen key e in
        let n = number_is true e in
        let f = further_is ∙ with_old seen key e in
        let place : place_among further key ≡ place_among seen key = ap (λ s. place_among s key) f in
        let long : length further ≡ length seen = ap length f in
        omega (arith, are.few)
    few_by false e =
        let n = number_is false e in
        let f = further_is ∙ with_next seen key e in
        let place : place_among further key ≡ length seen = ap (λ s. place_among s key) f ∙ place_new seen key e in
        let long : length further ≡ length seen + 1 = ap length f ∙ length_push seen key in
        omega (arith, are.few)

    small_by : (b : Bool) → has seen key ≡ b → next ≤ i + 1
    small_by true e = let long : length further ≡ length seen = ap length (further_is ∙ with_old seen key e) in let same = few_by true e in
        omega (arith, are.few, are.small)
    small_by false e = let long : length further ≡ length seen + 1 = ap length (further_is ∙ with_next seen key e) ∙ length_push seen key in let same =
        few_by false e in omega (arith, are.few, are.small)

    final : number ≡ number_among keys (get_or keys i 0)
    final = number_is (has seen key) refl ∙ ap (λ k. k + 1) (sym (front_place keys (i + 1) key own)) ∙ ap (number_among keys) is
