-- Keys that no test finds equal stand at different places.
use Rattle.std.proofs.Common.{◌≡◌, ℕ, suc, ◌+◌, ◌<◌, Bool, true, false, List, [], ◌∷◌, ◌++◌, ◌⊎◌, length, get_or, slice_get, Some, refl, sym, ap, arith, inl, inr}
use Rattle.std.specs.List.{IsDistinct, position_or_len}
use Rattle.std.specs.Map.{keys_of}
use Rattle.indexmap.specs.IndexMap.{insert_entry}
use Rattle.std.proofs.lemmas.Option.{slice_get_cases, get_or_from_slice_get}
use Rattle.std.proofs.lemmas.Map.Keys.{apart_from_distinct}
use Rattle.distinct_values.specs.Distinct.{AreDistinct}

-- what stands at a place
pub read_get : {X : Type 0} → (xs : List X) (i : ℕ) (x : X) → slice_get xs i ≡ Some x → (i < length xs) × (get_or xs i x ≡ x)
read_get xs i x at = elim (slice_get_cases xs i).1 [
  | inl found ↦ (found.1, get_or_from_slice_get xs i x x at)
  | inr past ↦ let none = past.1 in absurd cc
]

pub distinct_places : {X : Type 0} → (e : X → X → Bool) → ((x : X) → e x x ≡ true) → (xs : List X) → IsDistinct e xs → AreDistinct xs
distinct_places e reflexive xs distinct = record {
  one_place = λ i j x at at'.
      let (inside, read) = read_get xs i x at in
      let (inside', read') = read_get xs j x at' in
      let never : (i j : ℕ) → get_or xs i x ≡ x → get_or xs j x ≡ x → j < length xs → i < j → ⊥ = λ i j read read' inside before.
      let apart = apart_from_distinct e xs i j x distinct before inside in
      let same = reflexive x in cc in
      let le : ¬ (i < j) = λ lt. never i j read read' inside' lt in
      let ge : ¬ (j < i) = λ lt. never j i read' read inside lt in
      omega arith;
}

-- a key that is put in is found at its place
module _ {K V : Type 0} (e : K → K → Bool) (sound : (x y : K) → e x y ≡ true → x ≡ y) (key : K) (v : V) where
  pub interned_at : (es : List (K × V)) → slice_get (keys_of (insert_entry e es key v)) (position_or_len (e key) (keys_of es)) ≡ Some key
  interned_at [] = refl
  interned_at (f ∷ es) = (elim (e key f.0) as
      (λ y. e key f.0 ≡ y → slice_get (keys_of (insert_entry e (f ∷ es) key v)) (position_or_len (e key) (keys_of (f ∷ es))) ≡ Some key) [
        | true ↦ λ t. rw t (ap (λ (x : K). Some x) (sym (sound key f.0 t)))
        | false ↦ λ t. let up : 1 + position_or_len (e key) (keys_of es) ≡ suc (position_or_len (e key) (keys_of es)) = omega arith in
            rw (t, up) (interned_at es)
      ]) refl

  -- and it stands last where it is new
  pub interned_last : (es : List (K × V)) → (keys_of (insert_entry e es key v) ≡ keys_of es) ⊎ (keys_of (insert_entry e es key v) ≡ keys_of es ++ key ∷ [])
  interned_last [] = inr refl
  interned_last (f ∷ es) = (elim (e key f.0) as (λ y. e key f.0 ≡ y → (keys_of (insert_entry e (f ∷ es) key v) ≡ keys_of (f ∷ es))
      ⊎ (keys_of (insert_entry e (f ∷ es) key v) ≡ keys_of (f ∷ es) ++ key ∷ [])) [
        | true ↦ λ t. inl (rw t refl)
        | false ↦ λ t. elim (interned_last es) [
          | inl same ↦ inl (rw t (ap (λ (l : List K). f.0 ∷ l) same))
          | inr more ↦ inr (rw t (ap (λ (l : List K). f.0 ∷ l) more))
        ]
      ]) refl
