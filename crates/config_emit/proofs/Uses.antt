-- The maps of a router by first use.
use Rattle.std.proofs.Common.{◌≡◌, ℕ, ◌+◌, ◌<◌, Bool, true, false, cond, List, [], ◌∷◌, ◌++◌, length, drop, get_or, Option, Some, None, nat_eq, refl, sym, ◌∙◌, ap, arith}
use Rattle.std.specs.Prelude.{flat_map}
use Rattle.std.specs.HashMap.{get}
use Rattle.std.specs.Option.{option_or}
use Rattle.route_maps.specs.declared.plain.Plain.{Plain}
use Rattle.config_emit.specs.MapNumbers.{place_from}
use Rattle.config_emit.specs.RouterMaps.{is_use_of, with_use, with_uses, PlacesByNumber, AreUses}
use Rattle.config_emit.proofs.ListSteps.{drop_turn, same_numbers}
use Rattle.config_emit.proofs.MapPlaces.{place_append, placed, absent}

pub use_known : (uses : List (ℕ × Plain)) (n k : ℕ) (m : Plain) → place_from (is_use_of n) 1 uses ≡ Some k → uses ≡ with_use (n, m) uses
use_known uses n k m e = sym (ap (λ b. cond b uses (uses ++ (n, m) ∷ [])) (placed (is_use_of n) 1 uses k e).any)

pub use_new : (uses : List (ℕ × Plain)) (n : ℕ) (m : Plain) → place_from (is_use_of n) 1 uses ≡ None → uses ++ (n, m) ∷ [] ≡ with_use (n, m) uses
use_new uses n m e = sym (ap (λ b. cond b uses (uses ++ (n, m) ∷ [])) (absent (is_use_of n) 1 uses e))

pub use_added : (old new : PlacesByNumber) (uses : List (ℕ × Plain)) (n k : ℕ) (m : Plain) → k ≡ length uses + 1 → place_from (is_use_of n) 1 uses ≡ None
    → ((i : ℕ) → get nat_eq new i ≡ cond (nat_eq n i) (Some k) (get nat_eq old i)) → AreUses old uses → AreUses new (uses ++ (n, m) ∷ [])
use_added old new uses n k m at none put are = record {
  each = λ i. put i ∙ ap (cond (nat_eq n i) (Some k)) (are.each i) ∙ step i (nat_eq n i) refl ∙ sym (place_append (is_use_of i) 1 uses (n, m));
} where
  no_more : (o : Option ℕ) → o ≡ option_or o None
  no_more None = refl
  no_more (Some x) = refl

  step : (i : ℕ) (b : Bool) → nat_eq n i ≡ b →
      cond b (Some k) (place_from (is_use_of i) 1 uses) ≡ option_or (place_from (is_use_of i) 1 uses) (cond b (Some (1 + length uses)) None)
  step i true e =
      ap (λ x. Some x) (let here : k ≡ 1 + length uses = omega (arith, at) in here)
      ∙ ap (λ o. option_or o (Some (1 + length uses))) (sym (ap (λ j. place_from (is_use_of j) 1 uses) (sym (same_numbers n i e)) ∙ none))
  step i false e = no_more (place_from (is_use_of i) 1 uses)

pub uses_append : (us more found : List (ℕ × Plain)) → with_uses (us ++ more) found ≡ with_uses more (with_uses us found)
uses_append [] more found = refl
uses_append (u ∷ us) more found = uses_append us more (with_use u found)

pub uses_turn : {X : Type 0} (f : X → List (ℕ × Plain)) (xs : List X) (i : ℕ) (d : X) (found new : List (ℕ × Plain)) → i < length xs →
    new ≡ with_uses (f (get_or xs i d)) found
    → with_uses (flat_map f (drop (i + 1) xs)) new ≡ with_uses (flat_map f (drop i xs)) found
uses_turn f xs i d found new below is =
    ap (with_uses (flat_map f (drop (i + 1) xs))) is
    ∙ sym (uses_append (f (get_or xs i d)) (flat_map f (drop (i + 1) xs)) found)
    ∙ ap (λ ys. with_uses (flat_map f ys) found) (sym (drop_turn xs i d below))
