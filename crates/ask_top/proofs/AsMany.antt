-- Problems that are alike have as many solutions.
use Rattle.std.proofs.Common.{◌≡◌, ℕ, suc, zero, ◌<◌, ◌≤◌, List, [], ◌∷◌, length, Option, Some, None, refl, sym, ap, ◌∙◌, subst, arith, inl, inr, ◌⊎◌, slice_get}
use Rattle.base_kit.proofs.Elements.{In, contains_in, in_contains, in_get}
use Rattle.srp_core.specs.declared.route.Route.{Route}
use Rattle.srp_core.specs.Alike.{ProblemsAlike}
use Rattle.srp_core.specs.Problem.{Problem, count, key_of}
use Rattle.srp_core.specs.Solutions.{AreAllSolutions, HaveEqualKeys}
use Rattle.srp_core.specs.Stability.{label, HaveSameKeys, both_none, both_some}
use Rattle.srp_core.proofs.Alike.{inside, one_key, same_stable, turned}

-- ---- lists

-- the list without one of its items
split : {X : Type 0} (ys : List X) (y : X) → In ys y → (zs : List X) × (length ys ≡ suc (length zs)) × ((z : X) → In ys z → (z ≡ y) ⊎ In zs z)
split [] y at = absurd at
split (w ∷ ws) y (inl same) = (ws, refl, λ z at. elim at [ inl here ↦ inl (sym here ∙ same) | inr there ↦ inr there ])
split (w ∷ ws) y (inr at) =
    let r = split ws y at in (
      w ∷ r.0,
      ap suc r.1,
      λ z at_z. elim at_z [ inl here ↦ inr (inl here) | inr there ↦ elim (r.2 z there) [ inl same ↦ inl same | inr rest ↦ inr (inr rest) ] ],
    )

-- no later item goes with what an item goes with
abbrev AreApart : {X : Type 0} → (X → X → Type 0) → List X → Type 0
AreApart S [] = Unit {0}
AreApart {X} S (x ∷ xs) = ((z y : X) → In xs z → S x y → S z y → ⊥) × AreApart S xs

are_apart : {X : Type 0} (S : X → X → Type 0) (xs : List X) →
    ((i j : ℕ) (x z y : X) → i < j → slice_get xs i ≡ Some x → slice_get xs j ≡ Some z → S x y → S z y → ⊥) → AreApart S xs
are_apart S [] apart = tt
are_apart S (x ∷ xs) apart = (
  λ z y at s t. (let k = in_get xs z at in apart 0 (suc k.0) x z y (omega arith) refl k.1 s t),
  are_apart S xs (λ i j a b y less at_a at_b. apart (suc i) (suc j) a b y (omega arith) at_a at_b),
)

-- items each of which goes with one of the others, no two with the same, are no more than those
as_few : {X : Type 0} (S : X → X → Type 0) (xs ys : List X) → ((x : X) → In xs x → (y : X) × In ys y × S x y) → AreApart S xs → length xs ≤ length ys
as_few S [] ys each apart = omega arith
as_few S (x ∷ xs) ys each apart =
    let m = each x (inl refl) in
    let r = split ys m.0 m.1 in
    let rest = as_few S xs r.0
    (λ z at. (
    let w = each z (inr at) in
    elim (r.2 w.0 w.1) [
      | inl same ↦ absurd (apart.0 z m.0 at m.2 (subst (S z) same w.2))
      | inr there ↦ (w.0, there, w.2)
    ]))
    apart.1 in
    let total = r.1 in
    omega (arith, rest, total)

-- ---- solutions

module _ (P Q : Problem) (same : ProblemsAlike P Q) (xs ys : List (List (Option Route))) (a : AreAllSolutions P xs) (b : AreAllSolutions Q ys) where
  -- routes of the key of one route have one key
  keys_meet : (x y z : Option Route) → HaveSameKeys Q Q x y → HaveSameKeys Q Q z y → HaveSameKeys P P x z
  keys_meet x y z (both_none x_none y_none) (both_none z_none other) = both_none x_none z_none
  keys_meet x y z (both_none x_none y_none) (both_some r s z_is y_is keys) = absurd (cc)
  keys_meet x y z (both_some r s x_is y_is keys) (both_none z_none y_none) = absurd (cc)
  keys_meet x y z (both_some r s x_is y_is keys) (both_some t w z_is y_too others) =
      let one : s ≡ w = cc in
      both_some r t x_is z_is (one_key P Q same r ∙ keys ∙ ap (key_of Q) one ∙ sym others ∙ sym (one_key P Q same t))

  meet : (x y z : List (Option Route)) → HaveEqualKeys Q x y → HaveEqualKeys Q z y → HaveEqualKeys P x z
  meet x y z s t u h = keys_meet (label x u) (label y u) (label z u) (s u (inside P Q same u h)) (t u (inside P Q same u h))

  goes_with : (x : List (Option Route)) → In xs x → (y : List (Option Route)) × In ys y × HaveEqualKeys Q x y
  goes_with x at =
      let m = b.all x (same_stable P Q same x (a.stable x (contains_in xs x at))) in
      (m.member, in_contains ys m.member m.inside, m.keys)

  no_more : length xs ≤ length ys
  no_more = as_few (HaveEqualKeys Q) xs ys goes_with (are_apart (HaveEqualKeys Q) xs
      (λ i j x z y less at_x at_z s t. a.apart i j x z less at_x at_z (meet x y z s t)))

pub as_many : (P Q : Problem) → ProblemsAlike P Q → (xs ys : List (List (Option Route))) → AreAllSolutions P xs → AreAllSolutions Q ys → length xs ≡ length ys
as_many P Q same xs ys a b =
    let forth = no_more P Q same xs ys a b in
    let back = no_more Q P (turned P Q same) ys xs b a in
    omega (arith, forth, back)
