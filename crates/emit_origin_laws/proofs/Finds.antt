-- What a search finds, and what holds for some item of a list.
use Rattle.std.proofs.Common.{◌≡◌, Bool, true, false, cond, ◌&&◌, ◌||◌, List, [], ◌∷◌, map, ◌⊎◌, inl, inr, Some, None, refl, sym, ap, ◌∙◌, find}
use Rattle.std.specs.List.{list_any}
use Rattle.base_kit.proofs.Elements.{In}

pub none_passes : {X : Type 0} (test : X → Bool) (xs : List X) → ((x : X) → In xs x → test x ≡ true → ⊥) → find test xs ≡ None
none_passes test [] none = refl
none_passes test (x ∷ xs) none = step (test x) refl (none_passes test xs (λ y h. none y (inr h)))
  where
    step : (b : Bool) → test x ≡ b → find test xs ≡ None → cond b (Some x) (find test xs) ≡ None
    step true is rest = absurd (none x (inl refl) is)
    step false is rest = rest

pub one_passes : {X : Type 0} (test : X → Bool) (xs : List X) (x : X) → In xs x → test x ≡ true → ((y : X) → In xs y → test y ≡ true → y ≡ x) →
    find test xs ≡ Some x
one_passes test [] x at is one = absurd at
one_passes {X} test (y ∷ ys) x at is one = step (test y) refl at (λ i. one_passes test ys x i is (λ z h f. one z (inr h) f))
  where
    step : (b : Bool) → test y ≡ b → (y ≡ x) ⊎ In ys x → (In ys x → find test ys ≡ Some x) → cond b (Some y) (find test ys) ≡ Some x
    step true e i rest = ap (λ z. Some z) (one y (inl refl) e)
    step false e (inl same) rest = absurd (let f = sym e ∙ ap test same ∙ is in cc)
    step false e (inr i) rest = rest i

pub any_passes : {X : Type 0} (test : X → Bool) (xs : List X) (x : X) → In xs x → test x ≡ true → list_any test xs ≡ true
any_passes test [] x h e = absurd h
any_passes test (y ∷ ys) x (inl same) e = ap (λ b. b || list_any test ys) (ap test same ∙ e)
any_passes test (y ∷ ys) x (inr h) e = step (test y) (any_passes test ys x h e)
  where
    step : (b : Bool) → list_any test ys ≡ true → (b || list_any test ys) ≡ true
    step true rest = refl
    step false rest = rest

pub passing : {X : Type 0} (test : X → Bool) (xs : List X) → list_any test xs ≡ true → (x : X) × In xs x × (test x ≡ true)
passing test [] e = absurd cc
passing test (x ∷ xs) e = step (test x) refl e (passing test xs)
  where
    step : (b : Bool) → test x ≡ b → (b || list_any test xs) ≡ true → (list_any test xs ≡ true → (y : _) × In xs y × (test y ≡ true)) → (y : _) × In (x ∷ xs) y
        × (test y ≡ true)
    step true is e rest = (x, inl refl, is)
    step false is e rest = let r = rest e in (r.0, inr r.1, r.2)

pub found_first : {X : Type 0} (test : X → Bool) (xs : List X) → list_any test xs ≡ true → (x : X) × (find test xs ≡ Some x)
found_first test [] e = absurd cc
found_first test (x ∷ xs) e = step (test x) refl e (found_first test xs)
  where
    step : (b : Bool) → test x ≡ b → (b || list_any test xs) ≡ true → (list_any test xs ≡ true → (y : _) × (find test xs ≡ Some y)) →
        (y : _) × (cond b (Some x) (find test xs) ≡ Some y)
    step true is e rest = (x, refl)
    step false is e rest = rest e

pub found_is : {X : Type 0} (test : X → Bool) (xs : List X) (y : X) → find test xs ≡ Some y → In xs y × (test y ≡ true)
found_is test [] y e = absurd cc
found_is test (x ∷ xs) y e = step (test x) refl e (found_is test xs y)
  where
    step : (b : Bool) → test x ≡ b → cond b (Some x) (find test xs) ≡ Some y → (find test xs ≡ Some y → In xs y × (test y ≡ true)) →
        In (x ∷ xs) y × (test y ≡ true)
    step true is e rest = let same : x ≡ y = cc in (inl same, ap test (sym same) ∙ is)
    step false is e rest = let r = rest e in (inr r.0, r.1)

pub parts : (a b : Bool) → (a && b) ≡ true → (a ≡ true) × (b ≡ true)
parts true b e = (refl, e)
parts false b e = absurd cc

pub both : (a b : Bool) → a ≡ true → b ≡ true → (a && b) ≡ true
both true b x y = y
both false b x y = absurd cc

pub not_true : (b : Bool) → (b ≡ true → ⊥) → b ≡ false
not_true true never = absurd (never refl)
not_true false never = refl

pub maps_agree : {X Y Z : Type 0} (f : X → Y) (make : Z → X) (h : Z → Y) (zs : List Z) → ((z : Z) → In zs z → f (make z) ≡ h z) → map f (map make zs) ≡ map h zs
maps_agree f make h [] same = refl
maps_agree f make h (z ∷ zs) same = let first = same z (inl refl) in let rest = maps_agree f make h zs (λ y i. same y (inr i)) in λ i. first i ∷ rest i
