-- How many pairs of items pass a test. Public: crates above may cite it.
use Rattle.std.proofs.Common.{◌≡◌, ℕ, ◌+◌, Bool, true, false, cond, List, [], ◌∷◌, ◌++◌, length, inl, inr, refl, ◌∙◌, ap, arith}
use Rattle.std.specs.Prelude.{filter}
use Rattle.base_kit.proofs.Elements.{In}

abbrev pub one_if : Bool → ℕ
one_if true = 1
one_if false = 0

-- how many items pass
abbrev pub passing : {X : Type 0} → (X → Bool) → List X → ℕ
passing p [] = 0
passing p (x ∷ xs) = one_if (p x) + passing p xs

-- how many pairs of an item of the first list and one of the second pass
abbrev pub pairs : {X Y : Type 0} → (X → Y → Bool) → List X → List Y → ℕ
pairs f [] ys = 0
pairs f (x ∷ xs) ys = passing (f x) ys + pairs f xs ys

kept : {X : Type 0} (b : Bool) (x : X) (xs : List X) → length (cond b (x ∷ xs) xs) ≡ one_if b + length xs
kept true x xs = omega arith
kept false x xs = omega arith

pub length_filter : {X : Type 0} (p : X → Bool) (xs : List X) → length (filter p xs) ≡ passing p xs
length_filter p [] = refl
length_filter p (x ∷ xs) = kept (p x) x (filter p xs) ∙ ap (λ n. one_if (p x) + n) (length_filter p xs)

pub passing_append : {X : Type 0} (p : X → Bool) (xs ys : List X) → passing p (xs ++ ys) ≡ passing p xs + passing p ys
passing_append p [] ys = omega arith
passing_append p (x ∷ xs) ys = let r = passing_append p xs ys in omega arith

pub passing_same : {X : Type 0} (p q : X → Bool) (xs : List X) → ((x : X) → In xs x → p x ≡ q x) → passing p xs ≡ passing q xs
passing_same p q [] same = refl
passing_same p q (x ∷ xs) same = ap (λ b. one_if b + passing p xs) (same x (inl refl))
    ∙ ap (λ n. one_if (q x) + n) (passing_same p q xs (λ y at. same y (inr at)))

pub none_passing : {X : Type 0} (p : X → Bool) (xs : List X) → ((x : X) → In xs x → p x ≡ false) → passing p xs ≡ 0
none_passing p [] fails = refl
none_passing p (x ∷ xs) fails = ap (λ b. one_if b + passing p xs) (fails x (inl refl)) ∙ (let r = none_passing p xs (λ y at. fails y (inr at)) in omega arith)

pub pairs_append_left : {X Y : Type 0} (f : X → Y → Bool) (xs more : List X) (ys : List Y) → pairs f (xs ++ more) ys ≡ pairs f xs ys + pairs f more ys
pairs_append_left f [] more ys = omega arith
pairs_append_left f (x ∷ xs) more ys = let r = pairs_append_left f xs more ys in omega arith

pub pairs_append_right : {X Y : Type 0} (f : X → Y → Bool) (xs : List X) (ys more : List Y) → pairs f xs (ys ++ more) ≡ pairs f xs ys + pairs f xs more
pairs_append_right f [] ys more = omega arith
pairs_append_right f (x ∷ xs) ys more = let r = pairs_append_right f xs ys more in let s = passing_append (f x) ys more in omega arith

pub pairs_same : {X Y : Type 0} (f g : X → Y → Bool) (xs : List X) (ys : List Y) → ((x : X) (y : Y) → In xs x → In ys y → f x y ≡ g x y) →
    pairs f xs ys ≡ pairs g xs ys
pairs_same f g [] ys same = refl
pairs_same f g (x ∷ xs) ys same = let r = pairs_same f g xs ys (λ z y at in_ys. same z y (inr at) in_ys) in let s =
    passing_same (f x) (g x) ys (λ y at. same x y (inl refl) at) in omega arith

pub no_pairs : {X Y : Type 0} (f : X → Y → Bool) (xs : List X) (ys : List Y) → ((x : X) (y : Y) → In xs x → In ys y → f x y ≡ false) → pairs f xs ys ≡ 0
no_pairs f [] ys fails = refl
no_pairs f (x ∷ xs) ys fails = let r = no_pairs f xs ys (λ z y at in_ys. fails z y (inr at) in_ys) in let s =
    none_passing (f x) ys (λ y at. fails x y (inl refl) at) in omega arith

no_partner : {X Y : Type 0} (f : X → Y → Bool) (xs : List X) → pairs f xs [] ≡ 0
no_partner f [] = refl
no_partner f (x ∷ xs) = let r = no_partner f xs in omega arith

one_partner_more : {X Y : Type 0} (f : X → Y → Bool) (xs : List X) (y : Y) (ys : List Y) → pairs f xs (y ∷ ys) ≡ passing (λ x. f x y) xs + pairs f xs ys
one_partner_more f [] y ys = omega arith
one_partner_more f (x ∷ xs) y ys = let r = one_partner_more f xs y ys in omega arith

-- the same pairs, the second list gone through first
pub pairs_turned : {X Y : Type 0} (f : X → Y → Bool) (xs : List X) (ys : List Y) → pairs f xs ys ≡ pairs (λ y x. f x y) ys xs
pairs_turned f xs [] = no_partner f xs
pairs_turned f xs (y ∷ ys) = one_partner_more f xs y ys ∙ ap (λ n. passing (λ x. f x y) xs + n) (pairs_turned f xs ys)
