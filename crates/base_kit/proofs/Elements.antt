-- The elements of the lists that `map`, `filter`, `flat_map` and the like give.
use Rattle.std.proofs.Common.{◌≡◌, ℕ, zero, suc, ◌+◌, ◌<◌, Bool, true, false, cond, List, [], ◌∷◌, ◌++◌, map, length, ◌⊎◌, inl, inr, Option, Some, None, refl, sym, ◌∙◌, ap, subst, arith, add-zero}
use Rattle.std.specs.Prelude.{Contains, filter, filter_map, flat_map, slice_get, slice_index_or}
use Rattle.std.specs.List.{enumerate_from, range_with_len, cons_option}

abbrev pub In : {X : Type 0} → List X → X → Type 0
In [] x = ⊥
In (y ∷ ys) x = (y ≡ x) ⊎ In ys x

pub contains_in : {X : Type 0} (xs : List X) (x : X) → In xs x → Contains xs x
contains_in [] x h = absurd h
contains_in (y ∷ ys) x (inl e) = (zero, omega arith, e)
contains_in (y ∷ ys) x (inr h) = let c = contains_in ys x h in (suc c.0, omega (arith, c.1), c.2)

pub in_at : {X : Type 0} (xs : List X) (x : X) (k : ℕ) → k < length xs → slice_index_or xs k x ≡ x → In xs x
in_at [] x k h e = absurd (omega arith)
in_at (y ∷ ys) x zero h e = inl e
in_at (y ∷ ys) x (suc k) h e = inr (in_at ys x k (omega arith) e)

pub in_contains : {X : Type 0} (xs : List X) (x : X) → Contains xs x → In xs x
in_contains xs x c = in_at xs x c.0 c.1 c.2

pub in_map : {X Y : Type 0} (f : X → Y) (xs : List X) (x : X) → In xs x → In (map f xs) (f x)
in_map f [] x h = h
in_map f (y ∷ ys) x (inl e) = inl (ap f e)
in_map f (y ∷ ys) x (inr h) = inr (in_map f ys x h)

pub map_in : {X Y : Type 0} (f : X → Y) (xs : List X) (y : Y) → In (map f xs) y → (x : X) × In xs x × (f x ≡ y)
map_in f [] y h = absurd h
map_in f (x ∷ xs) y (inl e) = (x, inl refl, e)
map_in f (x ∷ xs) y (inr h) = let r = map_in f xs y h in (r.0, inr r.1, r.2)

keep_in : {X : Type 0} (b : Bool) (y : X) (ys : List X) (x : X) → In ys x → In (cond b (y ∷ ys) ys) x
keep_in true y ys x h = inr h
keep_in false y ys x h = h

kept_in : {X : Type 0} (b : Bool) (y : X) (ys : List X) → b ≡ true → In (cond b (y ∷ ys) ys) y
kept_in true y ys e = inl refl
kept_in false y ys e = cc

pub in_filter : {X : Type 0} (p : X → Bool) (xs : List X) (x : X) → In xs x → p x ≡ true → In (filter p xs) x
in_filter p [] x h e = h
in_filter {X} p (y ∷ ys) x (inl same) e = let P : X → Type 0 = λ z. In (cond (p y) (y ∷ filter p ys) (filter p ys)) z in
    subst P same (kept_in (p y) y (filter p ys) (ap p same ∙ e))
in_filter p (y ∷ ys) x (inr h) e = keep_in (p y) y (filter p ys) x (in_filter p ys x h e)

filter_in_step : {X : Type 0} (p : X → Bool) (y : X) (ys : List X) (x : X) (b : Bool) → p y ≡ b → (In (filter p ys) x → In ys x × (p x ≡ true)) →
    In (cond b (y ∷ filter p ys) (filter p ys)) x → In (y ∷ ys) x × (p x ≡ true)
filter_in_step p y ys x true e ih (inl same) = (inl same, sym (ap p same) ∙ e)
filter_in_step p y ys x true e ih (inr h) = (inr (ih h).0, (ih h).1)
filter_in_step p y ys x false e ih h = (inr (ih h).0, (ih h).1)

pub filter_in : {X : Type 0} (p : X → Bool) (xs : List X) (x : X) → In (filter p xs) x → In xs x × (p x ≡ true)
filter_in p [] x h = absurd h
filter_in p (y ∷ ys) x h = filter_in_step p y ys x (p y) refl (filter_in p ys x) h

pub in_left : {X : Type 0} (xs ys : List X) (x : X) → In xs x → In (xs ++ ys) x
in_left [] ys x h = absurd h
in_left (z ∷ zs) ys x (inl e) = inl e
in_left (z ∷ zs) ys x (inr h) = inr (in_left zs ys x h)

pub in_right : {X : Type 0} (xs ys : List X) (x : X) → In ys x → In (xs ++ ys) x
in_right [] ys x h = h
in_right (z ∷ zs) ys x h = inr (in_right zs ys x h)

pub append_in : {X : Type 0} (xs ys : List X) (x : X) → In (xs ++ ys) x → In xs x ⊎ In ys x
append_in [] ys x h = inr h
append_in (z ∷ zs) ys x (inl e) = inl (inl e)
append_in (z ∷ zs) ys x (inr h) = elim (append_in zs ys x h) [ inl a ↦ inl (inr a) | inr b ↦ inr b ]

pub in_flat_map : {X Y : Type 0} (f : X → List Y) (xs : List X) (x : X) (y : Y) → In xs x → In (f x) y → In (flat_map f xs) y
in_flat_map f [] x y h k = absurd h
in_flat_map {X} f (z ∷ zs) x y (inl e) k = in_left (f z) (flat_map f zs) y (let P : X → Type 0 = λ w. In (f w) y in subst P (sym e) k)
in_flat_map f (z ∷ zs) x y (inr h) k = in_right (f z) (flat_map f zs) y (in_flat_map f zs x y h k)

pub flat_map_in : {X Y : Type 0} (f : X → List Y) (xs : List X) (y : Y) → In (flat_map f xs) y → (x : X) × In xs x × In (f x) y
flat_map_in f [] y h = absurd h
flat_map_in f (z ∷ zs) y h = elim (append_in (f z) (flat_map f zs) y h)
    [ inl a ↦ (z, inl refl, a) | inr b ↦ (let r = flat_map_in f zs y b in (r.0, inr r.1, r.2)) ]

in_cons_option : {X : Type 0} (o : Option X) (ys : List X) (y : X) → In ys y → In (cons_option o ys) y
in_cons_option None ys y h = h
in_cons_option (Some x) ys y h = inr h

in_cons_some : {X : Type 0} (o : Option X) (ys : List X) (y : X) → o ≡ Some y → In (cons_option o ys) y
in_cons_some None ys y e = cc
in_cons_some (Some x) ys y e = inl (cc)

pub in_filter_map : {X Y : Type 0} (f : X → Option Y) (xs : List X) (x : X) (y : Y) → In xs x → f x ≡ Some y → In (filter_map f xs) y
in_filter_map f [] x y h e = h
in_filter_map f (z ∷ zs) x y (inl same) e = in_cons_some (f z) (filter_map f zs) y (ap f same ∙ e)
in_filter_map f (z ∷ zs) x y (inr h) e = in_cons_option (f z) (filter_map f zs) y (in_filter_map f zs x y h e)

filter_map_in_step : {X Y : Type 0} (f : X → Option Y) (z : X) (zs : List X) (y : Y) (o : Option Y) → f z ≡ o →
    (In (filter_map f zs) y → (x : X) × In zs x × (f x ≡ Some y)) → In (cons_option o (filter_map f zs)) y → (x : X) × In (z ∷ zs) x × (f x ≡ Some y)
filter_map_in_step f z zs y None e ih h = let r = ih h in (r.0, inr r.1, r.2)
filter_map_in_step f z zs y (Some x) e ih (inl same) = (z, inl refl, e ∙ ap Some same)
filter_map_in_step f z zs y (Some x) e ih (inr h) = let r = ih h in (r.0, inr r.1, r.2)

pub filter_map_in : {X Y : Type 0} (f : X → Option Y) (xs : List X) (y : Y) → In (filter_map f xs) y → (x : X) × In xs x × (f x ≡ Some y)
filter_map_in f [] y h = absurd h
filter_map_in f (z ∷ zs) y h = filter_map_in_step f z zs y (f z) refl (filter_map_in f zs y) h

-- each element with its place
pub in_enumerate : {X : Type 0} (xs : List X) (n k : ℕ) (x : X) → slice_get xs k ≡ Some x → In (enumerate_from n xs) (n + k, x)
in_enumerate [] n k x e = cc
in_enumerate {X} (y ∷ ys) n zero x e = inl (let same : y ≡ x = cc in let P : X → Type 0 = λ z. ◌≡◌ {A = ℕ × X} (n, y) (n + 0, z) in subst P same (rw add-zero))
in_enumerate {X} (y ∷ ys) n (suc k) x e =
    inr (let P : ℕ → Type 0 = λ m. In (enumerate_from (n + 1) ys) (m, x) in let same : n + 1 + k ≡ n + suc k = omega arith in
    subst P same (in_enumerate ys (n + 1) k x e))

pub enumerate_in : {X : Type 0} (xs : List X) (n m : ℕ) (x : X) → In (enumerate_from n xs) (m, x) → (k : ℕ) × (m ≡ n + k) × (slice_get xs k ≡ Some x)
enumerate_in [] n m x h = absurd h
enumerate_in (y ∷ ys) n m x (inl e) = (zero, sym (ap (λ p. p.0) e) ∙ omega arith, ap Some (ap (λ p. p.1) e))
enumerate_in (y ∷ ys) n m x (inr h) = let r = enumerate_in ys (n + 1) m x h in (suc r.0, (let e = r.1 in omega arith), r.2)

pub in_range : (a n k : ℕ) → k < n → In (range_with_len a n) (a + k)
in_range a zero k h = absurd (omega arith)
in_range a (suc n) zero h = inl (omega arith)
in_range a (suc n) (suc k) h = inr (let P : ℕ → Type 0 = λ m. In (range_with_len (a + 1) n) m in let same : a + 1 + k ≡ a + suc k = omega arith in
    subst P same (in_range (a + 1) n k (omega arith)))

pub range_in : (a n m : ℕ) → In (range_with_len a n) m → m < a + n
range_in a zero m h = absurd h
range_in a (suc n) m (inl e) = omega arith
range_in a (suc n) m (inr h) = let r = range_in (a + 1) n m h in omega arith

pub get_in : {X : Type 0} (xs : List X) (k : ℕ) (x : X) → slice_get xs k ≡ Some x → In xs x
get_in [] k x e = cc
get_in (y ∷ ys) zero x e = inl (cc)
get_in (y ∷ ys) (suc k) x e = inr (get_in ys k x e)

pub in_get : {X : Type 0} (xs : List X) (x : X) → In xs x → (k : ℕ) × (slice_get xs k ≡ Some x)
in_get [] x h = absurd h
in_get (y ∷ ys) x (inl e) = (zero, ap Some e)
in_get (y ∷ ys) x (inr h) = let r = in_get ys x h in (suc r.0, r.1)
