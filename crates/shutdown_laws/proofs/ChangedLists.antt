-- Lists with one item changed, and lists from which some items are left out.
use Rattle.std.proofs.Common.{◌≡◌, ◌≢◌, ℕ, zero, suc, ◌<◌, Bool, true, false, cond, ◌&&◌, List, [], ◌∷◌, ◌++◌, length, take, map, Option, Some, refl, sym, ◌∙◌, ap, arith, inl, inr, ◌⊎◌}
use Rattle.std.specs.Prelude.{filter, flat_map, slice_get, slice_index_or}
use Rattle.base_kit.proofs.Elements.{In}
use Rattle.shutdown_laws.specs.Shutdown.{changed_at}

-- ---- one item changed

pub map_changed : {X Y : Type 0} (g : X → Y) (f : X → X) → ((x : X) → g (f x) ≡ g x) → (k : ℕ) (xs : List X) → map g (changed_at f k xs) ≡ map g xs
map_changed g f same k [] = refl
map_changed g f same zero (x ∷ xs) = ap (λ y. y ∷ map g xs) (same x)
map_changed g f same (suc k) (x ∷ xs) = ap (λ ys. g x ∷ ys) (map_changed g f same k xs)

pub flat_map_changed : {X Y : Type 0} (g : X → List Y) (f : X → X) → ((x : X) → g (f x) ≡ g x) → (k : ℕ) (xs : List X) →
    flat_map g (changed_at f k xs) ≡ flat_map g xs
flat_map_changed g f same k [] = refl
flat_map_changed g f same zero (x ∷ xs) = ap (λ ys. ys ++ flat_map g xs) (same x)
flat_map_changed g f same (suc k) (x ∷ xs) = ap (λ ys. g x ++ ys) (flat_map_changed g f same k xs)

pub at_place : {X : Type 0} (f : X → X) (k : ℕ) (xs : List X) (x : X) → slice_get xs k ≡ Some x → slice_get (changed_at f k xs) k ≡ Some (f x)
at_place f k [] x e = absurd cc
at_place {X} f zero (y ∷ ys) x e = let same : y ≡ x = cc in ap (λ z. Some (f z)) same
at_place f (suc k) (y ∷ ys) x e = at_place f k ys x e

pub at_other : {X : Type 0} (f : X → X) (k : ℕ) (xs : List X) (j : ℕ) → j ≢ k → slice_get (changed_at f k xs) j ≡ slice_get xs j
at_other f k [] j other = refl
at_other f zero (x ∷ xs) zero other = absurd (other refl)
at_other f zero (x ∷ xs) (suc j) other = refl
at_other f (suc k) (x ∷ xs) zero other = refl
at_other f (suc k) (x ∷ xs) (suc j) other = at_other f k xs j (λ e. other (ap suc e))

-- what the place held before
pub was_there : {X : Type 0} (f : X → X) (k : ℕ) (xs : List X) (y : X) → slice_get (changed_at f k xs) k ≡ Some y →
    (x : X) × (slice_get xs k ≡ Some x) × (y ≡ f x)
was_there f k [] y e = absurd cc
was_there {X} f zero (x ∷ xs) y e = (x, refl, (let same : f x ≡ y = cc in sym same))
was_there f (suc k) (x ∷ xs) y e = was_there f k xs y e

-- an item of the changed list is one of the list, maybe changed
pub changed_in : {X : Type 0} (f : X → X) (k : ℕ) (xs : List X) (y : X) → In (changed_at f k xs) y → (x : X) × In xs x × ((x ≡ y) ⊎ (f x ≡ y))
changed_in f k [] y at = absurd at
changed_in f zero (x ∷ xs) y (inl same) = (x, inl refl, inr same)
changed_in f zero (x ∷ xs) y (inr at) = (y, inr at, inl refl)
changed_in f (suc k) (x ∷ xs) y (inl same) = (x, inl refl, inl same)
changed_in f (suc k) (x ∷ xs) y (inr at) = let r = changed_in f k xs y at in (r.0, inr r.1, r.2)

-- ---- some items left out

pub filter_map_of : {X Y : Type 0} (p : Y → Bool) (g : X → Y) (xs : List X) → filter p (map g xs) ≡ map g (filter (λ x. p (g x)) xs)
filter_map_of p g [] = refl
filter_map_of {X} {Y} p g (x ∷ xs) = by (p (g x)) (filter_map_of p g xs)
  where
    by : (b : Bool) → filter p (map g xs) ≡ map g (filter (λ z. p (g z)) xs) →
        cond b (g x ∷ filter p (map g xs)) (filter p (map g xs)) ≡ map g (cond b (x ∷ filter (λ z. p (g z)) xs) (filter (λ z. p (g z)) xs))
    by true rest = ap (λ ys. g x ∷ ys) rest
    by false rest = rest

pub filter_same : {X : Type 0} (p q : X → Bool) (xs : List X) → ((x : X) → p x ≡ q x) → filter p xs ≡ filter q xs
filter_same p q [] same = refl
filter_same p q (x ∷ xs) same = ap (λ b. cond b (x ∷ filter p xs) (filter p xs)) (same x)
    ∙ ap (λ rest. cond (q x) (x ∷ rest) rest) (filter_same p q xs same)

pub filter_twice : {X : Type 0} (p q : X → Bool) (xs : List X) → filter (λ x. p x && q x) xs ≡ filter q (filter p xs)
filter_twice p q [] = refl
filter_twice {X} p q (x ∷ xs) = by (p x) (filter_twice p q xs)
  where
    by : (b : Bool) → filter (λ z. p z && q z) xs ≡ filter q (filter p xs) →
        cond (b && q x) (x ∷ filter (λ z. p z && q z) xs) (filter (λ z. p z && q z) xs) ≡ filter q (cond b (x ∷ filter p xs) (filter p xs))
    by true rest = ap (λ r. cond (q x) (x ∷ r) r) rest
    by false rest = rest

pub filter_append : {X : Type 0} (p : X → Bool) (xs ys : List X) → filter p (xs ++ ys) ≡ filter p xs ++ filter p ys
filter_append p [] ys = refl
filter_append {X} p (x ∷ xs) ys = by (p x) (filter_append p xs ys)
  where
    by : (b : Bool) → filter p (xs ++ ys) ≡ filter p xs ++ filter p ys →
        cond b (x ∷ filter p (xs ++ ys)) (filter p (xs ++ ys)) ≡ cond b (x ∷ filter p xs) (filter p xs) ++ filter p ys
    by true rest = ap (λ r. x ∷ r) rest
    by false rest = rest

pub filter_flat_map : {X Y : Type 0} (p : Y → Bool) (g : X → List Y) (xs : List X) → flat_map (λ x. filter p (g x)) xs ≡ filter p (flat_map g xs)
filter_flat_map p g [] = refl
filter_flat_map p g (x ∷ xs) = ap (λ rest. filter p (g x) ++ rest) (filter_flat_map p g xs) ∙ sym (filter_append p (g x) (flat_map g xs))

pub flat_map_same : {X Y : Type 0} (g h : X → List Y) (xs : List X) → ((x : X) → g x ≡ h x) → flat_map g xs ≡ flat_map h xs
flat_map_same g h [] same = refl
flat_map_same g h (x ∷ xs) same = ap (λ ys. ys ++ flat_map g xs) (same x) ∙ ap (λ rest. h x ++ rest) (flat_map_same g h xs same)

pub flat_map_of_map : {X Y Z : Type 0} (g : Y → List Z) (h : X → Y) (xs : List X) → flat_map g (map h xs) ≡ flat_map (λ x. g (h x)) xs
flat_map_of_map g h [] = refl
flat_map_of_map g h (x ∷ xs) = ap (λ rest. g (h x) ++ rest) (flat_map_of_map g h xs)

pub map_append : {X Y : Type 0} (g : X → Y) (xs ys : List X) → map g (xs ++ ys) ≡ map g xs ++ map g ys
map_append g [] ys = refl
map_append g (x ∷ xs) ys = ap (λ rest. g x ∷ rest) (map_append g xs ys)

pub map_of_map : {X Y Z : Type 0} (g : Y → Z) (h : X → Y) (xs : List X) → map g (map h xs) ≡ map (λ x. g (h x)) xs
map_of_map g h [] = refl
map_of_map g h (x ∷ xs) = ap (λ rest. g (h x) ∷ rest) (map_of_map g h xs)

-- ---- places in a list from which items are left out

-- how many of the items before a place are left
abbrev pub left_before : {X : Type 0} → (X → Bool) → List X → ℕ → ℕ
left_before p xs k = length (filter p (take k xs))

pub left_at : {X : Type 0} (p : X → Bool) (xs : List X) (k : ℕ) (x : X) → slice_get xs k ≡ Some x → p x ≡ true →
    slice_get (filter p xs) (left_before p xs k) ≡ Some x
left_at p [] k x e passes = absurd cc
left_at {X} p (y ∷ ys) zero x e passes =
    let same : y ≡ x = cc in
    ap (λ b. slice_get (cond b (y ∷ filter p ys) (filter p ys)) 0) (ap p same ∙ passes) ∙ ap Some same
left_at {X} p (y ∷ ys) (suc k) x e passes = by (p y) (left_at p ys k x e passes)
  where
    by : (b : Bool) → slice_get (filter p ys) (left_before p ys k) ≡ Some x →
        slice_get (cond b (y ∷ filter p ys) (filter p ys)) (length (cond b (y ∷ filter p (take k ys)) (filter p (take k ys)))) ≡ Some x
    by true rest = rest
    by false rest = rest

-- the place that an item had
pub record WasAt {X : Type 0} (p : X → Bool) (xs : List X) (m : ℕ) (x : X) : Type 0 where
  pub place : ℕ
  pub at : slice_get xs place ≡ Some x
  pub passes : p x ≡ true
  pub number : left_before p xs place ≡ m

pub was_at : {X : Type 0} (p : X → Bool) (xs : List X) (m : ℕ) (x : X) → slice_get (filter p xs) m ≡ Some x → WasAt p xs m x
was_at p [] m x e = absurd cc
was_at {X} p (y ∷ ys) m x e = by (p y) refl m e (λ n at. was_at p ys n x at)
  where
    by : (b : Bool) → p y ≡ b → (m : ℕ) → slice_get (cond b (y ∷ filter p ys) (filter p ys)) m ≡ Some x →
        ((n : ℕ) → slice_get (filter p ys) n ≡ Some x → WasAt p ys n x) → WasAt p (y ∷ ys) m x
    by true here zero at rest = let same : y ≡ x = cc in record { place = zero; at = ap Some same; passes = sym (ap p same) ∙ here; number = refl }
    by true here (suc m) at rest =
        let r = rest m at in
        record {
          place = suc r.place;
          at = r.at;
          passes = r.passes;
          number = ap (λ b. length (cond b (y ∷ filter p (take r.place ys)) (filter p (take r.place ys)))) here ∙ ap suc r.number;
        }
    by false here m at rest =
        let r = rest m at in
        record {
          place = suc r.place;
          at = r.at;
          passes = r.passes;
          number = ap (λ b. length (cond b (y ∷ filter p (take r.place ys)) (filter p (take r.place ys)))) here ∙ r.number;
        }

-- numbers of items that are left ascend
pub left_ascends : {X : Type 0} (p : X → Bool) (xs : List X) (k l : ℕ) (x : X) → slice_get xs k ≡ Some x → p x ≡ true → k < l →
    left_before p xs k < left_before p xs l
left_ascends p [] k l x e passes less = absurd cc
left_ascends p (y ∷ ys) k zero x e passes less = absurd (omega arith)
left_ascends {X} p (y ∷ ys) zero (suc l) x e passes less =
    let same : y ≡ x = cc in
    let here : length (cond (p y) (y ∷ filter p (take l ys)) (filter p (take l ys))) ≡ suc (length (filter p (take l ys))) =
    ap (λ b. length (cond b (y ∷ filter p (take l ys)) (filter p (take l ys)))) (ap p same ∙ passes) in
    omega (arith, here)
left_ascends {X} p (y ∷ ys) (suc k) (suc l) x e passes less = by (p y) (left_ascends p ys k l x e passes (omega arith))
  where
    by : (b : Bool) → left_before p ys k < left_before p ys l → length (cond b (y ∷ filter p (take k ys)) (filter p (take k ys)))
        < length (cond b (y ∷ filter p (take l ys)) (filter p (take l ys)))
    by true rest = omega arith
    by false rest = rest

-- ---- lists that are equal at each place

pub same_lists : {X : Type 0} (d : Option X) (xs ys : List (Option X)) → length xs ≡ length ys → ((u : ℕ) → slice_index_or xs u d ≡ slice_index_or ys u d) →
    xs ≡ ys
same_lists d [] [] total each = refl
same_lists d [] (y ∷ ys) total each = absurd (omega arith)
same_lists d (x ∷ xs) [] total each = absurd (omega arith)
same_lists d (x ∷ xs) (y ∷ ys) total each = ap (λ z. z ∷ xs) (each zero) ∙ ap (λ rest. y ∷ rest) (same_lists d xs ys (omega arith) (λ u. each (suc u)))
