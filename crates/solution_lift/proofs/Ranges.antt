-- Lists over a range, one item after the other.
use Rattle.std.proofs.Common.{◌≡◌, ℕ, zero, suc, ◌+◌, ◌<◌, length, get_or, refl, Option, Some, ap, List, [], ◌∷◌, ◌++◌, map, sym, ◌∙◌, arith}
use Rattle.std.specs.Prelude.{filter_map, slice_get, slice_index}
use Rattle.std.specs.List.{range_with_len, cons_option}
use Rattle.std.proofs.lemmas.List.Elements.{filter_map-append}
use Rattle.std.proofs.lemmas.List.FromFn.{map-range_with_len_more}

pub one_more : {X : Type 0} (f : ℕ → X) (old new : List X) (n : ℕ) (x : X) → old ≡ map f (range_with_len 0 n) → new ≡ old ++ x ∷ [] → x ≡ f n →
    new ≡ map f (range_with_len 0 (n + 1))
one_more f old new n x before now is = now ∙ (λ i. before i ++ is i ∷ []) ∙ sym (map-range_with_len_more f 0 n n (omega arith))

pub range_more : (a n m : ℕ) → a + n ≡ m → range_with_len a (n + 1) ≡ range_with_len a n ++ m ∷ []
range_more a zero m e = ap (λ (j : ℕ). j ∷ []) (let z : a ≡ m = omega arith in z)
range_more a (suc n) m e = ap (range_with_len a) (let z : suc n + 1 ≡ suc (n + 1) = omega arith in z)
    ∙ ap (λ (ks : List ℕ). a ∷ ks) (range_more (a + 1) n m (omega arith))

pub filter_more : {X : Type 0} (f : ℕ → Option X) (old new : List X) (k : ℕ) (o : Option X) → old ≡ filter_map f (range_with_len 0 k) →
    new ≡ old ++ cons_option o [] → o ≡ f k → new ≡ filter_map f (range_with_len 0 (k + 1))
filter_more f old new k o before now is =
    now
    ∙ (λ i. before i ++ cons_option (is i) [])
    ∙ sym (filter_map-append f (range_with_len 0 k) (k ∷ []))
    ∙ ap (filter_map f) (sym (range_more 0 k k (omega arith)))

pub get_any : {X : Type 0} (xs : List X) (k : ℕ) (d : X) → k < length xs → slice_get xs k ≡ Some (get_or xs k d)
get_any [] k d h = absurd (omega arith)
get_any (y ∷ ys) zero d h = refl
get_any (y ∷ ys) (suc k) d h = get_any ys k d (omega arith)

pub range_at : (a n k : ℕ) → k < n → slice_index (range_with_len a n) k ≡ a + k
range_at a zero k h = absurd (omega arith)
range_at a (suc n) zero h = omega arith
range_at a (suc n) (suc k) h = let r = range_at (a + 1) n k (omega arith) in omega arith
