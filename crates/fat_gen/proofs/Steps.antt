-- One more item of a list that a loop builds, and one more piece of a text.
use Rattle.std.proofs.Common.{◌≡◌, ℕ, suc, ◌+◌, ◌-◌, ◌<◌, ◌≤◌, List, [], ◌∷◌, ◌++◌, length, get_or, drop, map, flat_map, sym, ◌∙◌, ap, arith, append_assoc}
use Rattle.std.specs.Prelude.{Result, OnOk}
use Rattle.std.specs.List.{range_with_len, enumerate_from}
use Rattle.std.proofs.Math.Seq.{drop-cons}
use Rattle.std.proofs.lemmas.List.{append-nil, drop_all}
use Rattle.std.proofs.lemmas.List.FromFn.{map-range_with_len_more}
use Rattle.std.proofs.lemmas.Result.{on_ok_weaker}

-- the items of a function, from a on
pub one_more : {X : Type 0} (f : ℕ → X) (old now new : List X) (a n j : ℕ) → a + n ≡ j → new ≡ now ++ f j ∷ [] → now ≡ old ++ map f (range_with_len a n) →
    new ≡ old ++ map f (range_with_len a (n + 1))
one_more f old now new a n j at step before =
    step ∙ ap (λ l. l ++ f j ∷ []) before ∙ append_assoc old (map f (range_with_len a n)) (f j ∷ [])
    ∙ ap (λ l. old ++ l) (sym (map-range_with_len_more f a n j at))

-- the same, up to a place
pub one_more_to : {X : Type 0} (f : ℕ → X) (old now new : List X) (a j : ℕ) → a ≤ j → new ≡ now ++ f j ∷ [] → now ≡ old ++ map f (range_with_len a (j - a)) →
    new ≡ old ++ map f (range_with_len a (j + 1 - a))
one_more_to f old now new a j after step before =
    let at : a + (j - a) ≡ j = omega arith in
    let more : (j - a) + 1 ≡ j + 1 - a = omega arith in
    one_more f old now new a (j - a) j at step before ∙ ap (λ (n : ℕ). old ++ map f (range_with_len a n)) more

range_step : (i n : ℕ) → i < n → range_with_len i (n - i) ≡ i ∷ range_with_len (i + 1) (n - (i + 1))
range_step i n less =
    let more : n - i ≡ suc (n - (i + 1)) = omega (arith, less) in
    ap (range_with_len i) more

-- the lists of a function, of which those from i on are left
pub one_less : {X : Type 0} (f : ℕ → List X) (old new whole : List X) (i n : ℕ) → i < n → new ≡ old ++ f i →
    old ++ flat_map f (range_with_len i (n - i)) ≡ whole
    → new ++ flat_map f (range_with_len (i + 1) (n - (i + 1))) ≡ whole
one_less f old new whole i n less step before =
    ap (λ t. t ++ flat_map f (range_with_len (i + 1) (n - (i + 1)))) step
    ∙ append_assoc old (f i) (flat_map f (range_with_len (i + 1) (n - (i + 1))))
    ∙ ap (λ r. old ++ flat_map f r) (sym (range_step i n less))
    ∙ before

-- the lists of the items of a list with their places, of which those from i on are left
pub one_item : {X A : Type 0} (f : ℕ × X → List A) (i : ℕ) (xs : List X) (x d : X) (old new whole : List A) → i < length xs → x ≡ get_or xs i d →
    new ≡ old ++ f (i, x) → old ++ flat_map f (enumerate_from i (drop i xs)) ≡ whole
    → new ++ flat_map f (enumerate_from (i + 1) (drop (i + 1) xs)) ≡ whole
one_item {X} {A} f i xs x d old new whole inside is step before =
    let rest : List A = flat_map f (enumerate_from (i + 1) (drop (i + 1) xs)) in
    let next : drop i xs ≡ x ∷ drop (i + 1) xs = drop-cons xs i d inside ∙ ap (λ (y : X). y ∷ drop (suc i) xs) (sym is)
    ∙ ap (λ (k : ℕ). x ∷ drop k xs) (let e : suc i ≡ i + 1 = omega arith in e) in
    ap (λ (l : List A). l ++ rest) step ∙ append_assoc old (f (i, x)) rest
    ∙ ap (λ (l : List X). old ++ flat_map f (enumerate_from i l)) (sym next) ∙ before

pub all_items : {X A : Type 0} (f : ℕ × X → List A) (i : ℕ) (xs : List X) (old whole : List A) → length xs ≤ i →
    old ++ flat_map f (enumerate_from i (drop i xs)) ≡ whole → old ≡ whole
all_items {X} {A} f i xs old whole outside before =
    sym (append-nil old) ∙ ap (λ (l : List X). old ++ flat_map f (enumerate_from i l)) (sym (drop_all i xs outside)) ∙ before

-- one piece more
grown : (old a t b new : List ℕ) → t ≡ old ++ a → new ≡ t ++ b → new ≡ old ++ (a ++ b)
grown old a t b new first second = second ∙ ap (λ (xs : List ℕ). xs ++ b) first ∙ append_assoc old a b

-- the last piece
pub ended : {T E : Type 0} (r : Result T E) (old a t b new : List ℕ) → t ≡ old ++ a → OnOk r (new ≡ t ++ b) → OnOk r (new ≡ old ++ (a ++ b))
ended r old a t b new first second = on_ok_weaker r (λ (last : new ≡ t ++ b). grown old a t b new first last) second
