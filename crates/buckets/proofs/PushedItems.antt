-- Items put last at a pair of numbers.
use Rattle.std.proofs.Common.{◌≡◌, ℕ, ◌+◌, ◌<◌, Bool, true, false, cond, ◌&&◌, nat_eq, List, [], ◌∷◌, ◌++◌, filter, length, get_or, take, Option, Some, None, Vec, Result, Ok, Err, refl, sym, ◌∙◌, ap, arith, append_assoc}
use Rattle.std.specs.Prelude.{MatchResult}
use Rattle.std.specs.Result.{IsErr}
use Rattle.std.specs.Option.{option_map_or}
use Rattle.std.specs.HashMap.{get}
use Rattle.std.specs.declared.alloc.Global.{Global}
use Rattle.std.proofs.lemmas.Bool.Decides.{nat_tests}
use Rattle.std.proofs.lemmas.List.{take_more}
use Rattle.std.proofs.lemmas.List.Elements.{filter-append}
use Rattle.base_kit.specs.Pairs.{same_pair}
use Rattle.buckets.specs.Buckets.{is_at_pair, Index, bucket, HasSameItems, PushesAt, IsIndex}

items_of : {T : Type 0} → Option (Vec T Global) → List T
items_of {T} o = option_map_or (λ (v : Vec T Global). v.items) o []

put_step : {T : Type 0} (old new : Option (Vec T Global)) (b : Bool) (v : Vec T Global) (x : T) → (b ≡ true → old ≡ None) → new ≡ cond b (Some v) old →
    v.items ≡ x ∷ [] → items_of new ≡ cond b (items_of old ++ x ∷ []) (items_of old)
unfolding items_of
put_step {T} old new true v x none takes is = ap items_of takes ∙ is ∙ sym (ap (λ o. items_of o ++ x ∷ []) (none refl))
put_step old new false v x none takes is = ap items_of takes

same_step : {T : Type 0} (old new : Option (Vec T Global)) (b : Bool) (v w : Vec T Global) → (b ≡ true → old ≡ Some v) → new ≡ cond b (Some w) old →
    w.items ≡ v.items → items_of new ≡ items_of old
unfolding items_of
same_step old new true v w some takes is = ap items_of takes ∙ is ∙ sym (ap items_of (some refl))
same_step old new false v w some takes is = ap items_of takes

same_numbers : (m n : ℕ) → nat_eq m n ≡ true → m ≡ n
same_numbers m n e = grind (arith, nat_tests)

both : (a b : Bool) → (a && b) ≡ true → (a ≡ true) × (b ≡ true)
both true true e = (refl, refl)
both true false e = cc
both false b e = cc

same_pairs : (p q : ℕ × ℕ) → same_pair p q ≡ true → p ≡ q
same_pairs p q e =
    let parts = both (nat_eq p.0 q.0) (nat_eq p.1 q.1) e in
    let first : p.0 ≡ q.0 = same_numbers p.0 q.0 parts.0 in
    let second : p.1 ≡ q.1 = same_numbers p.1 q.1 parts.1 in
    ap (λ m. (m, p.1)) first ∙ ap (λ n. (q.0, n)) second

-- the first item of a pair
pub put : {T : Type 0} (old new : Index T) (pair : ℕ × ℕ) (v : Vec T Global) (x : T) → get same_pair old pair ≡ None
    → ((q : ℕ × ℕ) → get same_pair new q ≡ cond (same_pair pair q) (Some v) (get same_pair old q))
    → v.items ≡ x ∷ [] → PushesAt old new pair x
unfolding items_of
put old new pair v x none takes is = record {
  each = λ q. put_step (get same_pair old q) (get same_pair new q) (same_pair pair q) v x
      (λ e. sym (ap (λ p. get same_pair old p) (same_pairs pair q e)) ∙ none) (takes q) is;
}

-- what holds where a call is refused
pub where_refused : {X Y Q : Type 0} (P : Type 0) (r : Result X Y) → IsErr r → Q → MatchResult r (λ (x : X). P) (λ (y : Y). Q)
where_refused P (Ok x) is holds = cc
where_refused P (Err y) is holds = holds

-- the same items of a pair, put back
pub put_back : {T : Type 0} (old new : Index T) (pair : ℕ × ℕ) (v w : Vec T Global) → get same_pair old pair ≡ Some v
    → ((q : ℕ × ℕ) → get same_pair new q ≡ cond (same_pair pair q) (Some w) (get same_pair old q))
    → w.items ≡ v.items → HasSameItems old new
unfolding items_of
put_back old new pair v w some takes is = record {
  each = λ q. same_step (get same_pair old q) (get same_pair new q) (same_pair pair q) v w
      (λ e. sym (ap (λ p. get same_pair old p) (same_pairs pair q e)) ∙ some) (takes q) is;
}

same_either_way : (m n : ℕ) → nat_eq m n ≡ nat_eq n m
same_either_way m n = grind (arith, nat_tests)

same_turned : (p q : ℕ × ℕ) → same_pair p q ≡ same_pair q p
same_turned p q = ap (λ b. b && nat_eq p.1 q.1) (same_either_way p.0 q.0) ∙ ap (λ b. nat_eq q.0 p.0 && b) (same_either_way p.1 q.1)

no_more : {X : Type 0} (xs : List X) → xs ++ [] ≡ xs
no_more [] = refl
no_more (x ∷ xs) = ap (λ ys. x ∷ ys) (no_more xs)

cond_last : {T : Type 0} (b : Bool) (l : List T) (x : T) → cond b (l ++ x ∷ []) l ≡ l ++ cond b (x ∷ []) []
cond_last true l x = refl
cond_last false l x = sym (no_more l)

-- what stands at a pair, after an item was put in
at_pair : {T : Type 0} (pair_of : T → ℕ × ℕ) (old new : Index T) (x : T) (q : ℕ × ℕ) → PushesAt old new (pair_of x) x → bucket new q ≡ bucket old q
    ++ filter (is_at_pair pair_of q) (x ∷ [])
at_pair pair_of old new x q adds =
    adds.each q
    ∙ ap (λ b. cond b (bucket old q ++ x ∷ []) (bucket old q)) (same_turned (pair_of x) q)
    ∙ cond_last (is_at_pair pair_of q x) (bucket old q) x

one_more : {T : Type 0} (test : T → Bool) (xs : List T) (i : ℕ) (x : T) → i < length xs → x ≡ get_or xs i x → filter test (take i xs)
    ++ filter test (x ∷ []) ≡ filter test (take (i + 1) xs)
one_more {T} test xs i x below here = sym (ap (λ (l : List T). filter test l) (take_more xs i x below ∙ ap (λ (y : T). take i xs ++ y ∷ []) (sym here))
    ∙ filter-append test (take i xs) (x ∷ []))

-- an index of some items, with one item more
pub index_turn : {T : Type 0} (pair_of : T → ℕ × ℕ) (old new : Index T) (xs : List T) (i : ℕ) (x : T) → i < length xs → x ≡ get_or xs i x →
    PushesAt old new (pair_of x) x → IsIndex pair_of old (take i xs) → IsIndex pair_of new (take (i + 1) xs)
index_turn {T} pair_of old new xs i x below here adds so_far = record {
  each = λ q.
      let test = is_at_pair pair_of q in
      at_pair pair_of old new x q adds ∙ ap (λ (l : List T). l ++ filter test (x ∷ [])) (so_far.each q) ∙ one_more test xs i x below here;
}

-- the same of one pair, behind what stood there before
pub bucket_turn : {T : Type 0} (pair_of : T → ℕ × ℕ) (first old new : Index T) (xs : List T) (i : ℕ) (x : T) (q : ℕ × ℕ) → i < length xs → x ≡ get_or xs i x →
    PushesAt old new (pair_of x) x
    → bucket old q ≡ bucket first q ++ filter (is_at_pair pair_of q) (take i xs)
    → bucket new q ≡ bucket first q ++ filter (is_at_pair pair_of q) (take (i + 1) xs)
bucket_turn {T} pair_of first old new xs i x q below here adds so_far =
    let test = is_at_pair pair_of q in
    at_pair pair_of old new x q adds
    ∙ ap (λ (l : List T). l ++ filter test (x ∷ [])) so_far
    ∙ append_assoc (bucket first q) (filter test (take i xs)) (filter test (x ∷ []))
    ∙ ap (λ (l : List T). bucket first q ++ l) (one_more test xs i x below here)
