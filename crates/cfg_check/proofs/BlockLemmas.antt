-- Overlapping subnets, by the blocks in which they lie.
use Rattle.std.proofs.Common.{◌≡◌, ◌≢◌, ◌<◌, ◌≤◌, ℕ, zero, suc, ◌+◌, min, Bool, true, false, cond, ◌&&◌, ◌||◌, nat_eq, nat_le, List, [], ◌∷◌, length, get_or, take, refl, sym, ap, ◌∙◌, subst, arith, inl, inr}
use Rattle.std.specs.List.{list_any}
use Rattle.std.specs.HashSet.{contains, Updates}
use Rattle.std.proofs.lemmas.Bool.{cases_eq, cases_order}
use Rattle.std.proofs.lemmas.List.Folds.{list_any_at, list_any_more}
use Rattle.std.proofs.lemmas.Bool.Decides.{nat_tests}
use Rattle.base_kit.specs.Sets.{has, with_number}
use Rattle.base_kit.proofs.SetFacts.{same_number, has-with_number}
use Rattle.cfg_ast.specs.meaning.Addresses.{Address}
use Rattle.cfg_ast.specs.meaning.RouterFaults.{overlap}
use Rattle.cfg_check.specs.declared.overlaps.Blocks.{Blocks}
use Rattle.base_kit.specs.Pairs.{same_pair}
use Rattle.cfg_check.specs.Blocks.{block_of, subnet_is_block, is_around, is_under, is_kept_at, Pairs, meets, HasLens, AddsBlock, AddsAround, AddsSubnet, IsKept}
use Rattle.cfg_check.proofs.Seen.{any_more, same_either_way}

cond_or : (a b : Bool) → cond a true b ≡ (a || b)
cond_or true b = refl
cond_or false b = refl

-- a set of pairs, after a pair was put in
pub pair_added : (old new : Pairs) (k b : ℕ) → Updates same_pair old new (k, b) true → (len number : ℕ) →
    contains same_pair new (len, number) ≡ ((nat_eq len k && nat_eq number b) || contains same_pair old (len, number))
pair_added old new k b step len number =
    step.0 (len, number) ∙ cond_or (nat_eq k len && nat_eq b number) (contains same_pair old (len, number))
    ∙ ap (λ (t : Bool). (t && nat_eq b number) || contains same_pair old (len, number)) (same_either_way k len)
    ∙ ap (λ (t : Bool). (nat_eq len k && t) || contains same_pair old (len, number)) (same_either_way b number)

-- the lengths of the subnets, after one more

or_cond : (a b : Bool) → (a || b) ≡ cond a true b
or_cond true b = refl
or_cond false b = refl

pub lens_turn : (lens : List ℕ) (xs : List Address) (i : ℕ) (x : Address) → i < length xs → x ≡ get_or xs i x → HasLens lens (take i xs) →
    HasLens (with_number x.len lens) (take (i + 1) xs)
lens_turn lens xs i x below here so_far = record {
  each = λ len. has-with_number x.len lens len ∙ ap (λ (t : Bool). nat_eq x.len len || t) (so_far.each len)
      ∙ or_cond (nat_eq x.len len) (list_any (λ (a : Address). nat_eq a.len len) (take i xs)) ∙ any_more (λ (a : Address). nat_eq a.len len) xs i x below here;
}

pub has_own_len : (lens : List ℕ) (xs : List Address) (i : ℕ) (x : Address) → i < length xs → x ≡ get_or xs i x → HasLens lens xs → has lens x.len ≡ true
has_own_len lens xs i x below here all =
    all.each x.len ∙ list_any_at (λ (a : Address). nat_eq a.len x.len) xs i x below
    (same_number (get_or xs i x).len x.len (ap (λ (a : Address). a.len) (sym here)))

or_true : (a b : Bool) → b ≡ true → (a || b) ≡ true
or_true true b e = refl
or_true false b e = e

any_taken : {X : Type 0} (p : X → Bool) (xs : List X) (i : ℕ) → list_any p (take i xs) ≡ true → list_any p xs ≡ true
any_taken p [] zero e = e
any_taken p [] (suc i) e = e
any_taken p (x ∷ xs) zero e = cc
any_taken {X} p (x ∷ xs) (suc i) e = by (p x) (any_taken p xs i) e
  where
    by : (b : Bool) → (list_any p (take i xs) ≡ true → list_any p xs ≡ true) → (b || list_any p (take i xs)) ≡ true → (b || list_any p xs) ≡ true
    by true rest f = refl
    by false rest f = rest f

pub has_past_lens : (lens : List ℕ) (xs : List Address) (i : ℕ) → HasLens lens xs → (len : ℕ) →
    list_any (λ (a : Address). nat_eq a.len len) (take i xs) ≡ true → has lens len ≡ true
has_past_lens lens xs i all len e = all.each len ∙ any_taken (λ (a : Address). nat_eq a.len len) xs i e

-- the blocks around a subnet, after one more

at_length : (k number : ℕ) (a : Address) → k ≤ a.len → (len : ℕ) → (nat_eq len k && nat_eq number (block_of k a)) ≡ (nat_eq k len && is_around len number a)
at_length k number a within len = elim (cases_eq k len) [
  | inl e ↦ let P : ℕ → Type 0 = λ m. (nat_eq m k && nat_eq number (block_of k a)) ≡ (nat_eq k m && (nat_le m a.len && nat_eq number (block_of m a))) in
      subst P e (here (nat_eq number (block_of k a)) a.len within)
  | inr ne ↦ other (nat_eq number (block_of k a)) (is_around len number a) ne
]
  where
    here : (t : Bool) (n : ℕ) → k ≤ n → (nat_eq k k && t) ≡ (nat_eq k k && (nat_le k n && t))
    here t n w = grind (arith, nat_tests)

    other : (s t : Bool) → k ≢ len → (nat_eq len k && s) ≡ (nat_eq k len && t)
    other s t ne = grind (arith, nat_tests)

pub block_added : (old new : Pairs) (k : ℕ) (a : Address) → k ≤ a.len → Updates same_pair old new (k, block_of k a) true → AddsBlock old new k a
block_added old new k a within step = record {
  each = λ len number. pair_added old new k (block_of k a) step len number
      ∙ ap (λ (t : Bool). t || contains same_pair old (len, number)) (at_length k number a within len);
}

pub no_block : (old : Pairs) (k : ℕ) (a : Address) → a.len < k → AddsBlock old old k a
no_block old k a beyond = record {
  each = λ len number. ap (λ (t : Bool). t || contains same_pair old (len, number)) (never len a.len (nat_eq number (block_of len a)) beyond);
}
  where
    never : (len n : ℕ) (t : Bool) → n < k → false ≡ (nat_eq k len && (nat_le len n && t))
    never len n t b = grind (arith, nat_tests)

joined : (x h a f : Bool) → ((x && a) || ((h && a) || f)) ≡ (((h || x) && a) || f)
joined true true true f = refl
joined true true false f = refl
joined true false a f = refl
joined false true a f = refl
joined false false a f = refl

-- one length more
pub around_turn : (first old new : Pairs) (a : Address) (lens : List ℕ) (i : ℕ) → i < length lens → AddsBlock old new (get_or lens i 0) a
    → ((len number : ℕ) → contains same_pair old (len, number) ≡ ((has (take i lens) len && is_around len number a) || contains same_pair first (len, number)))
    → (len number : ℕ) → contains same_pair new (len, number) ≡ ((has (take (i + 1) lens) len && is_around len number a)
    || contains same_pair first (len, number))
around_turn first old new a lens i below step so_far len number =
    let k = get_or lens i 0 in
    step.each len number
    ∙ ap (λ (t : Bool). (nat_eq k len && is_around len number a) || t) (so_far len number)
    ∙ joined (nat_eq k len) (has (take i lens) len) (is_around len number a) (contains same_pair first (len, number))
    ∙ ap (λ (t : Bool). (t && is_around len number a) || contains same_pair first (len, number))
    (sym (list_any_more (λ other. nat_eq other len) lens i 0 below))

-- tests that answer alike find alike
pub any_same : {X : Type 0} (p q : X → Bool) → ((x : X) → p x ≡ q x) → (xs : List X) → list_any p xs ≡ list_any q xs
any_same p q same [] = refl
any_same p q same (x ∷ xs) = rw (same x, any_same p q same xs) refl

or_crossed : (a b c d : Bool) → ((a || b) || (c || d)) ≡ ((a || c) || (b || d))
or_crossed true b c d = refl
or_crossed false true true d = refl
or_crossed false true false d = refl
or_crossed false false c d = refl

any_or : {X : Type 0} (p q : X → Bool) (xs : List X) → list_any (λ x. p x || q x) xs ≡ (list_any p xs || list_any q xs)
any_or p q [] = refl
any_or p q (x ∷ xs) = ap (λ (t : Bool). (p x || q x) || t) (any_or p q xs) ∙ or_crossed (p x) (q x) (list_any p xs) (list_any q xs)

none : {X : Type 0} (f : X → Bool) (xs : List X) → list_any (λ x. f x && false) xs ≡ false
none f [] = refl
none {X} f (x ∷ xs) = by (f x) ∙ none f xs
  where
    by : (b : Bool) → ((b && false) || list_any (λ (y : X). f y && false) xs) ≡ list_any (λ (y : X). f y && false) xs
    by true = refl
    by false = refl

-- one of some lengths
at_one : (f : ℕ → Bool) (n m : ℕ) (ks : List ℕ) → list_any (λ k. nat_le k n && (nat_eq k m && f k)) ks ≡ (has ks m && (nat_le m n && f m))
at_one f n m [] = refl
at_one f n m (k ∷ ks) = ap (λ (t : Bool). (nat_le k n && (nat_eq k m && f k)) || t) (at_one f n m ks) ∙ elim (cases_eq m k) [
  | inl e ↦ let P : ℕ → Type 0 = λ r. ((nat_le r n && (nat_eq r m && f r)) || (has ks m && (nat_le m n && f m))) ≡ ((nat_eq r m || has ks m)
      && (nat_le m n && f m)) in subst P e (here (has ks m) (f m))
  | inr ne ↦ other (has ks m) (f k) (f m) ne
]
  where
    here : (h t : Bool) → ((nat_le m n && (nat_eq m m && t)) || (h && (nat_le m n && t))) ≡ ((nat_eq m m || h) && (nat_le m n && t))
    here h t = grind (arith, nat_tests)

    other : (h s t : Bool) → m ≢ k → ((nat_le k n && (nat_eq k m && s)) || (h && (nat_le m n && t))) ≡ ((nat_eq k m || h) && (nat_le m n && t))
    other h s t ne = grind (arith, nat_tests)

shared_out : (l p q : Bool) → (l && (p || q)) ≡ ((l && p) || (l && q))
shared_out true p q = refl
shared_out false p q = refl

under_each : (a : Address) (lens : List ℕ) (past : List Address) → ((len : ℕ) → list_any (λ (b : Address). nat_eq b.len len) past ≡ true → has lens len ≡ true)
    → list_any (λ k. nat_le k a.len && list_any (subnet_is_block k (block_of k a)) past) lens ≡ list_any (is_under a) past
under_each a lens [] all = none (λ k. nat_le k a.len) lens
under_each a lens (b ∷ past) all =
    let is_one : ℕ → Bool = λ k. nat_le k a.len && subnet_is_block k (block_of k a) b in
    let is_other : ℕ → Bool = λ k. nat_le k a.len && list_any (subnet_is_block k (block_of k a)) past in
    let own : has lens b.len ≡ true = all b.len (ap (λ (t : Bool). t || list_any (λ (c : Address). nat_eq c.len b.len) past) (same_number b.len b.len refl)) in
    any_same (λ k. nat_le k a.len && (subnet_is_block k (block_of k a) b || list_any (subnet_is_block k (block_of k a)) past)) (λ k. is_one k || is_other k)
    (λ k. shared_out (nat_le k a.len) (subnet_is_block k (block_of k a) b) (list_any (subnet_is_block k (block_of k a)) past)) lens
    ∙ any_or is_one is_other lens
    ∙ ap (λ (t : Bool). t || list_any is_other lens) (at_one (λ k. nat_eq (block_of k a) (block_of b.len b)) a.len b.len lens
    ∙ ap (λ (t : Bool). t && is_under a b) own)
    ∙ ap (λ (t : Bool). is_under a b || t) (under_each a lens past
    (λ len e. all len (or_true (nat_eq b.len len) (list_any (λ (c : Address). nat_eq c.len len) past) e)))

at_lesser : (f : ℕ → Bool) (m n : ℕ) → f (min m n) ≡ ((nat_le n m && f n) || (nat_le m n && f m))
at_lesser f m n = elim (cases_order m n) [
  | inl e ↦ ap f (let h : min m n ≡ n = omega (arith, e) in h) ∙ both (f n) (f m) e (ap f e)
  | inr (inl l) ↦ ap f (let h : min m n ≡ m = omega (arith, l) in h) ∙ less (f n) (f m) l
  | inr (inr g) ↦ ap f (let h : min m n ≡ n = omega (arith, g) in h) ∙ more (f n) (f m) g
]
  where
    both : (t u : Bool) → m ≡ n → u ≡ t → t ≡ ((nat_le n m && t) || (nat_le m n && u))
    both t u e same = grind (arith, nat_tests)

    less : (t u : Bool) → m < n → u ≡ ((nat_le n m && t) || (nat_le m n && u))
    less t u l = grind (arith, nat_tests)

    more : (t u : Bool) → n < m → t ≡ ((nat_le n m && t) || (nat_le m n && u))
    more t u g = grind (arith, nat_tests)

one_way : (a b : Address) → overlap a b ≡ (is_under a b || is_around a.len (block_of a.len a) b)
one_way a b = at_lesser (λ len. nat_eq (block_of len a) (block_of len b)) a.len b.len

and_true : (t h : Bool) → h ≡ true → (t && h) ≡ t
and_true true h e = e
and_true false h e = refl

pub meets_past : (blocks : Blocks) (lens : List ℕ) (past : List Address) (a : Address) → IsKept blocks lens past → has lens a.len ≡ true →
    ((len : ℕ) → list_any (λ (b : Address). nat_eq b.len len) past ≡ true → has lens len ≡ true)
    → meets blocks lens a ≡ list_any (overlap a) past
meets_past blocks lens past a kept own all =
    let around : contains same_pair blocks.around (a.len, block_of a.len a) ≡ list_any (is_around a.len (block_of a.len a)) past =
    kept.around a.len (block_of a.len a) ∙ and_true (list_any (is_around a.len (block_of a.len a)) past) (has lens a.len) own in
    ap (λ (t : Bool). t || contains same_pair blocks.around (a.len, block_of a.len a))
    (any_same (is_kept_at blocks.subnets a) (λ k. nat_le k a.len && list_any (subnet_is_block k (block_of k a)) past)
    (λ k. ap (λ (t : Bool). nat_le k a.len && t) (kept.subnets k (block_of k a))) lens ∙ under_each a lens past all)
    ∙ ap (λ (t : Bool). list_any (is_under a) past || t) around
    ∙ sym (any_or (is_under a) (is_around a.len (block_of a.len a)) past)
    ∙ any_same (λ b. is_under a b || is_around a.len (block_of a.len a) b) (overlap a) (λ b. sym (one_way a b)) past

gathered : (h a b : Bool) → ((h && a) || (b && h)) ≡ (cond a true b && h)
gathered true true b = refl
gathered true false b = refl
gathered false true true = refl
gathered false true false = refl
gathered false false true = refl
gathered false false false = refl

pub kept_turn : (blocks : Blocks) (subnets around : Pairs) (lens : List ℕ) (xs : List Address) (i : ℕ) (x : Address) → i < length xs → x ≡ get_or xs i x →
    IsKept blocks lens (take i xs) → AddsSubnet blocks.subnets subnets x → AddsAround blocks.around around lens x →
    IsKept (record { subnets = subnets; around = around }) lens (take (i + 1) xs)
kept_turn blocks subnets around lens xs i x below here kept adds_subnet adds_around = record {
  subnets = λ len number. adds_subnet.each len number ∙ ap (λ (t : Bool). subnet_is_block len number x || t) (kept.subnets len number)
      ∙ sym (cond_or (subnet_is_block len number x) (list_any (subnet_is_block len number) (take i xs)))
      ∙ any_more (subnet_is_block len number) xs i x below here;
  around = λ len number.
      adds_around.each len number
      ∙ ap (λ (t : Bool). (has lens len && is_around len number x) || t) (kept.around len number)
      ∙ gathered (has lens len) (is_around len number x) (list_any (is_around len number) (take i xs))
      ∙ ap (λ (t : Bool). t && has lens len) (any_more (is_around len number) xs i x below here);
}
