-- The names of maps and lists tell them apart, so that a look-up by name finds what was written.
use Rattle.std.proofs.Common.{◌≡◌, ◌≢◌, ℕ, ◌^◌, ◌<◌, Bool, true, false, cond, List, [], ◌∷◌, ◌++◌, inl, inr, Some, refl, sym, ap, ◌∙◌, arith, find, bytes_eq, codes, decimal, append_assoc}
use Rattle.std.specs.List.{AllByRecursion}
use Rattle.std.proofs.lemmas.Fmt.{decimal_injective}
use Rattle.base_kit.proofs.Elements.{In}
use Rattle.base_kit.specs.Sets.{AllAbove, IsAscending}
use Rattle.cfg_round_trip.proofs.WordsBack.{decimal_digits}
use Rattle.cfg_ast.specs.declared.policy.CommunityList.{CommunityList}
use Rattle.route_maps.specs.declared.plain.PlainEntry.{PlainEntry}
use Rattle.route_maps.specs.Printable.{plain_seqs}
use Rattle.config_emit.specs.Maps.{map_name, list_name}

-- ---- the one item that passes
pub find_one : {X : Type 0} (test : X → Bool) (xs : List X) (x : X) → In xs x → test x ≡ true → ((y : X) → In xs y → test y ≡ true → y ≡ x) →
    find test xs ≡ Some x
find_one test [] x at is one = absurd at
find_one {X} test (y ∷ ys) x at is one = step (test y) refl (λ i. find_one test ys x i is (λ z h f. one z (inr h) f))
  where
    step : (b : Bool) → test y ≡ b → (In ys x → find test ys ≡ Some x) → cond b (Some y) (find test ys) ≡ Some x
    step true e rest = ap (λ (z : X). Some z) (one y (inl refl) e)
    step false e rest = elim at [
      | inl same ↦ absurd (let f : test y ≡ true = ap test same ∙ is in cc)
      | inr later ↦ rest later
    ]

-- ---- bytes
abbrev IsNoDash : ℕ → Type 0
IsNoDash b = b ≢ 45

weaker : {P Q : ℕ → Type 0} → ((b : ℕ) → P b → Q b) → (xs : List ℕ) → AllByRecursion P xs → AllByRecursion Q xs
weaker f [] all = tt
weaker f (x ∷ xs) all = (f x all.0, weaker f xs all.1)

no_dash : (n : ℕ) → n < 2 ^ 64 → AllByRecursion IsNoDash (decimal n)
no_dash n small = weaker (λ b is e. (let low = is.0 in omega arith)) (decimal n) (decimal_digits n small).digits

-- the parts before and behind the first dash
split : (a b x y : List ℕ) → AllByRecursion IsNoDash a → AllByRecursion IsNoDash b → a ++ 45 ∷ x ≡ b ++ 45 ∷ y → (a ≡ b) × (x ≡ y)
split [] [] x y na nb e = (refl, cc)
split [] (c ∷ b) x y na nb e = absurd (nb.0 (let f : 45 ≡ c = cc in sym f))
split (c ∷ a) [] x y na nb e = absurd (na.0 (let f : c ≡ 45 = cc in f))
split (c ∷ a) (d ∷ b) x y na nb e =
    let head : c ≡ d = cc in
    let tail : a ++ 45 ∷ x ≡ b ++ 45 ∷ y = cc in
    let r = split a b x y na.1 nb.1 tail in
    ((λ i. head i ∷ r.0 i), r.1)

cut_front : (p a b : List ℕ) → p ++ a ≡ p ++ b → a ≡ b
cut_front [] a b e = e
cut_front (c ∷ p) a b e = cut_front p a b (let f : p ++ a ≡ p ++ b = cc in f)

abbrev policy : List ℕ
policy = codes "POLICY-"

pub one_map : (k m : ℕ) → k < 2 ^ 64 → m < 2 ^ 64 → map_name k ≡ map_name m → k ≡ m
one_map k m a b e = decimal_injective k m a b (cut_front policy (decimal k) (decimal m) e)

pub one_list : (k s m t : ℕ) (x y : List ℕ) → k < 2 ^ 64 → s < 2 ^ 64 → m < 2 ^ 64 → t < 2 ^ 64 → list_name k s x ≡ list_name m t y →
    (k ≡ m) × (s ≡ t) × (x ≡ y)
one_list k s m t x y hk hs hm ht e =
    let f = cut_front policy (decimal k ++ (45 ∷ (decimal s ++ (45 ∷ x)))) (decimal m ++ (45 ∷ (decimal t ++ (45 ∷ y))))
    (sym (append_assoc policy (decimal k) (45 ∷ (decimal s ++ (45 ∷ x)))) ∙ e ∙ append_assoc policy (decimal m) (45 ∷ (decimal t ++ (45 ∷ y)))) in
    let one = split (decimal k) (decimal m) (decimal s ++ (45 ∷ x)) (decimal t ++ (45 ∷ y)) (no_dash k hk) (no_dash m hm) f in
    let two = split (decimal s) (decimal t) x y (no_dash s hs) (no_dash t ht) one.1 in
    (decimal_injective k m hk hm one.0, decimal_injective s t hs ht two.0, two.1)

-- ---- the lists of a router

abbrev pub same_name : List ℕ → CommunityList → Bool
same_name name list = bytes_eq list.name name

-- one entry of a map has a number
pub one_entry : (xs : List PlainEntry) (x y : PlainEntry) → IsAscending (plain_seqs xs) → In xs x → In xs y → x.seq ≡ y.seq → x ≡ y
one_entry [] x y up a b e = absurd a
one_entry (z ∷ zs) x y up (inl p) (inl q) e = sym p ∙ q
one_entry (z ∷ zs) x y up (inl p) (inr b) e = absurd (let l = above zs z.seq y up.0 b in let f = ap (λ (w : PlainEntry). w.seq) p in omega arith)
  where
    above : (ws : List PlainEntry) (n : ℕ) (w : PlainEntry) → AllAbove n (plain_seqs ws) → In ws w → n < w.seq
    above [] n w all at = absurd at
    above (v ∷ ws) n w all (inl same) = let f = ap (λ (u : PlainEntry). u.seq) same in let l = all.0 in omega arith
    above (v ∷ ws) n w all (inr at) = above ws n w all.1 at
one_entry (z ∷ zs) x y up (inr a) (inl q) e = absurd (let l = above zs z.seq x up.0 a in let f = ap (λ (w : PlainEntry). w.seq) q in omega arith)
  where
    above : (ws : List PlainEntry) (n : ℕ) (w : PlainEntry) → AllAbove n (plain_seqs ws) → In ws w → n < w.seq
    above [] n w all at = absurd at
    above (v ∷ ws) n w all (inl same) = let f = ap (λ (u : PlainEntry). u.seq) same in let l = all.0 in omega arith
    above (v ∷ ws) n w all (inr at) = above ws n w all.1 at
one_entry (z ∷ zs) x y up (inr a) (inr b) e = one_entry zs x y up.1 a b e
