-- Keys by preference and size alone.
use Rattle.std.proofs.Common.{◌≡◌, ◌≢◌, ℕ, ◌<◌, ◌≤◌, ◌⊎◌, cond, refl, sym, ap, ◌∙◌, subst, inl, inr, arith}
use Rattle.std.specs.Prelude.{nat_eq}
use Rattle.std.specs.Ordering.{nat_cmp, ordering_then, MatchOrdering}
use Rattle.std.specs.Cmp.Lexicographic.{slice_cmp}
use Rattle.std.specs.declared.cmp.Ordering.{Ordering}
use Rattle.std.specs.declared.cmp.Ordering.TheVariants.{Less, Equal, Greater}
use Rattle.std.proofs.lemmas.Bool.{cases_lt, lt-ltb, le-ltb, ne_eqb}
use Rattle.std.proofs.lemmas.Cmp.{nat_cmp_total, tied_itself, ranked}
use Rattle.srp_core.specs.Routes.{Key, compare_keys}
use Rattle.srp_core.specs.Weak.{compare_weak}
use Rattle.srp_core.proofs.KeyOrder.{shorter, not_better}

-- a higher preference, or the same and a size that is not larger
pub data IsNoWorse (a b : Key) : Type 0 where
  higher : b.preference < a.preference → IsNoWorse a b
  not_longer : a.preference ≡ b.preference → a.size ≤ b.size → IsNoWorse a b

nat_less : (x y : ℕ) → x < y → nat_cmp x y ≡ Less
nat_less x y h = ap (λ b. cond b Less (cond (nat_eq x y) Equal Greater)) (lt-ltb x y h)

pub nat_greater : (x y : ℕ) → y < x → nat_cmp x y ≡ Greater
nat_greater x y h = ap (λ b. cond b Less (cond (nat_eq x y) Equal Greater)) (le-ltb x y (omega (arith, h)))
    ∙ ap (λ b. cond b Equal Greater) (ne_eqb x y (λ e. omega (arith, h, e)))

pub nat_equal : (x y : ℕ) → x ≡ y → nat_cmp x y ≡ Equal
nat_equal x y e = subst (λ n. nat_cmp x n ≡ Equal) e (tied_itself nat_cmp_total x)

equal_nat : (x y : ℕ) → nat_cmp x y ≡ Equal → x ≡ y
equal_nat x y e = subst (λ o. MatchOrdering o (x < y) (x ≡ y) (y < x)) e (ranked x y (nat_cmp x y) refl)

then_equal : (a b : Ordering) → ordering_then a b ≡ Equal → (a ≡ Equal) × (b ≡ Equal)
then_equal Less b e = absurd (cc)
then_equal Equal b e = (refl, e)
then_equal Greater b e = absurd (cc)

-- a key of a higher preference is better
preferred : (a b : Key) → b.preference < a.preference → compare_keys a b ≡ Less
unfolding compare_keys
preferred a b h =
    ap (λ o. ordering_then o (ordering_then (nat_cmp a.size b.size) (ordering_then (slice_cmp nat_cmp a.comms b.comms) (slice_cmp nat_cmp a.lone b.lone))))
    (nat_less b.preference a.preference h)

preferred_weak : (a b : Key) → b.preference < a.preference → compare_weak a b ≡ Less
unfolding compare_weak
preferred_weak a b h = ap (λ o. ordering_then o (nat_cmp a.size b.size)) (nat_less b.preference a.preference h)

shorter_weak : (a b : Key) → a.preference ≡ b.preference → a.size < b.size → compare_weak a b ≡ Less
unfolding compare_weak
shorter_weak a b p s = ap (λ o. ordering_then o (nat_cmp a.size b.size)) (nat_equal b.preference a.preference (sym p)) ∙ nat_less a.size b.size s

pub equal_weak : (a b : Key) → a.preference ≡ b.preference → a.size ≡ b.size → compare_weak a b ≡ Equal
unfolding compare_weak
equal_weak a b p s = ap (λ o. ordering_then o (nat_cmp a.size b.size)) (nat_equal b.preference a.preference (sym p)) ∙ nat_equal a.size b.size s

pub weak_equal : (a b : Key) → compare_weak a b ≡ Equal → (a.preference ≡ b.preference) × (a.size ≡ b.size)
unfolding compare_weak
weak_equal a b e =
    let t = then_equal (nat_cmp b.preference a.preference) (nat_cmp a.size b.size) e in
    (sym (equal_nat b.preference a.preference t.0), equal_nat a.size b.size t.1)

-- what holds where neither of two better cases does
unbeaten : (a b : Key) → (a.preference < b.preference → ⊥) → (a.preference ≡ b.preference → b.size < a.size → ⊥) → IsNoWorse a b
unbeaten a b none never = elim (cases_lt b.preference a.preference) [
  | inl h ↦ higher h
  | inr h ↦ elim (cases_lt a.preference b.preference) [
    | inl g ↦ absurd (none g)
    | inr g ↦
        let p : a.preference ≡ b.preference = omega arith in
        elim (cases_lt b.size a.size) [ inl l ↦ absurd (never p l) | inr l ↦ not_longer p l ]
  ]
]

-- a key that another does not beat is weakly no worse than it
pub no_worse : (a b : Key) → compare_keys b a ≢ Less → IsNoWorse a b
no_worse a b h = unbeaten a b (λ g. h (preferred b a g)) (λ p l. h (shorter b a (sym p) l))

pub weakly_no_worse : (a b : Key) → compare_weak b a ≢ Less → IsNoWorse a b
weakly_no_worse a b h = unbeaten a b (λ g. h (preferred_weak b a g)) (λ p l. h (shorter_weak b a (sym p) l))

pub better_no_worse : (a b : Key) → compare_keys a b ≡ Less → IsNoWorse a b
better_no_worse a b h = no_worse a b (not_better a b h)

pub no_worse_both : (a b : Key) → IsNoWorse a b → IsNoWorse b a → (a.preference ≡ b.preference) × (a.size ≡ b.size)
no_worse_both a b (higher h) (higher g) = absurd (omega arith)
no_worse_both a b (higher h) (not_longer p s) = absurd (omega arith)
no_worse_both a b (not_longer p s) (higher g) = absurd (omega arith)
no_worse_both a b (not_longer p s) (not_longer q t) = (p, omega arith)

less_then : (x y z : Ordering) → ordering_then x y ≡ Less → ordering_then x (ordering_then y z) ≡ Less
less_then Less y z e = refl
less_then Equal y z e = ap (λ o. ordering_then o z) e
less_then Greater y z e = e

-- a key that beats another by preference and size beats it
pub weak_better : (a b : Key) → compare_weak a b ≡ Less → compare_keys a b ≡ Less
unfolding compare_weak compare_keys
weak_better a b e = less_then (nat_cmp b.preference a.preference) (nat_cmp a.size b.size) _ e

less_nat : (x y : ℕ) → nat_cmp x y ≡ Less → x < y
less_nat x y e = subst (λ o. MatchOrdering o (x < y) (x ≡ y) (y < x)) e (ranked x y (nat_cmp x y) refl)

then_less : (a b : Ordering) → ordering_then a b ≡ Less → (a ≡ Less) ⊎ ((a ≡ Equal) × (b ≡ Less))
then_less Less b e = inl refl
then_less Equal b e = inr (refl, e)
then_less Greater b e = absurd (cc)

-- a key that is weakly no worse is not beaten by preference and size
pub not_beaten : (a b : Key) → compare_weak b a ≡ Less → ¬ IsNoWorse a b
unfolding compare_weak
not_beaten a b e h = by (then_less (nat_cmp a.preference b.preference) (nat_cmp b.size a.size) e) h
  where
    by : (nat_cmp a.preference b.preference ≡ Less) ⊎ ((nat_cmp a.preference b.preference ≡ Equal) × (nat_cmp b.size a.size ≡ Less)) → ¬ IsNoWorse a b
    by (inl l) (higher g) = let n = less_nat a.preference b.preference l in omega (arith, n, g)
    by (inl l) (not_longer p s) = let n = less_nat a.preference b.preference l in omega (arith, n, p)
    by (inr t) (higher g) = let n = equal_nat a.preference b.preference t.0 in omega (arith, n, g)
    by (inr t) (not_longer p s) = let n = less_nat b.size a.size t.1 in omega (arith, n, s)
