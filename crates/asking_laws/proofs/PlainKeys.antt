-- Keys where no number is lone, and the order by preference and size.
use Rattle.std.proofs.Common.{◌≡◌, ◌≢◌, ℕ, ◌<◌, ◌≤◌, false, cond, refl, sym, ap, ◌∙◌, subst, inl, inr}
use Rattle.std.specs.Prelude.{nat_eq}
use Rattle.std.specs.Ordering.{nat_cmp, ordering_then, MatchOrdering}
use Rattle.std.specs.declared.cmp.Ordering.{Ordering}
use Rattle.std.specs.declared.cmp.Ordering.TheVariants.{Less, Equal, Greater}
use Rattle.std.proofs.lemmas.Bool.{cases_Bool, cases_lt, lt-ltb}
use Rattle.std.proofs.lemmas.Cmp.{nat_cmp_total, tied_itself, ranked}
use Rattle.route_run.specs.Rounds.{HasNoLone}
use Rattle.srp_core.specs.declared.route.Route.{Route}
use Rattle.srp_core.specs.Problem.{Problem, is_lone_number, key_of}
use Rattle.srp_core.specs.Routes.{Key, key_by}
use Rattle.srp_core.specs.Weak.{compare_weak}
use Rattle.srp_core.proofs.KeyOrder.{marked_at}

-- the key of a route where no number is lone
abbrev pub plain : Route → Key
plain route = key_by (λ n. false) route

no_lone_number : (P : Problem) → HasNoLone P → (n : ℕ) → is_lone_number P n ≡ false
no_lone_number P none n = elim (cases_Bool (is_lone_number P n)) [
  | inr unmarked ↦ unmarked
  | inl marked ↦ (let k = marked_at P.lone P.numbers n marked in let unmarked = none k.router k.inside in let there = k.mark in absurd cc)
]

pub keyed_plain : (P : Problem) → HasNoLone P → (r : Route) → key_of P r ≡ plain r
keyed_plain P none r = let same = no_lone_number P none in λ i. key_by (λ n. same n i) r

-- ---- preference and size

nat_less : (x y : ℕ) → x < y → nat_cmp x y ≡ Less
nat_less x y h = ap (λ b. cond b Less (cond (nat_eq x y) Equal Greater)) (lt-ltb x y h)

pub weakly_shorter : (a b : Key) → a.preference ≡ b.preference → a.size < b.size → compare_weak a b ≡ Less
unfolding compare_weak
weakly_shorter a b p s =
    let first : nat_cmp b.preference a.preference ≡ Equal = subst (λ n. nat_cmp n a.preference ≡ Equal) p (tied_itself nat_cmp_total a.preference) in
    ap (λ o. ordering_then o (nat_cmp a.size b.size)) first ∙ nat_less a.size b.size s

pub weakly_equal : (a b : Key) → a.preference ≡ b.preference → a.size ≡ b.size → compare_weak a b ≡ Equal
unfolding compare_weak
weakly_equal a b p s =
    let first : nat_cmp b.preference a.preference ≡ Equal = subst (λ n. nat_cmp n a.preference ≡ Equal) p (tied_itself nat_cmp_total a.preference) in
    let second : nat_cmp a.size b.size ≡ Equal = subst (λ n. nat_cmp a.size n ≡ Equal) s (tied_itself nat_cmp_total a.size) in
    ap (λ o. ordering_then o (nat_cmp a.size b.size)) first ∙ second

then_equal : (a b : Ordering) → ordering_then a b ≡ Equal → (a ≡ Equal) × (b ≡ Equal)
then_equal Less b e = absurd cc
then_equal Equal b e = (refl, e)
then_equal Greater b e = absurd cc

nat_equal : (x y : ℕ) → nat_cmp x y ≡ Equal → x ≡ y
nat_equal x y e = subst (λ o. MatchOrdering o (x < y) (x ≡ y) (y < x)) e (ranked x y (nat_cmp x y) refl)

pub weak_parts : (a b : Key) → compare_weak a b ≡ Equal → (a.preference ≡ b.preference) × (a.size ≡ b.size)
unfolding compare_weak
weak_parts a b e = let parts = then_equal _ _ e in (sym (nat_equal b.preference a.preference parts.0), nat_equal a.size b.size parts.1)

-- of one preference, what is not worse is not longer
pub not_longer_weakly : (a b : Key) → a.preference ≡ b.preference → compare_weak b a ≢ Less → a.size ≤ b.size
not_longer_weakly a b p h = elim (cases_lt b.size a.size) [ inl l ↦ absurd (h (weakly_shorter b a (sym p) l)) | inr l ↦ l ]
