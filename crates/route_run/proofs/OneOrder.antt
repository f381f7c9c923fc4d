-- Labels have only one order.
use Rattle.std.proofs.Common.{◌≡◌, ℕ, ◌<◌, List, [], ◌∷◌, Option, Some, None, refl, sym, ◌∙◌, subst, arith, inl, inr}
use Rattle.base_kit.proofs.Elements.{In, in_contains}
use Rattle.srp_core.specs.declared.route.Route.{Route}
use Rattle.srp_core.specs.Problem.{Problem, count}
use Rattle.srp_core.specs.Stability.{label}
use Rattle.route_run.specs.Orders.{StandsFirst, IsOrderOf}
use Rattle.route_run.proofs.Reaching.{not_first, Sorted, sorted_pairs}
use Rattle.route_run.proofs.Runs.{all_in}

-- no two stand before each other
not_both : (o p : Option Route) (u v : ℕ) → StandsFirst o p u v → StandsFirst p o v u → ⊥
not_both None None u v a b = omega arith
not_both None (Some s) u v a b = a
not_both (Some r) None u v a b = b
not_both (Some r) (Some s) u v (inl a) (inl b) = omega arith
not_both (Some r) (Some s) u v (inl a) (inr b) = let e = b.0 in omega arith
not_both (Some r) (Some s) u v (inr a) (inl b) = let e = a.0 in omega arith
not_both (Some r) (Some s) u v (inr a) (inr b) = let e = a.1 in let f = b.1 in omega arith

module _ (L : List (Option Route)) where
  not_itself : (u : ℕ) (run : List ℕ) → Sorted L (u ∷ run) → ¬ In run u
  not_itself u run sorted i = not_first (label L u) u (sorted.0 u i)

  -- two sorted lists of the same routers
  same_sorted : (xs ys : List ℕ) → Sorted L xs → Sorted L ys → ((u : ℕ) → In xs u → In ys u) → ((u : ℕ) → In ys u → In xs u) → xs ≡ ys
  same_sorted [] [] a b there back = refl
  same_sorted [] (y ∷ ys) a b there back = absurd (back y (inl refl))
  same_sorted (x ∷ xs) [] a b there back = absurd (there x (inl refl))
  same_sorted (x ∷ xs) (y ∷ ys) a b there back =
      let first : x ≡ y = heads (there x (inl refl)) (back y (inl refl)) in
      let rest = same_sorted xs ys a.1 b.1
      (λ u i. elim (there u (inr i)) [ inl e ↦ absurd (not_itself x xs a (subst (In xs) (sym e ∙ sym first) i)) | inr later ↦ later ])
      (λ u i. elim (back u (inr i)) [ inl e ↦ absurd (not_itself y ys b (subst (In ys) (sym e ∙ first) i)) | inr later ↦ later ]) in
      λ k. first k ∷ rest k
    where
      heads : In (y ∷ ys) x → In (x ∷ xs) y → x ≡ y
      heads (inl e) j = sym e
      heads (inr i) (inl e) = e
      heads (inr i) (inr j) = absurd (not_both (label L x) (label L y) x y (a.0 y j) (b.0 x i))

  pub one_order : (P : Problem) (first second : List ℕ) → IsOrderOf P L first → IsOrderOf P L second → first ≡ second
  one_order P first second a b =
      same_sorted first second (sorted_pairs L first a.sorted) (sorted_pairs L second b.sorted)
      (λ u i. in_contains second u (b.each u (all_in (λ v. v < count P) first u a.only i)))
      (λ u i. in_contains first u (a.each u (all_in (λ v. v < count P) second u b.only i)))
