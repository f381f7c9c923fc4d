-- The initial routes that are left.
use Rattle.std.proofs.Common.{◌≡◌, ℕ, zero, suc, ◌+◌, ◌<◌, Bool, true, false, cond, List, [], ◌∷◌, length, drop, get_or, Option, None, refl, sym, ap, ◌∙◌, arith, inl, inr}
use Rattle.std.specs.Prelude.{slice_index_or}
use Rattle.std.proofs.lemmas.Bool.{cases_lt}
use Rattle.std.proofs.lemmas.List.{at_drop_more, drop_all, get_or_past}
use Rattle.srp_core.specs.declared.route.Route.{Route}
use Rattle.srp_without.specs.Left.{left_from}

-- those of the marked routers are taken away
pub record AreStartsLeft (starts : List (Option Route)) (marks : List Bool) (left : List (Option Route)) : Type 0 where
  pub total : length left ≡ length starts
  pub each : (u : ℕ) → slice_index_or left u None ≡ cond (slice_index_or marks u false) None (slice_index_or starts u None)

total_left : (marks : List Bool) (starts : List (Option Route)) → length (left_from marks starts) ≡ length starts
total_left marks [] = refl
total_left [] (start ∷ starts) = ap suc (total_left [] starts)
total_left (mark ∷ marks) (start ∷ starts) = ap suc (total_left marks starts)

no_more : (b : Bool) (o : Option Route) → cond b o o ≡ o
no_more true o = refl
no_more false o = refl

each_left : (marks : List Bool) (starts : List (Option Route)) (u : ℕ) →
    slice_index_or (left_from marks starts) u None ≡ cond (slice_index_or marks u false) None (slice_index_or starts u None)
each_left marks [] u = sym (no_more (slice_index_or marks u false) None)
each_left [] (start ∷ starts) zero = refl
each_left [] (start ∷ starts) (suc u) = each_left [] starts u
each_left (mark ∷ marks) (start ∷ starts) zero = refl
each_left (mark ∷ marks) (start ∷ starts) (suc u) = each_left marks starts u

pub are_left : (marks : List Bool) (starts : List (Option Route)) → AreStartsLeft starts marks (left_from marks starts)
are_left marks starts = record { total = total_left marks starts; each = each_left marks starts }

-- the next of them
pub next_left : (marks : List Bool) (starts : List (Option Route)) (i : ℕ) → i < length starts → left_from (drop i marks) (drop i starts)
    ≡ cond (slice_index_or marks i false) None (slice_index_or starts i None) ∷ left_from (drop (i + 1) marks) (drop (i + 1) starts)
next_left marks starts i h = at_drop_more (λ rest. left_from (drop i marks) rest) starts i None h ∙ elim (cases_lt i (length marks)) [
  | inl inside ↦ at_drop_more (λ rest. left_from rest (get_or starts i None ∷ drop (i + 1) starts)) marks i false inside
  | inr past ↦ (
      let here = drop_all i marks past in
      let later : drop (i + 1) marks ≡ [] = drop_all (i + 1) marks (omega arith) in
      let unmarked = get_or_past marks i false past in
      ap (λ rest. left_from rest (get_or starts i None ∷ drop (i + 1) starts)) here
      ∙ ap (λ rest. get_or starts i None ∷ left_from rest (drop (i + 1) starts)) (sym later)
      ∙ ap (λ b. cond b None (get_or starts i None) ∷ left_from (drop (i + 1) marks) (drop (i + 1) starts)) (sym unmarked))
]
