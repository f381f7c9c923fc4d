-- Steps that are left out, since one of their kind stands before them on a link that is no higher.
use Rattle.std.proofs.Common.{◌≡◌, ℕ, suc, ◌+◌, ◌-◌, ◌<◌, ◌≤◌, Bool, true, false, cond, ◌&&◌, List, [], ◌∷◌, ◌++◌, length, nat_eq, Option, Some, None}
use Rattle.std.proofs.Common.{◌⊎◌, inl, inr, refl, sym, ◌∙◌, ap, subst, arith, append_assoc, append-nil, eq-eqb}
use Rattle.std.specs.Prelude.{All, filter_map, flat_map}
use Rattle.std.specs.Bool.{beq}
use Rattle.std.specs.List.{range_with_len, cons_option}
use Rattle.std.proofs.lemmas.Bool.{cases_lt}
use Rattle.std.proofs.lemmas.Bool.Decides.{nat_tests}
use Rattle.std.proofs.lemmas.List.Elements.{All-contains, All-push, filter_map-append}
use Rattle.base_kit.specs.declared.act_graph.Edge.{Edge}
use Rattle.base_kit.proofs.Elements.{In, contains_in, in_contains, in_left, in_right, in_filter, get_in}
use Rattle.by_key.specs.ByKey.{with_key, by_key}
use Rattle.by_key.proofs.KeyedItems.{in_by_key}
use Rattle.abstract_net.specs.declared.steps.Step.{Step}
use Rattle.abstract_net.specs.Early.{PutsEarly, steps_from, IsStep, AreEarly}
use Rattle.abstract_net.specs.GroupSteps.{step_at, link_of, same_kind, met_too, first_kinds, none_met, first_steps}
use Rattle.abstract_net.specs.Links.{link_at, link_bound, by_link}
use Rattle.abstract_net.proofs.Carried.{get_some, at_place, link_below}
use Rattle.abstract_net.proofs.FirstKinds.{kinds_are}
use Rattle.abstract_net.proofs.OneStep.{lower, front, back, with_it, without_it}
use Rattle.abstract_net.proofs.Places.{filter_back, is_step}

-- ---- a step of a kind that was met

same_kinds : (x y z : Step) → same_kind x y ≡ true → same_kind z x ≡ same_kind z y
same_kinds x y z e = let is = kinds_are x y e in
    λ i. (nat_eq z.low (is.low i) && nat_eq z.high (is.high i)) && (beq z.into_low (is.into_low i) && nat_eq z.act (is.act i))

of_itself : (s : Step) → same_kind s s ≡ true
of_itself s = grind (arith, nat_tests)

met_still : (b c : Bool) → c ≡ true → cond b true c ≡ true
met_still true c known = refl
met_still false c known = known

met_now : (b c : Bool) → b ≡ true → cond b true c ≡ true
met_now true c e = refl
met_now false c e = absurd cc

-- where the one step was met, so was the other, of its kind
both_met : (b c d e : Bool) → b ≡ c → (d ≡ true → e ≡ true) → cond b true d ≡ true → cond c true e ≡ true
both_met true true d e same both h = refl
both_met true false d e same both h = absurd cc
both_met false true d e same both h = refl
both_met false false d e same both h = both h

left_out : (met : Step → Bool) (xs ys : List Step) (x y : Step) → same_kind y x ≡ true → (met y ≡ true → met x ≡ true) → In xs y ⊎ (met y ≡ true) →
    first_kinds met (xs ++ x ∷ ys) ≡ first_kinds met (xs ++ ys)
left_out met [] ys x y kind both (inl at) = absurd at
left_out met [] ys x y kind both (inr there) = ap (λ b. cond b (first_kinds met ys) (x ∷ first_kinds (met_too x met) ys)) (both there)
left_out met (z ∷ xs) ys x y kind both at = by (λ m b a. left_out m xs ys x y kind b a) (met z) refl where
  before : met z ≡ true → In xs y ⊎ (met y ≡ true)
  before e = elim at [ inl in_all ↦ elim in_all [ inl same ↦ inr (ap met (sym same) ∙ e) | inr later ↦ inl later ] | inr there ↦ inr there ]

  beside : In xs y ⊎ (met_too z met y ≡ true)
  beside = elim at [
    | inl in_all ↦ elim in_all [
      | inl same ↦ inr (met_now (same_kind z y) (met y) (ap (λ (s : Step). same_kind z s) (sym same) ∙ of_itself z))
      | inr later ↦ inl later
    ]
    | inr there ↦ inr (met_still (same_kind z y) (met y) there)
  ]

  by : ((m : Step → Bool) → (m y ≡ true → m x ≡ true) → In xs y ⊎ (m y ≡ true) → first_kinds m (xs ++ x ∷ ys) ≡ first_kinds m (xs ++ ys)) → (b : Bool) →
      met z ≡ b → cond b (first_kinds met (xs ++ x ∷ ys)) (z ∷ first_kinds (met_too z met) (xs ++ x ∷ ys))
      ≡ cond b (first_kinds met (xs ++ ys)) (z ∷ first_kinds (met_too z met) (xs ++ ys))
  by rest true e = rest met both (before e)
  by rest false e = ap (λ (l : List Step). z ∷ l)
      (rest (met_too z met) (both_met (same_kind z y) (same_kind z x) (met y) (met x) (same_kinds y x z kind) both) beside)

-- ---- without one step

module _ (before later : List Step) (x : Step) where
  in_front : (y : Step) → In before y → y.link ≤ x.link → In (front before later x) y
  in_front y at low = elim (cases_lt y.link x.link) [
    | inl less ↦ in_left (lower before later x) (with_key link_of before x.link) y
        (in_by_key link_of x.link (before ++ later) y (in_left before later y at) less)
    | inr more ↦ in_right (lower before later x) (with_key link_of before x.link) y
        (let same : y.link ≡ x.link = omega arith in in_filter (λ s. nat_eq (link_of s) x.link) before y at (eq-eqb y.link x.link same))
  ]

  pub first_without : (n : ℕ) (y : Step) → x.link < n → In before y → same_kind y x ≡ true → y.link ≤ x.link →
      first_kinds none_met (by_key link_of n (before ++ x ∷ later)) ≡ first_kinds none_met (by_key link_of n (before ++ later))
  first_without n y inside at kind low =
      let r : ℕ = n - x.link - 1 in
      let e : n ≡ x.link + suc r = omega arith in
      ap (first_kinds none_met) (with_it before later x n r e)
      ∙ left_out none_met (front before later x) (back before later x r) x y kind (λ same. same) (inl (in_front y at low))
      ∙ sym (ap (first_kinds none_met) (without_it before later x n r e))

-- a step that is put last, if there is one
pub puts_some : (old new : List Step) (o : Option Step) → ((later : List Step) → new ++ later ≡ old ++ cons_option o later) → PutsEarly old new o
puts_some old new None put = sym (append-nil new) ∙ put [] ∙ append-nil old
puts_some old new (Some s) put = inl (sym (append-nil new) ∙ put [])

-- ---- the steps of edges, one by one

module _ (es : List Edge) (groups : List ℕ) where
  steps_by_link : (vs ks : List ℕ) → flat_map (with_key link_of (filter_map (step_at es groups) ks)) vs ≡
      filter_map (step_at es groups) (flat_map (λ v. with_key (link_at es) ks v) vs)
  steps_by_link [] ks = refl
  steps_by_link (v ∷ vs) ks =
      let here = filter_back (step_at es groups) (λ s. nat_eq (link_of s) v) (λ k. nat_eq (link_at es k) v)
      (λ k s at. ap (λ l. nat_eq l v) (is_step es groups k s at).link) ks in
      let rest = steps_by_link vs ks in
      (λ i. here i ++ rest i)
      ∙ sym (filter_map-append (step_at es groups) (with_key (link_at es) ks v) (flat_map (λ v. with_key (link_at es) ks v) vs))

  pub early_start : (steps : List Step) → steps ≡ [] → AreEarly es groups 0 steps
  unfolding by_link
  early_start steps none =
      let all : length es - 0 ≡ length es = omega arith in
      subst (AreEarly es groups 0) (sym none) (record {
        real = λ k d h. absurd (omega arith);
        firsts =
            ap (λ n. first_kinds none_met (by_key link_of (link_bound es) (filter_map (step_at es groups) (range_with_len 0 n)))) all
            ∙ ap (first_kinds none_met) (steps_by_link (range_with_len 0 (link_bound es)) (range_with_len 0 (length es)));
      })

  one_more : (place : ℕ) → place < length es → steps_from es groups place ≡ cons_option (step_at es groups place) (steps_from es groups (place + 1))
  one_more place inside =
      let left : length es - place ≡ suc (length es - (place + 1)) = omega arith in
      ap (λ n. filter_map (step_at es groups) (range_with_len place n)) left

  link_inside : (place : ℕ) (s : Step) → place < length es → step_at es groups place ≡ Some s → s.link < link_bound es
  link_inside place s inside at =
      let e = get_some es place inside in
      let p = at_place es groups place e.0 e.1 in
      let same = (is_step es groups place s at).link in
      let there = p.link in
      let less = link_below es 0 e.0 (get_in es place e.0 e.1) in
      omega arith

  module _ (place : ℕ) (inside : place < length es) (old : List Step) (are : AreEarly es groups place old) where
    pub early_none : step_at es groups place ≡ None → AreEarly es groups (place + 1) old
    early_none none =
        let left : steps_from es groups place ≡ steps_from es groups (place + 1) =
        one_more place inside ∙ ap (λ (o : Option Step). cons_option o (steps_from es groups (place + 1))) none in
        record {
          real = are.real;
          firsts = ap (λ (l : List Step). first_kinds none_met (by_key link_of (link_bound es) (old ++ l))) (sym left) ∙ are.firsts;
        }

    with_step : (s : Step) → step_at es groups place ≡ Some s → old ++ s ∷ steps_from es groups (place + 1) ≡ old ++ steps_from es groups place
    with_step s at = ap (λ (l : List Step). old ++ l)
        (sym (one_more place inside ∙ ap (λ (o : Option Step). cons_option o (steps_from es groups (place + 1))) at))

    early_some : (new : List Step) (s : Step) → step_at es groups place ≡ Some s → PutsEarly old new (Some s) → AreEarly es groups (place + 1) new
    early_some new s at (inl pushed) = subst (AreEarly es groups (place + 1)) (sym pushed) (record {
      real = All-push (IsStep es groups) old s are.real (place, inside, at);
      firsts = ap (λ (l : List Step). first_kinds none_met (by_key link_of (link_bound es) l))
          (append_assoc old (s ∷ []) (steps_from es groups (place + 1)) ∙ with_step s at) ∙ are.firsts;
    })
    early_some new s at (inr put) = subst (AreEarly es groups (place + 1)) (sym put.0) (record {
      real = are.real;
      firsts =
          sym (first_without old (steps_from es groups (place + 1)) s (link_bound es) put.1.0 (link_inside place s inside at)
          (in_contains old put.1.0 put.1.1) put.1.2 put.1.3)
          ∙ ap (λ (l : List Step). first_kinds none_met (by_key link_of (link_bound es) l)) (with_step s at) ∙ are.firsts;
    })

    pub early_more : (new : List Step) (o : Option Step) → o ≡ step_at es groups place → PutsEarly old new o → AreEarly es groups (place + 1) new
    early_more new None is put = subst (AreEarly es groups (place + 1)) (sym put) (early_none (sym is))
    early_more new (Some s) is put = early_some new s (sym is) put

  -- the links of steps of edges are below the bound
  pub real_below : (steps : List Step) → All (IsStep es groups) steps → (x : Step) → In steps x → x.link < link_bound es
  real_below steps real x at = let k = All-contains (IsStep es groups) steps x real (contains_in steps x at) in link_inside k.0 x k.1 k.2

  pub early_end : (steps : List Step) → AreEarly es groups (length es) steps
      → first_kinds none_met (by_key link_of (link_bound es) steps) ≡ first_steps es groups
  early_end steps are =
      let none : length es - length es ≡ 0 = omega arith in
      ap (λ (l : List Step). first_kinds none_met (by_key link_of (link_bound es) l))
      (sym (append-nil steps) ∙ ap (λ n. steps ++ filter_map (step_at es groups) (range_with_len (length es) n)) (sym none))
      ∙ are.firsts
