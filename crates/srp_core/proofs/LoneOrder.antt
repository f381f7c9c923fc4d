-- The next lone number above a bound, and the order of lone lists by it.
use Rattle.std.proofs.Common.{◌≡◌, ℕ, suc, ◌-◌, ◌<◌, ◌≤◌, Bool, true, false, cond, List, [], ◌∷◌, length, drop, drop-cons, Option, Some, None, refl, sym, ap, ◌∙◌, subst, inl, inr, arith}
use Rattle.std.specs.Prelude.{nat_eq, nat_lt, slice_index}
use Rattle.std.specs.Ordering.{nat_cmp, ordering_then}
use Rattle.std.specs.Cmp.Lexicographic.{slice_cmp}
use Rattle.std.specs.declared.cmp.Ordering.TheVariants.{Less, Equal, Greater}
use Rattle.std.proofs.lemmas.Cmp.{nat_cmp_total, tied_itself}
use Rattle.std.proofs.lemmas.List.{drop_all}
use Rattle.std.proofs.lemmas.Bool.{ne_eqb, cases_Bool, ltb-true, ltb-false, eqb-true, eqb-false, lt-ltb, le-ltb}
use Rattle.base_kit.specs.Sets.{AllAbove, with_number, IsAscending}
use Rattle.srp_core.specs.Routes.{chosen}
use Rattle.srp_core.specs.LoneOrder.{is_over, rest_above, head_of, least_of}
use Rattle.srp_core.proofs.LoneNumbers.{chosen_ascending}

over_more : (bound : Option ℕ) (x y : ℕ) → x < y → is_over bound x ≡ true → is_over bound y ≡ true
over_more None x y h e = refl
over_more (Some b) x y h e = let l = ltb-true b x e in lt-ltb b y (omega arith)

rest_behind : (x : ℕ) (l : List ℕ) → AllAbove x l → rest_above (Some x) l ≡ l
rest_behind x [] k = refl
rest_behind x (y ∷ l) k = ap (λ t. cond t (y ∷ l) (rest_above (Some x) l)) (lt-ltb x y k.0)

head_over : (bound : Option ℕ) (x : ℕ) (l : List ℕ) → head_of (rest_above bound l) ≡ Some x → is_over bound x ≡ true
head_over bound x [] e = absurd (cc)
head_over bound x (y ∷ l) e = elim (cases_Bool (is_over bound y)) [
  | inl t ↦ (let same : y ≡ x = (let h : Some y ≡ Some x = sym (ap (λ c. head_of (cond c (y ∷ l) (rest_above bound l))) t) ∙ e in cc) in
      subst (λ n. is_over bound n ≡ true) same t)
  | inr f ↦ head_over bound x l (sym (ap (λ c. head_of (cond c (y ∷ l) (rest_above bound l))) f) ∙ e)
]

between : (bound : Option ℕ) (x y : ℕ) → is_over bound y ≡ false → is_over bound x ≡ true → nat_lt x y ≡ false
between None x y f t = absurd (cc)
between (Some b) x y f t = let l = ltb-true b x t in let m = ltb-false b y f in le-ltb x y (omega arith)

pub next_rest : (bound : Option ℕ) (x : ℕ) (l : List ℕ) → IsAscending l → head_of (rest_above bound l) ≡ Some x → rest_above bound l ≡ x ∷ rest_above (Some x) l
next_rest bound x [] k e = absurd (cc)
next_rest bound x (y ∷ l) k e = elim (cases_Bool (is_over bound y)) [
  | inl t ↦
      (let all : rest_above bound (y ∷ l) ≡ y ∷ l = ap (λ c. cond c (y ∷ l) (rest_above bound l)) t in
      let same : y ≡ x = (let h : Some y ≡ Some x = sym (ap head_of all) ∙ e in cc) in
      let not_over : nat_lt x y ≡ false = le-ltb x y (omega arith) in
      let behind : rest_above (Some x) l ≡ l = subst (λ n. rest_above (Some n) l ≡ l) same (rest_behind y l k.0) in
      let rest : rest_above (Some x) (y ∷ l) ≡ l = ap (λ c. cond c (y ∷ l) (rest_above (Some x) l)) not_over ∙ behind in
      all ∙ ap (λ n. n ∷ l) same ∙ ap (λ m. x ∷ m) (sym rest))
  | inr f ↦
      (let skip : rest_above bound (y ∷ l) ≡ rest_above bound l = ap (λ c. cond c (y ∷ l) (rest_above bound l)) f in
      let e' : head_of (rest_above bound l) ≡ Some x = sym (ap head_of skip) ∙ e in
      let more = next_rest bound x l k.1 e' in
      let not_over = between bound x y f (head_over bound x l e') in
      skip ∙ more ∙ ap (λ m. x ∷ m) (sym (ap (λ c. cond c (y ∷ l) (rest_above (Some x) l)) not_over)))
]

pub none_rest : (bound : Option ℕ) (l : List ℕ) → head_of (rest_above bound l) ≡ None → rest_above bound l ≡ []
none_rest bound l e = nothing (rest_above bound l) e
  where
    nothing : (m : List ℕ) → head_of m ≡ None → m ≡ []
    nothing [] e = refl
    nothing (x ∷ m) e = absurd (cc)

head_placed : (bound : Option ℕ) (a : ℕ) (l : List ℕ) → IsAscending l →
    head_of (rest_above bound (with_number a l)) ≡ cond (is_over bound a) (Some (least_of a (head_of (rest_above bound l)))) (head_of (rest_above bound l))
head_placed bound a [] k = elim (cases_Bool (is_over bound a)) [
  | inl t ↦ ap (λ c. head_of (cond c (a ∷ []) [])) t ∙ sym (ap (λ c. cond c (Some a) None) t)
  | inr f ↦ ap (λ c. head_of (cond c (a ∷ []) [])) f ∙ sym (ap (λ c. cond c (Some a) None) f)
]
head_placed bound a (y ∷ l) k =
    let old = rest_above bound (y ∷ l) in
    let goal_at = λ (m : List ℕ). head_of (rest_above bound m) ≡ cond (is_over bound a) (Some (least_of a (head_of (rest_above bound (y ∷ l)))))
    (head_of (rest_above bound (y ∷ l))) in
    elim (cases_Bool (nat_lt a y)) [
      | inl less ↦ subst goal_at (sym (ap (λ b. cond b (a ∷ y ∷ l) (cond (nat_eq a y) (y ∷ l) (y ∷ with_number a l))) less))
          (elim (cases_Bool (is_over bound a)) [
            | inl t ↦
                (let lt = ltb-true a y less in
                let all : rest_above bound (y ∷ l) ≡ y ∷ l = ap (λ c. cond c (y ∷ l) (rest_above bound l)) (over_more bound a y lt t) in
                let least : least_of a (head_of (rest_above bound (y ∷ l))) ≡ a = ap (λ m. least_of a (head_of m)) all ∙ (omega arith) in
                ap (λ c. head_of (cond c (a ∷ y ∷ l) (rest_above bound (y ∷ l)))) t ∙ ap Some (sym least)
                ∙ sym (ap (λ c. cond c (Some (least_of a (head_of (rest_above bound (y ∷ l))))) (head_of (rest_above bound (y ∷ l)))) t))
            | inr f ↦ ap (λ c. head_of (cond c (a ∷ y ∷ l) (rest_above bound (y ∷ l)))) f
                ∙ sym (ap (λ c. cond c (Some (least_of a (head_of (rest_above bound (y ∷ l))))) (head_of (rest_above bound (y ∷ l)))) f)
          ])
      | inr ge ↦ subst goal_at (sym (ap (λ b. cond b (a ∷ y ∷ l) (cond (nat_eq a y) (y ∷ l) (y ∷ with_number a l))) ge)) (elim (cases_Bool (nat_eq a y)) [
        | inl same ↦ subst goal_at (sym (ap (λ b. cond b (y ∷ l) (y ∷ with_number a l)) same)) (elim (cases_Bool (is_over bound a)) [
          | inl t ↦
              (let eq = eqb-true a y same in
              let all : rest_above bound (y ∷ l) ≡ y ∷ l = ap (λ c. cond c (y ∷ l) (rest_above bound l)) (subst (λ n. is_over bound n ≡ true) eq t) in
              let least : least_of a (head_of (rest_above bound (y ∷ l))) ≡ y = ap (λ m. least_of a (head_of m)) all ∙ (omega arith) in
              ap head_of all ∙ ap Some (sym least) ∙ sym
              (ap (λ c. cond c (Some (least_of a (head_of (rest_above bound (y ∷ l))))) (head_of (rest_above bound (y ∷ l)))) t))
          | inr f ↦ sym (ap (λ c. cond c (Some (least_of a (head_of (rest_above bound (y ∷ l))))) (head_of (rest_above bound (y ∷ l)))) f)
        ])
        | inr differ ↦ subst goal_at (sym (ap (λ b. cond b (y ∷ l) (y ∷ with_number a l)) differ))
            (let le = ltb-false a y ge in
            let ne = eqb-false a y differ in
            let lt : y < a = omega arith in
            elim (cases_Bool (is_over bound y)) [
              | inl t ↦
                  (let all : rest_above bound (y ∷ l) ≡ y ∷ l = ap (λ c. cond c (y ∷ l) (rest_above bound l)) t in
                  let least : least_of a (head_of (rest_above bound (y ∷ l))) ≡ y = ap (λ m. least_of a (head_of m)) all ∙ (omega arith) in
                  ap (λ c. head_of (cond c (y ∷ with_number a l) (rest_above bound (with_number a l)))) t ∙ ap Some (sym least)
                  ∙ sym (ap (λ c. cond c (Some (least_of a (head_of (rest_above bound (y ∷ l))))) (head_of (rest_above bound (y ∷ l))))
                  (over_more bound y a lt t)))
              | inr f ↦
                  (let skip : rest_above bound (y ∷ l) ≡ rest_above bound l = ap (λ c. cond c (y ∷ l) (rest_above bound l)) f in
                  ap (λ c. head_of (cond c (y ∷ with_number a l) (rest_above bound (with_number a l)))) f ∙ head_placed bound a l k.1
                  ∙ ap (λ m. cond (is_over bound a) (Some (least_of a (head_of m))) (head_of m)) (sym skip))
            ])
      ])
    ]

-- one number more in front of the path
pub next_more : (test : ℕ → Bool) (bound : Option ℕ) (a : ℕ) (path : List ℕ) →
    head_of (rest_above bound (chosen test (a ∷ path))) ≡ cond (test a)
    (cond (is_over bound a) (Some (least_of a (head_of (rest_above bound (chosen test path))))) (head_of (rest_above bound (chosen test path))))
    (head_of (rest_above bound (chosen test path)))
unfolding chosen
next_more test bound a path = elim (cases_Bool (test a)) [
  | inl t ↦ ap (λ c. head_of (rest_above bound (cond c (with_number a (chosen test path)) (chosen test path)))) t
      ∙ head_placed bound a (chosen test path) (chosen_ascending test path)
      ∙ sym (ap (λ c. cond c (cond (is_over bound a) (Some (least_of a (head_of (rest_above bound (chosen test path)))))
      (head_of (rest_above bound (chosen test path)))) (head_of (rest_above bound (chosen test path)))) t)
  | inr f ↦ ap (λ c. head_of (rest_above bound (cond c (with_number a (chosen test path)) (chosen test path)))) f
      ∙ sym (ap (λ c. cond c (cond (is_over bound a) (Some (least_of a (head_of (rest_above bound (chosen test path)))))
      (head_of (rest_above bound (chosen test path)))) (head_of (rest_above bound (chosen test path)))) f)
]

pub next_start : (test : ℕ → Bool) (bound : Option ℕ) (path : List ℕ) → None ≡ head_of (rest_above bound (chosen test (drop (length path) path)))
unfolding chosen
next_start test bound path = sym (ap (λ p. head_of (rest_above bound (chosen test p))) (drop_all (length path) path (omega arith)))

pub next_down : (test : ℕ → Bool) (bound : Option ℕ) (path : List ℕ) (i : ℕ) (best result : Option ℕ) → 0 < i → i ≤ length path →
    best ≡ head_of (rest_above bound (chosen test (drop i path))) →
    result ≡ cond (test (slice_index path (i - 1))) (cond (is_over bound (slice_index path (i - 1))) (Some (least_of (slice_index path (i - 1)) best)) best)
    best → result ≡ head_of (rest_above bound (chosen test (drop (i - 1) path)))
next_down test bound path i best result h l b r =
    let n = slice_index path (i - 1) in
    let cut : drop (i - 1) path ≡ n ∷ drop (suc (i - 1)) path = drop-cons path (i - 1) 0 (omega arith) in
    let up : suc (i - 1) ≡ i = omega arith in
    let whole : drop (i - 1) path ≡ n ∷ drop i path = cut ∙ ap (λ k. n ∷ drop k path) up in
    r ∙ ap (λ o. cond (test n) (cond (is_over bound n) (Some (least_of n o)) o) o) b ∙ sym (next_more test bound n (drop i path))
    ∙ sym (ap (λ p. head_of (rest_above bound (chosen test p))) whole)

-- one turn of the comparison
pub turn_cmp : (bound : Option ℕ) (x y : ℕ) (la lb : List ℕ) → IsAscending la → IsAscending lb → Some x ≡ head_of (rest_above bound la) →
    Some y ≡ head_of (rest_above bound lb) →
    slice_cmp nat_cmp (rest_above bound la) (rest_above bound lb) ≡ ordering_then (nat_cmp x y)
    (slice_cmp nat_cmp (rest_above (Some x) la) (rest_above (Some y) lb))
turn_cmp bound x y la lb ka kb ea eb = ap (λ l. slice_cmp nat_cmp l (rest_above bound lb)) (next_rest bound x la ka (sym ea))
    ∙ ap (slice_cmp nat_cmp (x ∷ rest_above (Some x) la)) (next_rest bound y lb kb (sym eb))

pub turn_less : (bound : Option ℕ) (x y : ℕ) (la lb : List ℕ) → IsAscending la → IsAscending lb → Some x ≡ head_of (rest_above bound la) →
    Some y ≡ head_of (rest_above bound lb) → x < y → slice_cmp nat_cmp (rest_above bound la) (rest_above bound lb) ≡ Less
turn_less bound x y la lb ka kb ea eb h = turn_cmp bound x y la lb ka kb ea eb
    ∙ ap (λ o. ordering_then o (slice_cmp nat_cmp (rest_above (Some x) la) (rest_above (Some y) lb)))
    (ap (λ b. cond b Less (cond (nat_eq x y) Equal Greater)) (lt-ltb x y h))

pub turn_greater : (bound : Option ℕ) (x y : ℕ) (la lb : List ℕ) → IsAscending la → IsAscending lb → Some x ≡ head_of (rest_above bound la) →
    Some y ≡ head_of (rest_above bound lb) → y < x → slice_cmp nat_cmp (rest_above bound la) (rest_above bound lb) ≡ Greater
turn_greater bound x y la lb ka kb ea eb h = turn_cmp bound x y la lb ka kb ea eb
    ∙ ap (λ o. ordering_then o (slice_cmp nat_cmp (rest_above (Some x) la) (rest_above (Some y) lb)))
    (ap (λ b. cond b Less (cond (nat_eq x y) Equal Greater)) (le-ltb x y (omega arith)) ∙ ap (λ b. cond b Equal Greater) (ne_eqb x y (λ e. omega arith)))

pub turn_equal : (bound : Option ℕ) (x y : ℕ) (la lb : List ℕ) → IsAscending la → IsAscending lb → Some x ≡ head_of (rest_above bound la) →
    Some y ≡ head_of (rest_above bound lb) → x ≡ y →
    slice_cmp nat_cmp (rest_above bound la) (rest_above bound lb) ≡ slice_cmp nat_cmp (rest_above (Some x) la) (rest_above (Some x) lb)
turn_equal bound x y la lb ka kb ea eb e = turn_cmp bound x y la lb ka kb ea eb
    ∙ ap (λ o. ordering_then o (slice_cmp nat_cmp (rest_above (Some x) la) (rest_above (Some y) lb))) (ap (nat_cmp x) (sym e) ∙ tied_itself nat_cmp_total x)
    ∙ ap (λ n. slice_cmp nat_cmp (rest_above (Some x) la) (rest_above (Some n) lb)) (sym e)

pub turn_shorter : (bound : Option ℕ) (x : ℕ) (la : List ℕ) → IsAscending la → Some x ≡ head_of (rest_above bound la) →
    length (rest_above (Some x) la) < length (rest_above bound la)
turn_shorter bound x la ka ea = let e = ap length (next_rest bound x la ka (sym ea)) in omega (arith, e)

pub ends_cmp : (bound : Option ℕ) (la lb : List ℕ) → None ≡ head_of (rest_above bound la) → None ≡ head_of (rest_above bound lb) →
    slice_cmp nat_cmp (rest_above bound la) (rest_above bound lb) ≡ Equal
ends_cmp bound la lb ea eb = ap (λ l. slice_cmp nat_cmp l (rest_above bound lb)) (none_rest bound la (sym ea))
    ∙ ap (slice_cmp nat_cmp []) (none_rest bound lb (sym eb))

pub first_ends : (bound : Option ℕ) (y : ℕ) (la lb : List ℕ) → IsAscending lb → None ≡ head_of (rest_above bound la) → Some y ≡ head_of (rest_above bound lb) →
    slice_cmp nat_cmp (rest_above bound la) (rest_above bound lb) ≡ Less
first_ends bound y la lb kb ea eb = ap (λ l. slice_cmp nat_cmp l (rest_above bound lb)) (none_rest bound la (sym ea))
    ∙ ap (slice_cmp nat_cmp []) (next_rest bound y lb kb (sym eb))

pub second_ends : (bound : Option ℕ) (x : ℕ) (la lb : List ℕ) → IsAscending la → Some x ≡ head_of (rest_above bound la) → None ≡ head_of (rest_above bound lb) →
    slice_cmp nat_cmp (rest_above bound la) (rest_above bound lb) ≡ Greater
second_ends bound x la lb ka ea eb = ap (λ l. slice_cmp nat_cmp l (rest_above bound lb)) (next_rest bound x la ka (sym ea))
    ∙ ap (slice_cmp nat_cmp (x ∷ rest_above (Some x) la)) (none_rest bound lb (sym eb))

pub whole_rest : (l : List ℕ) → rest_above None l ≡ l
whole_rest [] = refl
whole_rest (x ∷ l) = refl
