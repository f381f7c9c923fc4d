-- The steps of one direction, where all have one act: the first on the least link stands for them.
use Rattle.std.proofs.Common.{◌≡◌, ℕ, suc, ◌+◌, ◌-◌, ◌<◌, ◌≤◌, Bool, true, false, cond, List, [], ◌∷◌, ◌++◌, take, get_or, length, Option, Some, None}
use Rattle.std.proofs.Common.{nat_eq, refl, sym, ◌∙◌, ap, subst, arith, inl, inr, append_assoc, append-nil, eq-eqb}
use Rattle.std.specs.Prelude.{filter, nat_lt, option_map}
use Rattle.std.specs.List.{range_with_len, cons_option}
use Rattle.std.proofs.lemmas.Bool.Decides.{nat_tests}
use Rattle.std.proofs.lemmas.List.Elements.{filter_more}
use Rattle.base_kit.proofs.Elements.{In, append_in, in_right, flat_map_in, range_in, filter_in}
use Rattle.by_key.specs.ByKey.{with_key, by_key}
use Rattle.by_key.proofs.KeyedItems.{key_is, by_key_in}
use Rattle.by_key.proofs.SortedByKey.{none_at}
use Rattle.abstract_net.specs.declared.steps.Step.{Step}
use Rattle.abstract_net.specs.GroupSteps.{link_of, keys_bound, sorted_by, first_new, goes_into, edges_into}
use Rattle.abstract_net.specs.Least.{is_of_other_act, lower_of}
use Rattle.abstract_net.proofs.ByKeys.{filter_by_key}
use Rattle.abstract_net.proofs.Cells.{none_in}
use Rattle.abstract_net.proofs.OneStep.{lower, front, back, with_it}
use Rattle.abstract_net.proofs.SortedSteps.{keys_below, sorted_by_is}

-- x is the first of the steps on the least link, and all have its act
pub record IsLeast (steps : List Step) (x : Step) : Type 0 where
  pub before : List Step
  pub later : List Step
  pub is : steps ≡ before ++ x ∷ later
  pub first : (y : Step) → In before y → x.link < y.link
  pub least : (y : Step) → In steps y → x.link ≤ y.link
  pub one_act : (y : Step) → In steps y → y.act ≡ x.act

-- there are no steps, or all have one act, and this is the first of them by links
abbrev pub AreOfOneAct : List Step → Option Step → Type 0
AreOfOneAct steps None = steps ≡ []
AreOfOneAct steps (Some x) = IsLeast steps x

-- ---- one step more

alone : (s : Step) → IsLeast (s ∷ []) s
alone s = record {
  before = [];
  later = [];
  is = refl;
  first = λ y at. absurd at;
  least = λ y at. elim at [ inl e ↦ (let k = ap (λ (x : Step). x.link) e in omega arith) | inr none ↦ absurd none ];
  one_act = λ y at. elim at [ inl e ↦ sym (ap (λ (x : Step). x.act) e) | inr none ↦ absurd none ];
}

among : (P : Step → Type 0) (steps : List Step) (s : Step) → ((y : Step) → In steps y → P y) → P s → (y : Step) → In (steps ++ s ∷ []) y → P y
among P steps s before last y at = elim (append_in steps (s ∷ []) y at) [
  | inl there ↦ before y there
  | inr here ↦ elim here [ inl e ↦ subst P e last | inr none ↦ absurd none ]
]

added : (steps : List Step) (x s : Step) → IsLeast steps x → x.act ≡ s.act → (b : Bool) → nat_lt s.link x.link ≡ b → IsLeast (steps ++ s ∷ []) (cond b s x)
added steps x s l same true t =
    let less : s.link < x.link = grind (arith, nat_tests) in
    record {
      before = steps;
      later = [];
      is = refl;
      first = λ y at. (let m = l.least y at in omega arith);
      least = among (λ y. s.link ≤ y.link) steps s (λ y at. (let m = l.least y at in omega arith)) (omega arith);
      one_act = among (λ y. y.act ≡ s.act) steps s (λ y at. l.one_act y at ∙ same) refl;
    }
added steps x s l same false t =
    let more : x.link ≤ s.link = grind (arith, nat_tests) in
    record {
      before = l.before;
      later = l.later ++ s ∷ [];
      is = ap (λ (xs : List Step). xs ++ s ∷ []) l.is ∙ append_assoc l.before (x ∷ l.later) (s ∷ []);
      first = l.first;
      least = among (λ y. x.link ≤ y.link) steps s l.least more;
      one_act = among (λ y. y.act ≡ x.act) steps s l.one_act (sym same);
    }

one_more : (steps : List Step) (o : Option Step) (s : Step) → AreOfOneAct steps o → is_of_other_act o s ≡ false → IsLeast (steps ++ s ∷ []) (lower_of o s)
one_more steps None s none same = subst (λ (xs : List Step). IsLeast (xs ++ s ∷ []) s) (sym none) (alone s)
one_more steps (Some x) s l same = let act : x.act ≡ s.act = grind (arith, nat_tests) in added steps x s l act (nat_lt s.link x.link) refl

module _ (b : Bool) (run : List Step) (i : ℕ) (d : Step) (inside : i < length run) (o : Option Step)
    (are : AreOfOneAct (filter (goes_into b) (take i run)) o) where
  abbrev step : Step
  step = get_or run i d

  more_is : (c : Bool) → goes_into b step ≡ c → filter (goes_into b) (take (i + 1) run) ≡ filter (goes_into b) (take i run) ++ cond c (step ∷ []) []
  more_is c e = filter_more (goes_into b) run i d inside ∙ ap (λ t. filter (goes_into b) (take i run) ++ cond t (step ∷ []) []) e

  pub taken : goes_into b step ≡ true → is_of_other_act o step ≡ false → AreOfOneAct (filter (goes_into b) (take (i + 1) run)) (Some (lower_of o step))
  taken e same = subst (λ (xs : List Step). IsLeast xs (lower_of o step)) (sym (more_is true e)) (one_more (filter (goes_into b) (take i run)) o step are same)

  pub passed : goes_into b step ≡ false → AreOfOneAct (filter (goes_into b) (take (i + 1) run)) o
  passed e = subst (λ (xs : List Step). AreOfOneAct xs o) (sym (more_is false e ∙ append-nil (filter (goes_into b) (take i run)))) are

-- ---- the only edge

none_new : (met : ℕ → Bool) (steps : List Step) → ((y : Step) → In steps y → met y.act ≡ true) → first_new met steps ≡ []
none_new met [] h = refl
none_new met (y ∷ ys) h =
    ap (λ b. cond b (first_new met ys) (y.edge ∷ first_new (λ act. cond (nat_eq y.act act) true (met act)) ys)) (h y (inl refl))
    ∙ none_new met ys (λ z at. h z (inr at))

module _ (steps : List Step) (x : Step) (l : IsLeast steps x) where
  none_lower : (y : Step) → In (lower l.before l.later x) y → ⊥
  none_lower y at =
      let v = flat_map_in (with_key link_of (l.before ++ l.later)) (range_with_len 0 x.link) y at in
      let below = range_in 0 x.link v.0 v.1 in
      let k = key_is link_of (l.before ++ l.later) v.0 y v.2 in
      let on = k.1 in
      elim (append_in l.before l.later y k.0) [
        | inl there ↦ (let m = l.first y there in absurd (omega arith))
        | inr there ↦ (let m = l.least y (subst (λ (xs : List Step). In xs y) (sym l.is) (in_right l.before (x ∷ l.later) y (inr there))) in
            absurd (omega arith))
      ]

  none_in_front : front l.before l.later x ≡ []
  none_in_front = none_in (front l.before l.later x) (λ y at. elim (append_in (lower l.before l.later x) (with_key link_of l.before x.link) y at) [
    | inl there ↦ none_lower y there
    | inr there ↦ (let k = key_is link_of l.before x.link y there in let m = l.first y k.0 in let on = k.1 in absurd (omega arith))
  ])

  first_one : (n : ℕ) → x.link < n → first_new (λ act. false) (by_key link_of n steps) ≡ x.edge ∷ []
  first_one n inside =
      let r : ℕ = n - x.link - 1 in
      let e : n ≡ x.link + suc r = omega arith in
      let begins : by_key link_of n steps ≡ x ∷ back l.before l.later x r =
      ap (by_key link_of n) l.is ∙ with_it l.before l.later x n r e
      ∙ ap (λ (xs : List Step). xs ++ x ∷ back l.before l.later x r) none_in_front in
      ap (first_new (λ act. false)) begins
      ∙ ap (λ (ks : List ℕ). x.edge ∷ ks) (none_new (λ act. cond (nat_eq x.act act) true false) (back l.before l.later x r)
      (λ y at. ap (λ b. cond b true false) (eq-eqb x.act y.act
      (sym (l.one_act y (by_key_in link_of n steps y (subst (λ (xs : List Step). In xs y) (sym begins) (inr at))))))))

module _ (b : Bool) (run : List Step) where
  abbrev bound : ℕ
  bound = keys_bound link_of run

  edge_is : (o : Option Step) → AreOfOneAct (filter (goes_into b) run) o →
      first_new (λ act. false) (by_key link_of bound (filter (goes_into b) run)) ≡ cons_option (option_map (λ (s : Step). s.edge) o) []
  edge_is None none = ap (λ (xs : List Step). first_new (λ act. false) (by_key link_of bound xs)) none ∙ ap (first_new (λ act. false)) (none_at bound 0)
  edge_is (Some x) l = first_one (filter (goes_into b) run) x l bound (keys_below link_of run x in_run) where
    in_run : In run x
    in_run = (filter_in (goes_into b) run x (subst (λ (xs : List Step). In xs x) (sym l.is) (in_right l.before (x ∷ l.later) x (inl refl)))).0

  pub only_one : (o : Option Step) → AreOfOneAct (filter (goes_into b) run) o →
      edges_into b (sorted_by link_of run) ≡ cons_option (option_map (λ (s : Step). s.edge) o) []
  only_one o are =
      ap (edges_into b) (sorted_by_is link_of run bound (keys_below link_of run))
      ∙ ap (first_new (λ act. false)) (filter_by_key (goes_into b) link_of bound run)
      ∙ edge_is o are
