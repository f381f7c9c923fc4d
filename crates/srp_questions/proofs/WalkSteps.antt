-- What is right of a router follows from what is right of those to whom it forwards.
use Rattle.std.proofs.Common.{◌≡◌, ◌⊎◌, ℕ, ◌+◌, ◌<◌, ◌≤◌, Bool, true, false, ◌&&◌, ◌||◌, List, [], ◌∷◌, length, set, replicate, fold, max, Option, None, refl, sym, ap, ◌∙◌, subst, arith, inl, inr, true≢false}
use Rattle.std.specs.Prelude.{Contains, MatchBool, slice_index}
use Rattle.std.specs.List.{list_any}
use Rattle.std.proofs.lemmas.Bool.{and_parts, and_from, or_cases, or_left, or_right, cases_lt, cases_eq}
use Rattle.std.proofs.lemmas.List.{get_or-set_same, get_or-set_other, get_or-replicate, length-replicate, get_or_past}
use Rattle.base_kit.proofs.Elements.{In, contains_in, in_contains}
use Rattle.srp_core.specs.declared.route.Route.{Route}
use Rattle.srp_core.specs.Problem.{Problem}
use Rattle.srp_core.specs.Stability.{label}
use Rattle.srp_questions.specs.Chains.{IsChain, hops_of, end_of}
use Rattle.srp_questions.specs.NextHops.{AreNextOf}
use Rattle.srp_questions.specs.Walks.{IsLongest, longest_over, is_marked, Reaches}
use Rattle.srp_questions.proofs.ChainFacts.{none_forwards}

-- a test that passes exactly where something holds
pub told_by : (b : Bool) (Q : Type 0) → (b ≡ true → Q) → (Q → b ≡ true) → MatchBool b Q (¬ Q)
told_by true Q to from = to refl
told_by false Q to from = λ q. true≢false (sym (from q))

pub told_true : (b : Bool) (Q : Type 0) → MatchBool b Q (¬ Q) → b ≡ true → Q
told_true true Q told e = told
told_true false Q told e = absurd (true≢false (sym e))

pub true_told : (b : Bool) (Q : Type 0) → MatchBool b Q (¬ Q) → Q → b ≡ true
true_told true Q told q = refl
true_told false Q told q = absurd (told q)

-- whether a router reaches a goal is told by the flag
abbrev pub Told : Problem → List (Option Route) → List Bool → List Bool → ℕ → Bool → Type 0
Told P L allowed goals u b = MatchBool b (Reaches P L allowed goals u) (¬ Reaches P L allowed goals u)

-- ---- the greatest of some numbers

abbrev step : List ℕ → ℕ → ℕ → ℕ
step lengths most router = max most (slice_index lengths router + 1)

grown : (lengths next : List ℕ) (m : ℕ) → m ≤ fold (step lengths) m next
grown lengths [] m = omega arith
grown lengths (v ∷ next) m = let rest = grown lengths next (step lengths m v) in omega (arith, rest)

above : (lengths next : List ℕ) (m v : ℕ) → In next v → slice_index lengths v + 1 ≤ fold (step lengths) m next
above lengths [] m v i = absurd i
above lengths (w ∷ next) m v (inl e) =
    let same = ap (slice_index lengths) e in let rest = grown lengths next (step lengths m w) in omega (arith, rest, same)
above lengths (w ∷ next) m v (inr later) = above lengths next (step lengths m w) v later

one_of : (lengths next : List ℕ) (m : ℕ) → (fold (step lengths) m next ≡ m) ⊎ ((v : ℕ) × In next v × (fold (step lengths) m next ≡ slice_index lengths v + 1))
one_of lengths [] m = inl refl
one_of lengths (w ∷ next) m = elim (one_of lengths next (step lengths m w)) [
  | inl same ↦ elim (either m (slice_index lengths w + 1)) [ inl first ↦ inl (same ∙ first) | inr second ↦ inr (w, inl refl, same ∙ second) ]
  | inr later ↦ inr (later.0, inr later.1, later.2)
]
  where
    either : (a b : ℕ) → (max a b ≡ a) ⊎ (max a b ≡ b)
    either a b = elim (cases_lt a b) [ inl less ↦ inr (omega arith) | inr le ↦ inl (omega arith) ]

-- they are few where the numbers are
pub few_over : (lengths next : List ℕ) (bound : ℕ) → ((v : ℕ) → slice_index lengths v ≤ bound) → longest_over lengths next ≤ bound + 1
few_over lengths next bound few = elim (one_of lengths next 0) [
  | inl none ↦ omega arith
  | inr one ↦ (let f = few one.0 in let e = one.2 in omega arith)
]

-- one number more
pub few_more : (numbers : List ℕ) (place new bound : ℕ) → place < length numbers → ((v : ℕ) → slice_index numbers v ≤ bound) → new ≤ bound + 1 →
    (v : ℕ) → slice_index (set numbers place new) v ≤ bound + 1
few_more numbers place new bound inside few le v = elim (cases_eq place v) [
  | inl same ↦
      let here = get_or-set_same numbers place new 0 inside in
      let at = ap (λ (k : ℕ). slice_index (set numbers place new) k) same in
      omega (arith, here, at, le)
  | inr differ ↦ (let other = get_or-set_other numbers place v new 0 (λ same. differ (sym same)) in let f = few v in omega (arith, other, f))
]

-- no number but 0
pub zeros : (numbers : List ℕ) (count v : ℕ) → numbers ≡ replicate count 0 → slice_index numbers v ≡ 0
zeros numbers count v are = ap (λ (l : List ℕ). slice_index l v) are ∙ elim (cases_lt v count) [
  | inl inside ↦ get_or-replicate count v 0 0 inside
  | inr past ↦ get_or_past (replicate count 0) v 0 (let l = length-replicate {A = ℕ} count 0 in omega (arith, l, past))
]

module _ (P : Problem) (L : List (Option Route)) where
  -- ---- the longest chain

  pub longest_alone : (u : ℕ) → label L u ≡ None → IsLongest P L u 0
  longest_alone u none = record { behind = []; chain = tt; long = refl; longest = only }
    where
      only : (others : List ℕ) → IsChain P L u others → hops_of others ≤ 0
      only [] chain = omega arith
      only (v ∷ rest) chain = absurd (none_forwards P L u v none chain.0)

  pub longest_step : (u : ℕ) (next : List ℕ) → AreNextOf P L u next → (lengths : List ℕ) → ((v : ℕ) → In next v → IsLongest P L v (slice_index lengths v)) →
      IsLongest P L u (longest_over lengths next)
  longest_step u next are lengths right = elim (one_of lengths next 0) [
    | inl none ↦ record { behind = []; chain = tt; long = sym none; longest = longest }
    | inr one ↦
        let there = right one.0 one.1 in
        let e = one.2 in
        let l = there.long in
        record {
          behind = one.0 ∷ there.behind;
          chain = (are.sound one.0 (contains_in next one.0 one.1), there.chain);
          long = omega (arith, l, e);
          longest = longest;
        }
  ]
    where
      longest : (others : List ℕ) → IsChain P L u others → hops_of others ≤ longest_over lengths next
      longest [] chain = omega arith
      longest (v ∷ rest) chain =
          let i = in_contains next v (are.all v chain.0) in
          let shorter = (right v i).longest rest chain.1 in
          let more = above lengths next 0 v i in
          omega (arith, shorter, more)

  -- ---- chains through allowed routers to a goal

  module _ (allowed goals : List Bool) where
    here : (u : ℕ) → is_marked allowed u ≡ true → is_marked goals u ≡ true → Reaches P L allowed goals u
    here u o g = record {
      behind = [];
      chain = tt;
      through = λ v c. (elim (in_contains (u ∷ []) v c) [
        | inl e ↦ subst (λ w. is_marked allowed w ≡ true) e o
        | inr never ↦ absurd never
      ]);
      ends = g;
    }

    beginning : (u : ℕ) (r : Reaches P L allowed goals u) → is_marked allowed u ≡ true
    beginning u r = r.through u (contains_in (u ∷ r.behind) u (inl refl))

    pub reach_alone : (u : ℕ) → label L u ≡ None → (b : Bool) → b ≡ (is_marked allowed u && is_marked goals u) →
        MatchBool b (Reaches P L allowed goals u) (¬ Reaches P L allowed goals u)
    reach_alone u none b is = told_by b (Reaches P L allowed goals u)
        (λ e. (let p = and_parts (is_marked allowed u) (is_marked goals u) (sym is ∙ e) in here u p.0 p.1))
        (λ r. is ∙ and_from (is_marked allowed u) (is_marked goals u) (beginning u r) (at_end r.behind r.chain r.ends))
      where
        at_end : (behind : List ℕ) → IsChain P L u behind → is_marked goals (end_of u behind) ≡ true → is_marked goals u ≡ true
        at_end [] chain ends = ends
        at_end (v ∷ rest) chain ends = absurd (none_forwards P L u v none chain.0)

    any_marked : (marks : List Bool) (next : List ℕ) → list_any (is_marked marks) next ≡ true → (v : ℕ) × In next v × (is_marked marks v ≡ true)
    any_marked marks [] e = absurd (true≢false (sym e))
    any_marked marks (v ∷ next) e = elim (or_cases (is_marked marks v) (list_any (is_marked marks) next) e) [
      | inl first ↦ (v, inl refl, first)
      | inr later ↦ (let t = any_marked marks next later in (t.0, inr t.1, t.2))
    ]

    marked_any : (marks : List Bool) (next : List ℕ) (v : ℕ) → In next v → is_marked marks v ≡ true → list_any (is_marked marks) next ≡ true
    marked_any marks [] v i e = absurd i
    marked_any marks (w ∷ next) v (inl same) e =
        or_left (is_marked marks w) (list_any (is_marked marks) next) (ap (is_marked marks) same ∙ e)
    marked_any marks (w ∷ next) v (inr later) e =
        or_right (is_marked marks w) (list_any (is_marked marks) next) (marked_any marks next v later e)

    pub reach_step : (u : ℕ) (next : List ℕ) → AreNextOf P L u next → (reaching : List Bool) →
        ((v : ℕ) → In next v → MatchBool (is_marked reaching v) (Reaches P L allowed goals v) (¬ Reaches P L allowed goals v)) →
        (b : Bool) → b ≡ (is_marked allowed u && (is_marked goals u || list_any (is_marked reaching) next)) →
        MatchBool b (Reaches P L allowed goals u) (¬ Reaches P L allowed goals u)
    reach_step u next are reaching right b is = told_by b (Reaches P L allowed goals u) to
        (λ r. is ∙ and_from (is_marked allowed u) (is_marked goals u || list_any (is_marked reaching) next) (beginning u r)
        (from r.behind r.chain r.through r.ends))
      where
        to : b ≡ true → Reaches P L allowed goals u
        to e =
            let p = and_parts (is_marked allowed u) (is_marked goals u || list_any (is_marked reaching) next) (sym is ∙ e) in
            elim (or_cases (is_marked goals u) (list_any (is_marked reaching) next) p.1) [
              | inl goal ↦ here u p.0 goal
              | inr on ↦
                  let t = any_marked reaching next on in
                  let r = told_true (is_marked reaching t.0) (Reaches P L allowed goals t.0) (right t.0 t.1) t.2 in
                  record {
                    behind = t.0 ∷ r.behind;
                    chain = (are.sound t.0 (contains_in next t.0 t.1), r.chain);
                    through = λ v c. elim (in_contains (u ∷ t.0 ∷ r.behind) v c) [
                      | inl same ↦ subst (λ w. is_marked allowed w ≡ true) same p.0
                      | inr later ↦ r.through v (contains_in (t.0 ∷ r.behind) v later)
                    ];
                    ends = r.ends;
                  }
            ]

        from : (behind : List ℕ) → IsChain P L u behind → ((v : ℕ) → Contains (u ∷ behind) v → is_marked allowed v ≡ true) →
            is_marked goals (end_of u behind) ≡ true → (is_marked goals u || list_any (is_marked reaching) next) ≡ true
        from [] chain through ends = or_left (is_marked goals u) (list_any (is_marked reaching) next) ends
        from (v ∷ rest) chain through ends =
            let i = in_contains next v (are.all v chain.0) in
            let r : Reaches P L allowed goals v = record {
              behind = rest;
              chain = chain.1;
              through = λ w c. through w (contains_in (u ∷ v ∷ rest) w (inr (in_contains (v ∷ rest) w c)));
              ends = ends;
            } in
            or_right (is_marked goals u) (list_any (is_marked reaching) next)
            (marked_any reaching next v i (true_told (is_marked reaching v) (Reaches P L allowed goals v) (right v i) r))
