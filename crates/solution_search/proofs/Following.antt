-- What a step of the search does to what has been searched.
use Rattle.std.proofs.Common.{◌≡◌, ◌⊎◌, ℕ, zero, suc, ◌<◌, Bool, false, List, [], ◌∷◌, ◌++◌, length, replicate, Option, Some, None, refl, sym, ap, subst, inl, inr, arith}
use Rattle.std.specs.Prelude.{Contains, slice_get, slice_index_or}
use Rattle.std.proofs.lemmas.Bool.{cases_lt}
use Rattle.std.proofs.lemmas.List.{get_or-replicate, length-replicate, get_or_past}
use Rattle.std.proofs.lemmas.List.Elements.{Contains-append_left, Contains-append_right, Contains-append_cases}
use Rattle.base_kit.proofs.Elements.{contains_in, in_contains}
use Rattle.srp_core.specs.declared.route.Route.{Route}
use Rattle.srp_core.specs.Routes.{preference_of}
use Rattle.srp_core.specs.Problem.{Problem, count, IsProblem}
use Rattle.srp_core.specs.Stability.{IsStable}
use Rattle.srp_core.specs.Weak.{IsWeaklyStable}
use Rattle.srp_core.specs.Solutions.{HaveEqualKeys, AreAllSolutions, HoldsHoweverTiesBreak}
use Rattle.srp_core.proofs.Filling.{nothing}
use Rattle.solution_search.specs.Cases.{Case, IsOffer, IsOpen, IsNext, taken, waiting, AreUnbeaten, IsBeaten, HasOneKey, HasNoTie, IsCase, Admits, start_of}
use Rattle.solution_search.specs.Search.{HasCaseFor, AreApart, IsSearched}
use Rattle.solution_search.proofs.Carried.{stable_weak}
use Rattle.solution_search.proofs.Taking.{IsMet, stably, weakly, taken_case, waiting_case, one_key, taken_within, waiting_within, fork_apart, beaten_stable, beaten_weak, fork_admits}
use Rattle.solution_search.proofs.CaseEnds.{keys_back, admits_same, end_stable, end_admits_itself, keys_at_end, forwards_at_end, forwarded_at_end}

-- ---- lists

pub get_contains : {X : Type 0} (xs : List X) (k : ℕ) (x : X) → slice_get xs k ≡ Some x → Contains xs x
get_contains [] k x e = absurd (cc)
get_contains (y ∷ ys) zero x e = let same : y ≡ x = cc in (0, omega arith, same)
get_contains (y ∷ ys) (suc k) x e = let c = get_contains ys k x e in (suc c.0, omega (arith, c.1), c.2)

get_inside : {X : Type 0} (xs : List X) (k : ℕ) (x : X) → slice_get xs k ≡ Some x → k < length xs
get_inside [] k x e = absurd (cc)
get_inside (y ∷ ys) zero x e = omega arith
get_inside (y ∷ ys) (suc k) x e = let h = get_inside ys k x e in omega (arith, h)

get_append : {X : Type 0} (xs : List X) (y : X) (k : ℕ) (z : X) → slice_get (xs ++ y ∷ []) k ≡ Some z → (slice_get xs k ≡ Some z) ⊎ ((k ≡ length xs) × (y ≡ z))
get_append [] y zero z e = let same : y ≡ z = cc in inr (refl, same)
get_append [] y (suc k) z e = absurd (cc)
get_append (x ∷ xs) y zero z e = inl e
get_append (x ∷ xs) y (suc k) z e = elim (get_append xs y k z e) [ inl old ↦ inl old | inr new ↦ inr (ap suc new.0, new.1) ]

pub head_in : {X : Type 0} (x : X) (xs : List X) → Contains (x ∷ xs) x
head_in x xs = contains_in (x ∷ xs) x (inl refl)

pub tail_in : {X : Type 0} (x y : X) (xs : List X) → Contains xs y → Contains (x ∷ xs) y
tail_in x y xs i = contains_in (x ∷ xs) y (inr (in_contains xs y i))

abbrev wait_at : List (Option ℕ) → ℕ → Option ℕ
wait_at waits u = slice_index_or waits u None

no_wait : (n u p : ℕ) → wait_at (replicate n None) u ≡ Some p → ⊥
no_wait n u p e = elim (cases_lt u n) [
  | inl h ↦ let empty : wait_at (replicate n None) u ≡ None = get_or-replicate n u None None h in cc
  | inr h ↦ let empty : wait_at (replicate n None) u ≡ None =
      get_or_past (replicate n None) u None (let l = length-replicate {A = Option ℕ} n None in omega (arith, l)) in cc
]

module _ (P : Problem) (good : IsProblem P) where
  apart_append : (cases others : List Case) → AreApart P cases → AreApart P others →
      ((case other : Case) (L : List (Option Route)) → Contains cases case → Contains others other → Admits P case L → ¬ Admits P other L) →
      AreApart P (cases ++ others)
  apart_append [] others a b h = b
  apart_append (case ∷ cases) others a b h = (
    λ other L i first. elim (Contains-append_cases cases others other i) [
      | inl own ↦ a.0 other L own first
      | inr old ↦ h case other L (head_in case cases) old first
    ],
    apart_append cases others a.1 b (λ c other L i j. h c other L (tail_in case c cases i) j),
  )

  -- the cases that follow a case: they admit what it admits of the labels that count
  record Follow (case : Case) (next : List Case) (tied : Bool) : Type 0 where
    rules : (new : Case) → Contains next new → IsCase P new
    untied : tied ≡ false → (new : Case) → Contains next new → HasNoTie P new.labels
    apart : AreApart P next
    within : (new : Case) (L : List (Option Route)) → Contains next new → Admits P new L → Admits P case L
    stable : (L : List (Option Route)) → IsStable P L → Admits P case L → HasCaseFor P next L
    weak : tied ≡ false → (L : List (Option Route)) → IsWeaklyStable P L → Admits P case L → HasCaseFor P next L

  follow : (found : List (List (Option Route))) (case : Case) (cases next : List Case) (tied tied' : Bool) → IsSearched P found (case ∷ cases) tied →
      (tied' ≡ false → tied ≡ false) → Follow case next tied' → IsSearched P found (next ++ cases) tied'
  follow found case cases next tied tied' searched kept f = record {
    rules = λ c i. elim (Contains-append_cases next cases c i) [ inl new ↦ f.rules c new | inr old ↦ searched.rules c (tail_in case c cases old) ];
    untied = λ e c i. elim (Contains-append_cases next cases c i) [
      | inl new ↦ f.untied e c new
      | inr old ↦ searched.untied (kept e) c (tail_in case c cases old)
    ];
    apart = apart_append next cases f.apart searched.apart.1 (λ c other L i j a. searched.apart.0 other L j (f.within c L i a));
    stable = searched.stable;
    distinct = searched.distinct;
    new = λ L c m i. elim (Contains-append_cases next cases c i) [
      | inl new ↦ λ a. searched.new L case m (head_in case cases) (f.within c L new a)
      | inr old ↦ searched.new L c m (tail_in case c cases old)
    ];
    all = λ L st. elim (searched.all L st) [ inl member ↦ inl member | inr has ↦ inr (moved L has (λ a. f.stable L st a)) ];
    weak = λ e L w. elim (searched.weak (kept e) L w) [ inl member ↦ inl member | inr has ↦ inr (moved L has (λ a. f.weak e L w a)) ];
  }
    where
      moved : (L : List (Option Route)) → HasCaseFor P (case ∷ cases) L → (Admits P case L → HasCaseFor P next L) → HasCaseFor P (next ++ cases) L
      moved L has lead = elim (in_contains (case ∷ cases) has.case has.inside) [
        | inl same ↦
            let g = lead (subst (λ c. Admits P c L) (sym same) has.admits) in
            record { case = g.case; inside = Contains-append_left next cases g.case g.inside; admits = g.admits }
        | inr there ↦ record {
          case = has.case;
          inside = Contains-append_right next cases has.case (contains_in cases has.case there);
          admits = has.admits;
        }
      ]

  one_case : (case : Case) (L : List (Option Route)) → Admits P case L → HasCaseFor P (case ∷ []) L
  one_case case L admits = record { case = case; inside = head_in case []; admits = admits }

  only : (case : Case) (X : Case → Type 0) → X case → (new : Case) → Contains (case ∷ []) new → X new
  only case X x new i = elim (in_contains (case ∷ []) new i) [ inl same ↦ subst X same x | inr nil ↦ absurd nil ]

  both : (first second : Case) (X : Case → Type 0) → X first → X second → (new : Case) → Contains (first ∷ second ∷ []) new → X new
  both first second X x y new i = elim (in_contains (first ∷ second ∷ []) new i) [
    | inl same ↦ subst X same x
    | inr later ↦ elim later [ inl same ↦ subst X same y | inr nil ↦ absurd nil ]
  ]

  none_of : (X : Case → Type 0) → (new : Case) → Contains [] new → X new
  none_of X new i = absurd (in_contains [] new i)

  pub started : IsSearched P [] (start_of P ∷ []) false
  started = record {
    rules = only (start_of P) (IsCase P) (record {
      fitting = record { total = length-replicate (count P) None; routes = λ u r e. absurd (nothing P u r e) };
      waits = length-replicate (count P) None;
      held = λ u r e. absurd (nothing P u r e);
      unbeaten = record { best = λ u r c e cand. absurd (nothing P u r e) };
      offered = λ u p none w. absurd (no_wait (count P) u p w);
    });
    untied = λ e. only (start_of P) (λ c. HasNoTie P c.labels) (record { same = λ u r c lab cand e'. absurd (nothing P u r lab) });
    apart = ((λ other L i a. absurd (in_contains [] other i)), tt);
    stable = λ L i. absurd (in_contains [] L i);
    distinct = λ i j first second less e. (let h = get_inside [] i first e in absurd (omega (arith, h)));
    new = λ L c i. absurd (in_contains [] L i);
    all = λ L st. inr (one_case (start_of P) L (admitted L));
    weak = λ e L w. inr (one_case (start_of P) L (admitted L));
  }
    where
      admitted : (L : List (Option Route)) → Admits P (start_of P) L
      admitted L = record { settled = λ u r e. absurd (nothing P u r e); waited = λ u p none w. absurd (no_wait (count P) u p w) }

  module _ (found : List (List (Option Route))) (case : Case) (cases : List Case) (tied : Bool) (searched : IsSearched P found (case ∷ cases) tied) where
    rules : IsCase P case
    rules = searched.rules case (head_in case cases)

    -- the router takes its best offer, which leads to the labels that the case admits
    module _ (u : ℕ) (d : Route) (opened : IsOpen P case u d) (tied' : Bool) (kept : tied' ≡ false → tied ≡ false)
        (leads : IsCase P case → (L : List (Option Route)) → IsMet P case u d L → Admits P case L → Admits P (taken case u d) L) where
      -- the router is settled
      pub settled : AreUnbeaten P (taken case u d).labels → (tied' ≡ false → HasNoTie P (taken case u d).labels) →
          IsSearched P found (taken case u d ∷ cases) tied'
      settled unbeaten untied = follow found case cases (taken case u d ∷ []) tied tied' searched kept (record {
        rules = only (taken case u d) (IsCase P) (taken_case P good case rules u d opened unbeaten);
        untied = λ e. only (taken case u d) (λ c. HasNoTie P c.labels) (untied e);
        apart = ((λ other L i a. absurd (in_contains [] other i)), tt);
        within = λ c L i. only (taken case u d) (λ x. Admits P x L → Admits P case L) (taken_within P good case rules u d opened L) c i;
        stable = λ L st a. one_case (taken case u d) L (leads rules L (stably st) a);
        weak = λ e L w a. one_case (taken case u d) L (leads rules L (weakly w (one_key P good case rules u d opened (untied e))) a);
      })

      -- the router is settled, and a label is beaten
      pub settled_beaten : IsBeaten P tied' (taken case u d).labels → (tied' ≡ false → HasOneKey P case u d) →
          IsSearched P found cases tied'
      settled_beaten beaten one = follow found case cases [] tied tied' searched kept (record {
        rules = none_of (IsCase P);
        untied = λ e. none_of (λ c. HasNoTie P c.labels);
        apart = tt;
        within = λ c L i. absurd (in_contains [] c i);
        stable = λ L st a. absurd (beaten_stable P good case rules u d opened tied' beaten L st
            (leads rules L (stably st) a));
        weak = λ e L w a. absurd (beaten_weak P good case rules u d opened tied' beaten e L w
            (leads rules L (weakly w (one e)) a));
      })

    module _ (u : ℕ) (d : Route) (next : IsNext P case u d) (tied' : Bool) (kept : tied' ≡ false → tied ≡ false) where
      met : HasOneKey P case u d → (L : List (Option Route)) → IsWeaklyStable P L → IsMet P case u d L
      met one L w = weakly w one

      -- the router is settled, or waits
      pub forked : AreUnbeaten P (taken case u d).labels → (tied' ≡ false → HasNoTie P (taken case u d).labels) →
          IsSearched P found (taken case u d ∷ waiting case u (preference_of d) ∷ cases) tied'
      forked unbeaten untied =
          follow found case cases (taken case u d ∷ waiting case u (preference_of d) ∷ []) tied tied' searched kept (record {
            rules = both (taken case u d) (waiting case u (preference_of d)) (IsCase P) (taken_case P good case rules u d next.is_open unbeaten)
                (waiting_case P good case rules u d next.is_open (preference_of d));
            untied = λ e. both (taken case u d) (waiting case u (preference_of d)) (λ c. HasNoTie P c.labels) (untied e)
                (searched.untied (kept e) case (head_in case cases));
            apart = (
              (λ other L i a. only (waiting case u (preference_of d)) (λ x. ¬ Admits P x L) (fork_apart P good case rules u d next.is_open L a) other i),
              ((λ other L i a. absurd (in_contains [] other i)), tt),
            );
            within = λ c L i. both (taken case u d) (waiting case u (preference_of d)) (λ x. Admits P x L → Admits P case L)
                (taken_within P good case rules u d next.is_open L) (waiting_within P good case rules u d next.is_open L) c i;
            stable = λ L st a. lead L (fork_admits P good case rules u d next.is_open next.smallest L (stably st) a);
            weak = λ e L w a. lead L
                (fork_admits P good case rules u d next.is_open next.smallest L (met (one_key P good case rules u d next.is_open (untied e)) L w) a);
          })
        where
          lead : (L : List (Option Route)) → Admits P (taken case u d) L ⊎ Admits P (waiting case u (preference_of d)) L →
              HasCaseFor P (taken case u d ∷ waiting case u (preference_of d) ∷ []) L
          lead L (inl a) = record { case = taken case u d; inside = head_in (taken case u d) (waiting case u (preference_of d) ∷ []); admits = a }
          lead L (inr a) = record {
            case = waiting case u (preference_of d);
            inside = tail_in (taken case u d) (waiting case u (preference_of d)) (waiting case u (preference_of d) ∷ [])
                (head_in (waiting case u (preference_of d)) []);
            admits = a;
          }

      -- the router waits, since a label would be beaten if it were settled
      pub forked_beaten : IsBeaten P tied' (taken case u d).labels → (tied' ≡ false → HasOneKey P case u d) →
          IsSearched P found (waiting case u (preference_of d) ∷ cases) tied'
      forked_beaten beaten one = follow found case cases (waiting case u (preference_of d) ∷ []) tied tied' searched kept (record {
        rules = only (waiting case u (preference_of d)) (IsCase P) (waiting_case P good case rules u d next.is_open (preference_of d));
        untied = λ e. only (waiting case u (preference_of d)) (λ c. HasNoTie P c.labels) (searched.untied (kept e) case (head_in case cases));
        apart = ((λ other L i a. absurd (in_contains [] other i)), tt);
        within = λ c L i. only (waiting case u (preference_of d)) (λ x. Admits P x L → Admits P case L)
            (waiting_within P good case rules u d next.is_open L) c i;
        stable = λ L st a. one_case (waiting case u (preference_of d)) L
            (other L (beaten_stable P good case rules u d next.is_open tied' beaten L st)
            (fork_admits P good case rules u d next.is_open next.smallest L (stably st) a));
        weak = λ e L w a. one_case (waiting case u (preference_of d)) L
            (other L (beaten_weak P good case rules u d next.is_open tied' beaten e L w)
            (fork_admits P good case rules u d next.is_open next.smallest L (met (one e) L w) a));
      })
        where
          other : (L : List (Option Route)) → ¬ Admits P (taken case u d) L → Admits P (taken case u d) L ⊎ Admits P (waiting case u (preference_of d)) L →
              Admits P (waiting case u (preference_of d)) L
          other L never (inl a) = absurd (never a)
          other L never (inr a) = a

    -- the case admits no labels that count
    pub dead : (IsCase P case → (L : List (Option Route)) → IsWeaklyStable P L → ¬ Admits P case L) → IsSearched P found cases tied
    dead never = follow found case cases [] tied tied searched (λ e. e) (record {
      rules = none_of (IsCase P);
      untied = λ e. none_of (λ x. HasNoTie P x.labels);
      apart = tt;
      within = λ x L i. absurd (in_contains [] x i);
      stable = λ L st a. absurd (never rules L (stable_weak P good L st) a);
      weak = λ e L w a. absurd (never rules L w a);
    })

    module _ (left : (u : ℕ) (c : Route) → ¬ IsOffer P case u c) where
      pub solved_stable : IsStable P case.labels
      solved_stable = end_stable P good case rules left

      itself : Admits P case case.labels
      itself = end_admits_itself P good case rules left

      -- every router with an offer is settled: the labels are found
      pub solved : IsSearched P (found ++ case.labels ∷ []) cases tied
      solved = record {
        rules = λ c i. searched.rules c (tail_in case c cases i);
        untied = λ e c i. searched.untied e c (tail_in case c cases i);
        apart = searched.apart.1;
        stable = λ L i. elim (Contains-append_cases found (case.labels ∷ []) L i) [
          | inl old ↦ searched.stable L old
          | inr new ↦ elim (in_contains (case.labels ∷ []) L new) [ inl same ↦ subst (IsStable P) same solved_stable | inr nil ↦ absurd nil ]
        ];
        distinct = λ i j first second less e f. two i j first second less e f (get_append found case.labels i first e)
            (get_append found case.labels j second f);
        new = λ L c m i. elim (Contains-append_cases found (case.labels ∷ []) L m) [
          | inl old ↦ searched.new L c old (tail_in case c cases i)
          | inr new ↦ elim (in_contains (case.labels ∷ []) L new) [
            | inl same ↦ subst (λ l. ¬ Admits P c l) same (searched.apart.0 c case.labels i itself)
            | inr nil ↦ absurd nil
          ]
        ];
        all = λ L st. elim (searched.all L st) [
          | inl member ↦ inl (record {
            member = member.member;
            inside = Contains-append_left found (case.labels ∷ []) member.member member.inside;
            keys =
                member.keys;
          })
          | inr has ↦ elim (in_contains (case ∷ cases) has.case has.inside) [
            | inr there ↦ inr (record { case = has.case; inside = contains_in cases has.case there; admits = has.admits })
            | inl same ↦ inl (record {
              member = case.labels;
              inside = Contains-append_right found (case.labels ∷ []) case.labels (head_in case.labels []);
              keys = keys_at_end P good case rules left L (stable_weak P good L st) (subst (λ c. Admits P c L) (sym same) has.admits);
            })
          ]
        ];
        weak = λ e L w. elim (searched.weak e L w) [
          | inl member ↦ inl (record {
            member = member.member;
            inside = Contains-append_left found (case.labels ∷ []) member.member member.inside;
            keys = member.keys;
            forwards = member.forwards;
            forwarded = member.forwarded;
          })
          | inr has ↦ elim (in_contains (case ∷ cases) has.case has.inside) [
            | inr there ↦ inr (record { case = has.case; inside = contains_in cases has.case there; admits = has.admits })
            | inl same ↦
                let a : Admits P case L = subst (λ c. Admits P c L) (sym same) has.admits in
                inl (record {
                  member = case.labels;
                  inside = Contains-append_right found (case.labels ∷ []) case.labels (head_in case.labels []);
                  keys = keys_at_end P good case rules left L w a;
                  forwards = forwards_at_end P good case rules left L w a (searched.untied e case (head_in case cases));
                  forwarded = forwarded_at_end P good case rules left L w a;
                })
          ]
        ];
      }
        where
          two : (i j : ℕ) (first second : List (Option Route)) → i < j → slice_get (found ++ case.labels ∷ []) i ≡ Some first →
              slice_get (found ++ case.labels ∷ []) j ≡ Some second →
              (slice_get found i ≡ Some first) ⊎ ((i ≡ length found) × (case.labels ≡ first)) →
              (slice_get found j ≡ Some second) ⊎ ((j ≡ length found) × (case.labels ≡ second)) → ¬ HaveEqualKeys P first second
          two i j first second less e f (inl a) (inl b) = searched.distinct i j first second less a b
          two i j first second less e f (inl a) (inr b) = λ same.
              searched.new first case (get_contains found i first a) (head_in case cases)
              (admits_same P good case rules case.labels first (keys_back P first case.labels (subst (HaveEqualKeys P first) (sym b.1) same)) itself)
          two i j first second less e f (inr a) (inl b) = let h = get_inside found j second b in let at = a.0 in absurd (omega (arith, less, h, at))
          two i j first second less e f (inr a) (inr b) = let x = a.0 in let y = b.0 in absurd (omega (arith, less, x, y))

  no_case : (L : List (Option Route)) → ¬ HasCaseFor P [] L
  no_case L has = in_contains [] has.case has.inside

  -- nothing is left to be followed
  pub ended : (found : List (List (Option Route))) (tied : Bool) → IsSearched P found [] tied → AreAllSolutions P found
  ended found tied searched = record {
    stable = searched.stable;
    apart = searched.distinct;
    all = λ L st. elim (searched.all L st) [ inl member ↦ member | inr has ↦ absurd (no_case L has) ];
  }

  pub ended_weak : (found : List (List (Option Route))) (tied : Bool) → IsSearched P found [] tied → tied ≡ false → HoldsHoweverTiesBreak P found
  ended_weak found tied searched e = record {
    each = λ L w. elim (searched.weak e L w) [ inl member ↦ member | inr has ↦ absurd (no_case L has) ];
  }
