-- Tables of nodes that grow, and what is under their keys.
use Rattle.std.proofs.Common.{◌≡◌, ℕ, zero, suc, get_or, ◌<◌, Bool, true, false, ◌&&◌, ◌||◌, nat_eq, nat_lt, List, [], ◌∷◌, ◌++◌, length, Some, None, refl, sym, ◌∙◌, ap, subst, arith, inl, inr, ◌≢◌, ◌≤◌}
use Rattle.std.specs.Prelude.{if◌then◌else◌}
use Rattle.std.proofs.lemmas.Bool.{cases_order, cases_eq}
use Rattle.std.specs.List.{insert, remove}
use Rattle.std.proofs.lemmas.Bool.Decides.{nat_tests}
use Rattle.base_kit.specs.Sets.{has, AllAbove, IsAscending}
use Rattle.base_kit.proofs.SetFacts.{same_number, other_number}
use Rattle.dd_core.specs.Sets.{Shown, value_of, Grows, Means}
use Rattle.dd_core.proofs.ShownLemmas.{value_of_kept, grows_inside}
use Rattle.policy_dd.specs.Edge.{case_or, keys_of}
use Rattle.policy_dd.specs.Tables.{AllInside, node_at, keys_below, key_of_case, put_case, IsTableGrown, IsMoreBy, IsTable}

pub has-append : (xs ys : List ℕ) (k : ℕ) → has (xs ++ ys) k ≡ has xs k || has ys k
has-append [] ys k = refl
has-append (x ∷ xs) ys k = rw (has-append xs ys k) (or_assoc (nat_eq x k) (has xs k) (has ys k))
  where
    or_assoc : (a b c : Bool) → a || (b || c) ≡ (a || b) || c
    or_assoc true b c = refl
    or_assoc false b c = refl

-- a case that is there
pub case_at : (shown : Shown) (set : List ℕ) (cases : List (ℕ × ℕ)) (key node : ℕ) (other : Bool) → node_at cases key ≡ Some node →
    case_or shown set cases key other ≡ value_of shown set node
case_at shown set [] key node other at = absurd cc
case_at shown set (case ∷ cases) key node other at = by (nat_eq case.0 key) at (case_at shown set cases key node other)
  where
    by : (b : Bool) → (if b then Some case.1 else node_at cases key) ≡ Some node →
        (node_at cases key ≡ Some node → case_or shown set cases key other ≡ value_of shown set node) →
        (if b then value_of shown set case.1 else case_or shown set cases key other) ≡ value_of shown set node
    by true at rest = let e : case.1 ≡ node = cc in ap (value_of shown set) e
    by false at rest = rest at

pub case_not_at : (shown : Shown) (set : List ℕ) (cases : List (ℕ × ℕ)) (key : ℕ) (other : Bool) → node_at cases key ≡ None →
    case_or shown set cases key other ≡ other
case_not_at shown set [] key other at = refl
case_not_at shown set (case ∷ cases) key other at = by (nat_eq case.0 key) at (case_not_at shown set cases key other)
  where
    by : (b : Bool) → (if b then Some case.1 else node_at cases key) ≡ None → (node_at cases key ≡ None → case_or shown set cases key other ≡ other) →
        (if b then value_of shown set case.1 else case_or shown set cases key other) ≡ other
    by true at rest = absurd cc
    by false at rest = rest at

pub case_inside : (shown : Shown) (cases : List (ℕ × ℕ)) (key node : ℕ) → AllInside shown cases → node_at cases key ≡ Some node → node < length shown.nodes
case_inside shown [] key node all at = absurd cc
case_inside shown (case ∷ cases) key node all at = by (nat_eq case.0 key) at (case_inside shown cases key node all.1)
  where
    by : (b : Bool) → (if b then Some case.1 else node_at cases key) ≡ Some node → (node_at cases key ≡ Some node → node < length shown.nodes) →
        node < length shown.nodes
    by true at rest = let e : case.1 ≡ node = cc in let lt = all.0 in omega arith
    by false at rest = rest at

pub case_kept : (old new : Shown) (set : List ℕ) (cases : List (ℕ × ℕ)) (key : ℕ) (other other' : Bool) → Grows old new → AllInside old cases → other ≡ other' →
    case_or new set cases key other ≡ case_or old set cases key other'
case_kept old new set [] key other other' grows all e = e
case_kept old new set (case ∷ cases) key other other' grows all e =
    rw (value_of_kept old new set case.1 grows all.0, case_kept old new set cases key other other' grows all.1 e) refl

put_less : (key node : ℕ) (case : ℕ × ℕ) (cases : List (ℕ × ℕ)) → case.0 < key → put_case key node (case ∷ cases) ≡ case ∷ put_case key node cases
put_less key node case cases lt = let e : nat_lt case.0 key ≡ true = grind (arith, nat_tests) in rw e refl

put_same : (key node : ℕ) (case : ℕ × ℕ) (cases : List (ℕ × ℕ)) → case.0 ≡ key → put_case key node (case ∷ cases) ≡ (key, node) ∷ cases
put_same key node case cases same = let e : nat_lt case.0 key ≡ false = grind (arith, nat_tests) in rw (e, same_number case.0 key same) refl

put_more : (key node : ℕ) (case : ℕ × ℕ) (cases : List (ℕ × ℕ)) → key < case.0 → put_case key node (case ∷ cases) ≡ (key, node) ∷ case ∷ cases
put_more key node case cases gt = let e : nat_lt case.0 key ≡ false = grind (arith, nat_tests) in rw (e, other_number case.0 key (omega arith)) refl

pub case-put : (shown : Shown) (set : List ℕ) (key node : ℕ) (cases : List (ℕ × ℕ)) (k : ℕ) (other : Bool) →
    case_or shown set (put_case key node cases) k other ≡ (if nat_eq key k then value_of shown set node else case_or shown set cases k other)
case-put shown set key node [] k other = refl
case-put shown set key node (case ∷ cases) k other = elim (cases_order case.0 key) [
  | inl e ↦ rw (put_same key node case cases e) (same_key (nat_eq key k) refl e)
  | inr (inl l) ↦ rw (put_less key node case cases l) (elim (cases_eq case.0 k) [
    | inl here ↦ rw (same_number case.0 k here, other_number key k (omega arith)) refl
    | inr ne ↦ rw (other_number case.0 k ne) (case-put shown set key node cases k other)
  ])
  | inr (inr g) ↦ rw (put_more key node case cases g) refl
]
  where
    same_key : (b : Bool) → nat_eq key k ≡ b → case.0 ≡ key →
        (if b then value_of shown set node else case_or shown set cases k other) ≡ (if b then value_of shown set node
        else (if nat_eq case.0 k then value_of shown set case.1 else case_or shown set cases k other))
    same_key true is e = refl
    same_key false is e = rw (e, is) refl

pub inside-put : (shown : Shown) (key node : ℕ) (cases : List (ℕ × ℕ)) → node < length shown.nodes → AllInside shown cases →
    AllInside shown (put_case key node cases)
inside-put shown key node [] inside all = (inside, tt)
inside-put shown key node (case ∷ cases) inside all = elim (cases_order case.0 key) [
  | inl e ↦ rw (put_same key node case cases e) (inside, all.1)
  | inr (inl l) ↦ rw (put_less key node case cases l) (all.0, inside-put shown key node cases inside all.1)
  | inr (inr g) ↦ rw (put_more key node case cases g) (inside, all)
]

above_less : (m n : ℕ) (xs : List ℕ) → m < n → AllAbove n xs → AllAbove m xs
above_less m n [] lt all = tt
above_less m n (x ∷ xs) lt all = (let gt = all.0 in omega arith, above_less m n xs lt all.1)

above-put : (m key node : ℕ) (cases : List (ℕ × ℕ)) → m < key → AllAbove m (keys_of cases) → AllAbove m (keys_of (put_case key node cases))
above-put m key node [] lt all = (lt, tt)
above-put m key node (case ∷ cases) lt all = elim (cases_order case.0 key) [
  | inl e ↦ rw (put_same key node case cases e) (lt, all.1)
  | inr (inl l) ↦ rw (put_less key node case cases l) (all.0, above-put m key node cases lt all.1)
  | inr (inr g) ↦ rw (put_more key node case cases g) (lt, all)
]

pub ascending-put : (key node : ℕ) (cases : List (ℕ × ℕ)) → IsAscending (keys_of cases) → IsAscending (keys_of (put_case key node cases))
ascending-put key node [] up = (tt, tt)
ascending-put key node (case ∷ cases) up = elim (cases_order case.0 key) [
  | inl e ↦ rw (put_same key node case cases e) (subst (λ n. AllAbove n (keys_of cases)) e up.0, up.1)
  | inr (inl l) ↦ rw (put_less key node case cases l) (above-put case.0 key node cases l up.0, ascending-put key node cases up.1)
  | inr (inr g) ↦ rw (put_more key node case cases g) ((g, above_less key case.0 (keys_of cases) g up.0), up)
]

-- the place of a key
below_less : (key : ℕ) (case : ℕ × ℕ) (cases : List (ℕ × ℕ)) → case.0 < key → keys_below key (case ∷ cases) ≡ suc (keys_below key cases)
below_less key case cases lt = let e : nat_lt case.0 key ≡ true = grind (arith, nat_tests) in rw e (omega arith)

below_more : (key : ℕ) (case : ℕ × ℕ) (cases : List (ℕ × ℕ)) → key ≤ case.0 → keys_below key (case ∷ cases) ≡ 0
below_more key case cases le = let e : nat_lt case.0 key ≡ false = grind (arith, nat_tests) in rw e refl

pub below_within : (key : ℕ) (cases : List (ℕ × ℕ)) → keys_below key cases ≤ length cases
below_within key [] = omega arith
below_within key (case ∷ cases) = elim (cases_order case.0 key) [
  | inl e ↦ let count = below_more key case cases (omega arith) in omega arith
  | inr (inl l) ↦ let count = below_less key case cases l in let rest = below_within key cases in omega arith
  | inr (inr g) ↦ let count = below_more key case cases (omega arith) in omega arith
]

pub put_there : (key node : ℕ) (cases : List (ℕ × ℕ)) → keys_below key cases < length cases → key_of_case cases (keys_below key cases) ≡ key →
    insert (remove cases (keys_below key cases)) (keys_below key cases) (key, node) ≡ put_case key node cases
put_there key node [] inside here = absurd (omega arith)
put_there key node (case ∷ cases) inside here = elim (cases_order case.0 key) [
  | inl e ↦ ap (λ (i : ℕ). insert (remove (case ∷ cases) i) i (key, node)) (below_more key case cases (omega arith)) ∙ sym (put_same key node case cases e)
  | inr (inl l) ↦
      let count = below_less key case cases l in
      ap (λ (i : ℕ). insert (remove (case ∷ cases) i) i (key, node)) count
      ∙ ap (λ (t : List (ℕ × ℕ)). case ∷ t) (put_there key node cases (omega arith) (ap (λ (i : ℕ). key_of_case (case ∷ cases) i) (sym count) ∙ here))
      ∙ sym (put_less key node case cases l)
  | inr (inr g) ↦ let first : case.0 ≡ key = ap (λ (i : ℕ). key_of_case (case ∷ cases) i) (sym (below_more key case cases (omega arith))) ∙ here in
      absurd (omega arith)
]

pub put_new : (key node : ℕ) (cases : List (ℕ × ℕ)) → (keys_below key cases < length cases → key_of_case cases (keys_below key cases) ≢ key) →
    insert cases (keys_below key cases) (key, node) ≡ put_case key node cases
put_new key node [] other = refl
put_new key node (case ∷ cases) other = elim (cases_order case.0 key) [
  | inl e ↦ let count = below_more key case cases (omega arith) in absurd (other (omega arith) (ap (λ (i : ℕ). key_of_case (case ∷ cases) i) count ∙ e))
  | inr (inl l) ↦
      let count = below_less key case cases l in
      ap (λ (i : ℕ). insert (case ∷ cases) i (key, node)) count
      ∙ ap (λ (t : List (ℕ × ℕ)). case ∷ t) (put_new key node cases
      (λ inside here. other (omega arith) (ap (λ (i : ℕ). key_of_case (case ∷ cases) i) count ∙ here)))
      ∙ sym (put_less key node case cases l)
  | inr (inr g) ↦ ap (λ (i : ℕ). insert (case ∷ cases) i (key, node)) (below_more key case cases (omega arith)) ∙ sym (put_more key node case cases g)
]

or_false : (b : Bool) → b ≡ b || false
or_false true = refl
or_false false = refl

same_again : (a r : Bool) → a || r ≡ (a || r) || a
same_again true r = refl
same_again false true = refl
same_again false false = refl

moved_out : (c r a : Bool) → c || (r || a) ≡ (c || r) || a
moved_out true r a = refl
moved_out false r a = refl

swapped : (a r : Bool) → a || r ≡ r || a
swapped true true = refl
swapped true false = refl
swapped false true = refl
swapped false false = refl

pub keys-put : (key node : ℕ) (cases : List (ℕ × ℕ)) (k : ℕ) → has (keys_of (put_case key node cases)) k ≡ has (keys_of cases) k || nat_eq key k
keys-put key node [] k = swapped (nat_eq key k) false
keys-put key node (case ∷ cases) k = elim (cases_order case.0 key) [
  | inl e ↦ rw (put_same key node case cases e, e) (same_again (nat_eq key k) (has (keys_of cases) k))
  | inr (inl l) ↦ rw (put_less key node case cases l, keys-put key node cases k) (moved_out (nat_eq case.0 k) (has (keys_of cases) k) (nat_eq key k))
  | inr (inr g) ↦ rw (put_more key node case cases g) (swapped (nat_eq key k) (nat_eq case.0 k || has (keys_of cases) k))
]

keys-put-one : (key node : ℕ) (cases : List (ℕ × ℕ)) (k : ℕ) → has (keys_of (put_case key node cases)) k ≡ has (keys_of cases) k || has (key ∷ []) k
keys-put-one key node cases k = keys-put key node cases k ∙ ap (λ b. has (keys_of cases) k || b) (or_false (nat_eq key k))

pub cases_inside_kept : (old new : Shown) (cases : List (ℕ × ℕ)) → Grows old new → AllInside old cases → AllInside new cases
cases_inside_kept old new [] grows all = tt
cases_inside_kept old new (case ∷ cases) grows all = (grows_inside old new case.1 grows all.0, cases_inside_kept old new cases grows all.1)

-- a new key
pub more_new : (store : Shown) (cases : List (ℕ × ℕ)) (key node : ℕ) → AllInside store cases → node < length store.nodes → node_at cases key ≡ None →
    IsMoreBy store store cases (put_case key node cases) key node
more_new store cases key node all inside at = record {
  inside = inside-put store key node cases inside all;
  ascending = ascending-put key node cases;
  keys_are = keys-put-one key node cases;
  value = λ set k. case-put store set key node cases k false ∙ (elim (cases_eq key k) [
    | inl e ↦ rw (same_number key k e, ← e, case_not_at store set cases key false at) refl
    | inr ne ↦ rw (other_number key k ne) (or_false (case_or store set cases k false))
  ]);
}

-- a key that is there
pub more_joined : (old new : Shown) (cases : List (ℕ × ℕ)) (key there node both : ℕ) → Grows old new → AllInside old cases → node_at cases key ≡ Some there →
    Means new both (λ set. value_of old set there || value_of old set node) → IsMoreBy old new cases (put_case key both cases) key node
more_joined old new cases key there node both grows all at is = record {
  inside = inside-put new key both cases is.inside (cases_inside_kept old new cases grows all);
  ascending = ascending-put key both cases;
  keys_are = keys-put-one key both cases;
  value = λ set k. case-put new set key both cases k false ∙ (elim (cases_eq key k) [
    | inl e ↦ rw (same_number key k e, is.value set, ← e, case_at old set cases key there false at) refl
    | inr ne ↦ rw (other_number key k ne, case_kept old new set cases k false false grows all refl) (or_false (case_or old set cases k false))
  ]);
}

-- a table that has grown, seen from an earlier store and from a later one
pub grown_between : (s0 s1 s2 s3 : Shown) (cases more : List (ℕ × ℕ)) (keys : List ℕ) (add add' : ℕ → List ℕ → Bool) → Grows s0 s1 → AllInside s0 cases →
    Grows s2 s3 → IsTableGrown s1 s2 cases more keys add → ((k : ℕ) (set : List ℕ) → add k set ≡ add' k set) → IsTableGrown s0 s3 cases more keys add'
grown_between s0 s1 s2 s3 cases more keys add add' g inside g' grown same = record {
  inside = cases_inside_kept s2 s3 more g' grown.inside;
  ascending = grown.ascending;
  keys_are = grown.keys_are;
  value = λ set k. case_kept s2 s3 set more k false false g' grown.inside refl ∙ grown.value set k
      ∙ rw (case_kept s0 s1 set cases k false false g inside refl, same k set) refl;
}

pub grown_none : (store : Shown) (cases : List (ℕ × ℕ)) (add : ℕ → List ℕ → Bool) → AllInside store cases → ((k : ℕ) (set : List ℕ) → add k set ≡ false) →
    IsTableGrown store store cases cases [] add
grown_none store cases add inside none = record {
  inside = inside;
  ascending = λ up. up;
  keys_are = λ k. or_false (has (keys_of cases) k);
  value = λ set k. or_false (case_or store set cases k false) ∙ ap (λ b. case_or store set cases k false || b) (sym (none k set));
}

or_and : (x a b n : Bool) → (x || (a && n)) || (b && n) ≡ x || ((a || b) && n)
or_and true a b n = refl
or_and false true true true = refl
or_and false true true false = refl
or_and false true false true = refl
or_and false true false false = refl
or_and false false b n = refl

-- one key more
pub all_keys : (old mid new : Shown) (cases more all : List (ℕ × ℕ)) (done : List ℕ) (key node : ℕ) → Grows old mid → node < length old.nodes →
    IsTableGrown old mid cases more done (λ k set. has done k && value_of old set node) → IsMoreBy mid new more all key node →
    IsTableGrown old new cases all (done ++ key ∷ []) (λ k set. has (done ++ key ∷ []) k && value_of old set node)
all_keys old mid new cases more all done key node grows inside before one = record {
  inside = one.inside;
  ascending = λ up. one.ascending (before.ascending up);
  keys_are = λ k. one.keys_are k ∙ ap (λ b. b || has (key ∷ []) k) (before.keys_are k) ∙ sym (moved_out (has (keys_of cases) k) (has done k) (has (key ∷ []) k))
      ∙ ap (λ b. has (keys_of cases) k || b) (sym (has-append done (key ∷ []) k));
  value = λ set k.
      one.value set k
      ∙ ap (λ b. b || (nat_eq key k && value_of mid set node)) (before.value set k)
      ∙ ap (λ b. (case_or old set cases k false || (has done k && value_of old set node)) || (nat_eq key k && b)) (value_of_kept old mid set node grows inside)
      ∙ or_and (case_or old set cases k false) (has done k) (nat_eq key k) (value_of old set node)
      ∙ ap (λ b. case_or old set cases k false || (b && value_of old set node))
      (ap (λ b. has done k || b) (or_false (nat_eq key k)) ∙ sym (has-append done (key ∷ []) k));
}

pub case-append : (shown : Shown) (set : List ℕ) (xs ys : List (ℕ × ℕ)) (k : ℕ) (other : Bool) →
    case_or shown set (xs ++ ys) k other ≡ case_or shown set xs k (case_or shown set ys k other)
case-append shown set [] ys k other = refl
case-append shown set (x ∷ xs) ys k other = rw (case-append shown set xs ys k other) refl

pub keys-append : (xs ys : List (ℕ × ℕ)) → keys_of (xs ++ ys) ≡ keys_of xs ++ keys_of ys
keys-append [] ys = refl
keys-append (x ∷ xs) ys = rw (keys-append xs ys) refl

pub inside-append : (shown : Shown) (xs : List (ℕ × ℕ)) (y : ℕ × ℕ) → AllInside shown xs → y.1 < length shown.nodes → AllInside shown (xs ++ y ∷ [])
inside-append shown [] y all inside = (inside, tt)
inside-append shown (x ∷ xs) y all inside = (all.0, inside-append shown xs y all.1 inside)

pub inside_at : (shown : Shown) (cases : List (ℕ × ℕ)) (i : ℕ) → AllInside shown cases → i < length cases → (get_or cases i (0, 0)).1 < length shown.nodes
inside_at shown [] i all lt = absurd (omega arith)
inside_at shown (case ∷ cases) zero all lt = all.0
inside_at shown (case ∷ cases) (suc i) all lt = inside_at shown cases i all.1 (omega arith)

pub at_item : (xs : List (ℕ × ℕ)) (i : ℕ) (x : ℕ × ℕ) → i < length xs → x ≡ get_or xs i x → x ≡ get_or xs i (0, 0)
at_item [] i x h e = absurd (omega arith)
at_item (y ∷ ys) zero x h e = e
at_item (y ∷ ys) (suc i) x h e = at_item ys i x (omega arith) e

-- a table in a store that has grown
pub table_kept : (old new : Shown) (cases : List (ℕ × ℕ)) (test : ℕ → List ℕ → Bool) → Grows old new → AllInside old cases → IsTable old cases test →
    IsTable new cases test
table_kept old new cases test grows inside table = record {
  ascending = table.ascending;
  value = λ set k. case_kept old new set cases k false false grows inside refl ∙ table.value set k;
}

pub table_as : (shown : Shown) (cases : List (ℕ × ℕ)) (test test' : ℕ → List ℕ → Bool) → ((k : ℕ) (set : List ℕ) → test k set ≡ test' k set) →
    IsTable shown cases test → IsTable shown cases test'
table_as shown cases test test' same table = record { ascending = table.ascending; value = λ set k. table.value set k ∙ same k set }
