-- Maps in two parts: the front part decides if one of its entries holds.
use Rattle.std.proofs.Common.{◌≡◌, ℕ, ◌<◌, ◌≤◌, Bool, true, false, not, ◌&&◌, ◌||◌, nat_eq, List, [], ◌∷◌, ◌++◌, length, get_or, Option, Some, None, refl, sym, ◌∙◌, ap, inl, inr}
use Rattle.std.specs.Prelude.{if◌then◌else◌}
use Rattle.std.specs.List.{find}
use Rattle.std.specs.Option.{is_some, option_or}
use Rattle.std.proofs.lemmas.Bool.{cases_eq}
use Rattle.std.proofs.lemmas.List.Folds.{find-append}
use Rattle.base_kit.specs.Sets.{has, IsAscending}
use Rattle.base_kit.proofs.SetFacts.{other_number}
use Rattle.route_maps.specs.declared.plain.PlainEntry.{PlainEntry}
use Rattle.dd_core.specs.Sets.{Shown, value_of, Means, Grows, IsIteOfSets}
use Rattle.dd_core.proofs.ShownLemmas.{value_of_kept, grows_refl, grows_trans, means_kept}
use Rattle.policy_dd.specs.declared.map_run.MapFn.{MapFn}
use Rattle.policy_dd.specs.declared.matches.Carried.{Carried}
use Rattle.policy_dd.specs.Edge.{case_or, keys_of}
use Rattle.policy_dd.specs.Tables.{AllInside, IsTableGrown, IsMoreBy, IsTable}
use Rattle.policy_dd.specs.Matches.{AreNodesInside, has_in, entry_by, decided}
use Rattle.policy_dd.specs.MapRun.{permits_it, puts, leaves_rest, is_odd, prefers, adds_it, AreMapInside, AreTablesAscending, IsTableOfEither, IsEither, deciding, IsMapFn}
use Rattle.policy_dd.proofs.CaseLemmas.{case_absent}
use Rattle.policy_dd.proofs.RunLemmas.{entry_kept}
use Rattle.policy_dd.proofs.SelectionLemmas.{case_of_index}
use Rattle.policy_dd.proofs.TableLemmas.{has-append, case_kept, grown_between}

or_and : (x a b n : Bool) → (x || (a && n)) || (b && n) ≡ x || ((a || b) && n)
or_and true a b n = refl
or_and false true true true = refl
or_and false true true false = refl
or_and false true false true = refl
or_and false true false false = refl
or_and false false b n = refl

or_assoc : (a b c : Bool) → (a || b) || c ≡ a || (b || c)
or_assoc true b c = refl
or_assoc false b c = refl

or_false : (b : Bool) → b ≡ b || false
or_false true = refl
or_false false = refl

test_at : (test : ℕ → List ℕ → Bool) (key k : ℕ) (set : List ℕ) → nat_eq key k && test key set ≡ nat_eq key k && test k set
test_at test key k set = elim (cases_eq key k) [
  | inl same ↦ ap (λ n. nat_eq key k && test n set) same
  | inr ne ↦ rw (other_number key k ne) refl
]

-- one key more
pub grown_by_key : (old mid new : Shown) (cases more all : List (ℕ × ℕ)) (done : List ℕ) (key node : ℕ) (test : ℕ → List ℕ → Bool) →
    IsTableGrown old mid cases more done (λ k set. has done k && test k set) → IsMoreBy mid new more all key node →
    ((set : List ℕ) → value_of mid set node ≡ test key set) →
    IsTableGrown old new cases all (done ++ key ∷ []) (λ k set. has (done ++ key ∷ []) k && test k set)
grown_by_key old mid new cases more all done key node test before one is = record {
  inside = one.inside;
  ascending = λ up. one.ascending (before.ascending up);
  keys_are = λ k. one.keys_are k ∙ ap (λ b. b || has (key ∷ []) k) (before.keys_are k) ∙ or_assoc (has (keys_of cases) k) (has done k) (has (key ∷ []) k)
      ∙ ap (λ b. has (keys_of cases) k || b) (sym (has-append done (key ∷ []) k));
  value = λ set k.
      one.value set k
      ∙ ap (λ b. b || (nat_eq key k && value_of mid set node)) (before.value set k)
      ∙ ap (λ b. (case_or old set cases k false || (has done k && test k set)) || (nat_eq key k && b)) (is set)
      ∙ ap (λ b. (case_or old set cases k false || (has done k && test k set)) || b) (test_at test key k set)
      ∙ or_and (case_or old set cases k false) (has done k) (nat_eq key k) (test k set)
      ∙ ap (λ b. case_or old set cases k false || (b && test k set)) (ap (λ b. has done k || b) (or_false (nat_eq key k)) ∙ sym (has-append done (key ∷ []) k));
}

-- a case of the other table, where none before decides
pub unless_node : (old mid new : Shown) (cases : List (ℕ × ℕ)) (i key there unless node : ℕ) → Grows old mid → IsAscending (keys_of cases) → i < length cases →
    there < length old.nodes → unless < length old.nodes → key ≡ (get_or cases i (0, 0)).0 → there ≡ (get_or cases i (0, 0)).1 →
    Means new node (λ set. not (value_of mid set unless) && value_of mid set there) → (set : List ℕ) → value_of new set node ≡ not (value_of old set unless)
    && case_or old set cases key false
unless_node old mid new cases i key there unless node g up lt ti ui k f is set =
    is.value set
    ∙ ap (λ b. not b && value_of mid set there) (value_of_kept old mid set unless g ui)
    ∙ ap (λ b. not (value_of old set unless) && b)
    (value_of_kept old mid set there g ti ∙ ap (value_of old set) f ∙ sym (case_of_index old set cases i false up lt)
    ∙ ap (λ n. case_or old set cases n false) (sym k))

pub grown_all : (old new : Shown) (cases more all : List (ℕ × ℕ)) (unless : ℕ) →
    IsTableGrown old new cases all (keys_of more) (λ k set. has (keys_of more) k && (not (value_of old set unless) && case_or old set more k false)) →
    IsTableGrown old new cases all (keys_of more) (λ k set. not (value_of old set unless) && case_or old set more k false)
grown_all old new cases more all unless grown = record {
  inside = grown.inside;
  ascending = grown.ascending;
  keys_are = grown.keys_are;
  value = λ set k. grown.value set k ∙ ap (λ b. case_or old set cases k false || b) (by set k (has (keys_of more) k) refl);
}
  where
    no_case : (b : Bool) → b ≡ false → (u : Bool) → false ≡ u && b
    no_case b e true = sym e
    no_case b e false = refl

    by : (set : List ℕ) (k : ℕ) (h : Bool) → has (keys_of more) k ≡ h →
        h && (not (value_of old set unless) && case_or old set more k false) ≡ not (value_of old set unless) && case_or old set more k false
    by set k true e = refl
    by set k false e = no_case (case_or old set more k false) (case_absent old set more k false e) (not (value_of old set unless))

-- both parts of a map
module _ (s0 s1 s2 s3 s4 s5 s6 s7 : Shown) (g1 : Grows s0 s1) (g2 : Grows s1 s2) (g3 : Grows s2 s3) (g4 : Grows s3 s4) (g5 : Grows s4 s5) (g6 : Grows s5 s6)
    (g7 : Grows s6 s7) (f l : MapFn) (before permit rest : ℕ) (lps adds present odd : List (ℕ × ℕ))
    (fi : AreMapInside s0 f) (li : AreMapInside s0 l)
    (of_before : Means s1 before (λ set. value_of s0 set f.before || value_of s0 set l.before))
    (of_permit : IsIteOfSets s1 s2 f.before f.permit l.permit permit)
    (of_rest : IsIteOfSets s2 s3 f.before f.rest l.rest rest)
    (of_lps : IsTableOfEither s3 s4 f.before f.lps l.lps lps)
    (of_adds : IsTableOfEither s4 s5 f.before f.adds l.adds adds)
    (of_present : IsTableOfEither s5 s6 f.before f.present l.present present)
    (of_odd : IsTableOfEither s6 s7 f.before f.odd l.odd odd) where
  to2 : Grows s0 s2
  to2 = grows_trans s0 s1 s2 g1 g2

  to3 : Grows s0 s3
  to3 = grows_trans s0 s2 s3 to2 g3

  to4 : Grows s0 s4
  to4 = grows_trans s0 s3 s4 to3 g4

  to5 : Grows s0 s5
  to5 = grows_trans s0 s4 s5 to4 g5

  to6 : Grows s0 s6
  to6 = grows_trans s0 s5 s6 to5 g6

  from5 : Grows s5 s7
  from5 = grows_trans s5 s6 s7 g6 g7

  from4 : Grows s4 s7
  from4 = grows_trans s4 s5 s7 g5 from5

  from3 : Grows s3 s7
  from3 = grows_trans s3 s4 s7 g4 from4

  from2 : Grows s2 s7
  from2 = grows_trans s2 s3 s7 g3 from3

  from1 : Grows s1 s7
  from1 = grows_trans s1 s2 s7 g2 from2

  choice_between : (mid new : Shown) (there gone node : ℕ) → Grows s0 mid → Grows new s7 → there < length s0.nodes → gone < length s0.nodes →
      IsIteOfSets mid new f.before there gone node → Means s7 node (λ set. if value_of s0 set f.before then value_of s0 set there else value_of s0 set gone)
  choice_between mid new there gone node g g' ti ni is =
      means_kept new s7 node (λ set. if value_of s0 set f.before then value_of s0 set there else value_of s0 set gone) g' (record {
        inside = is.inside;
        value = λ set. is.value set ∙ rw (
          value_of_kept s0 mid set f.before g fi.before,
          value_of_kept s0 mid set there g ti,
          value_of_kept s0 mid set gone g ni,
        ) refl;
      })

  table_between : (mid new : Shown) (first last cases : List (ℕ × ℕ)) → Grows s0 mid → Grows new s7 → AllInside s0 first → AllInside s0 last →
      IsTableOfEither mid new f.before first last cases → IsTableOfEither s0 s7 f.before first last cases
  table_between mid new first last cases g g' inside inside' grown =
      grown_between s0 mid new s7 first cases (keys_of last) (λ k set. not (value_of mid set f.before) && case_or mid set last k false)
      (λ k set. not (value_of s0 set f.before) && case_or s0 set last k false) g inside g' grown
      (λ k set. rw (value_of_kept s0 mid set f.before g fi.before, case_kept s0 mid set last k false false g inside' refl) refl)

  pub either_is : IsEither s0 s7 f l (record { before = before; permit = permit; rest = rest; lps = lps; adds = adds; present = present; odd = odd })
  either_is = record {
    before = means_kept s1 s7 before (λ set. value_of s0 set f.before || value_of s0 set l.before) from1 of_before;
    permit = choice_between s1 s2 f.permit l.permit permit g1 from2 fi.permit li.permit of_permit;
    rest = choice_between s2 s3 f.rest l.rest rest to2 from3 fi.rest li.rest of_rest;
    lps = table_between s3 s4 f.lps l.lps lps to3 from4 fi.lps li.lps of_lps;
    adds = table_between s4 s5 f.adds l.adds adds to4 from5 fi.adds li.adds of_adds;
    present = table_between s5 s6 f.present l.present present to5 g7 fi.present li.present of_present;
    odd = table_between s6 s7 f.odd l.odd odd to6 (grows_refl s7) fi.odd li.odd of_odd;
  }

some_append : (test : PlainEntry → Bool) (front back : List PlainEntry) → is_some (find test (front ++ back)) ≡ is_some (find test front)
    || is_some (find test back)
some_append test front back = ap is_some (find-append test front back) ∙ by (find test front) (find test back)
  where
    by : (a b : Option PlainEntry) → is_some (option_or a b) ≡ is_some a || is_some b
    by (Some e) b = refl
    by None b = refl

decided_append : (test tells : PlainEntry → Bool) (front back : List PlainEntry) →
    decided tells (find test (front ++ back)) ≡ (if is_some (find test front) then decided tells (find test front) else decided tells (find test back))
decided_append test tells front back = ap (decided tells) (find-append test front back) ∙ by (find test front) (find test back)
  where
    by : (a b : Option PlainEntry) → decided tells (option_or a b) ≡ (if is_some a then decided tells a else decided tells b)
    by (Some e) b = refl
    by None b = refl

decided_joined : (test tells : PlainEntry → Bool) (front back : List PlainEntry) → decided tells (find test front)
    || (not (is_some (find test front)) && decided tells (find test back)) ≡ decided tells (find test (front ++ back))
decided_joined test tells front back = by (find test front) (find test back) ∙ sym (ap (decided tells) (find-append test front back))
  where
    by : (a b : Option PlainEntry) → decided tells a || (not (is_some a) && decided tells b) ≡ decided tells (option_or a b)
    by (Some e) b = sym (or_false (tells e))
    by None b = refl

keys_from : (P : ℕ → Type 0) (old new : Shown) (cases more : List (ℕ × ℕ)) (keys : List ℕ) (add : ℕ → List ℕ → Bool) →
    IsTableGrown old new cases more keys add → ((k : ℕ) → has (keys_of cases) k ≡ true → P k) → ((k : ℕ) → has keys k ≡ true → P k) → (k : ℕ) →
    has (keys_of more) k ≡ true → P k
keys_from P old new cases more keys add grown first last k there = by (has (keys_of cases) k) refl (sym (grown.keys_are k) ∙ there)
  where
    by : (b : Bool) → has (keys_of cases) k ≡ b → b || has keys k ≡ true → P k
    by true e or = first k e
    by false e or = last k or

pub tables_ascend : (old new : Shown) (carried : Carried) (entries : List PlainEntry) (m : MapFn) → IsMapFn old new carried entries m → AreTablesAscending m
tables_ascend old new carried entries m is = record { lps = is.lps.ascending; adds = is.adds.ascending; present = is.present.ascending; odd = is.odd.ascending }

module _ (old mid mid' new : Shown) (carried : Carried) (front back : List PlainEntry) (f l m : MapFn) (g : Grows old mid) (g' : Grows mid mid')
    (g'' : Grows mid' new) (inside : AreNodesInside old carried) (of_front : IsMapFn old mid carried front f) (of_back : IsMapFn mid mid' carried back l)
    (either : IsEither mid' new f l m) where
  test : List ℕ → PlainEntry → Bool
  test set = entry_by old.universe (has_in old carried set) (value_of old set carried.others)

  back_is : (set : List ℕ) → deciding mid carried set back ≡ deciding old carried set back
  back_is set = ap (λ (t : PlainEntry → Bool). find t back) (entry_kept old mid carried set g inside)

  sooner : (set : List ℕ) → value_of mid' set f.before ≡ is_some (deciding old carried set front)
  sooner set = value_of_kept mid mid' set f.before g' of_front.inside.before ∙ of_front.before set

  choice_append : (set : List ℕ) (tells : PlainEntry → Bool) (x y : ℕ) → x < length mid.nodes →
      value_of mid set x ≡ decided tells (deciding old carried set front) → value_of mid' set y ≡ decided tells (deciding mid carried set back) →
      (if value_of mid' set f.before then value_of mid' set x else value_of mid' set y) ≡ decided tells (deciding old carried set (front ++ back))
  unfolding test
  choice_append set tells x y xi ex ey =
      rw (sooner set, value_of_kept mid mid' set x g' xi ∙ ex, ey ∙ ap (decided tells) (back_is set)) (sym (decided_append (test set) tells front back))

  table_append : (xs ys zs : List (ℕ × ℕ)) (tells : ℕ → PlainEntry → Bool) → AllInside mid xs →
      IsTable mid xs (λ key set. decided (tells key) (deciding old carried set front)) →
      IsTable mid' ys (λ key set. decided (tells key) (deciding mid carried set back)) → IsTableOfEither mid' new f.before xs ys zs →
      IsTable new zs (λ key set. decided (tells key) (deciding old carried set (front ++ back)))
  unfolding test
  table_append xs ys zs tells xi tx ty grown = record {
    ascending = grown.ascending tx.ascending;
    value = λ set k.
        grown.value set k
        ∙ ap (λ b. b || (not (value_of mid' set f.before) && case_or mid' set ys k false)) (case_kept mid mid' set xs k false false g' xi refl ∙ tx.value set k)
        ∙ ap (λ b. decided (tells k) (deciding old carried set front) || (not b && case_or mid' set ys k false)) (sooner set)
        ∙ ap (λ b. decided (tells k) (deciding old carried set front) || (not (is_some (deciding old carried set front)) && b))
        (ty.value set k ∙ ap (decided (tells k)) (back_is set))
        ∙ decided_joined (test set) (tells k) front back;
  }

  known : (first last cases : List (ℕ × ℕ)) → IsTableOfEither mid' new f.before first last cases →
      ((c : ℕ) → has (keys_of first) c ≡ true → has mid.universe c ≡ true) → ((c : ℕ) → has (keys_of last) c ≡ true → has mid'.universe c ≡ true) → (c : ℕ) →
      has (keys_of cases) c ≡ true → has new.universe c ≡ true
  known first last cases grown of_first of_last =
      keys_from (λ c. has new.universe c ≡ true) mid' new first cases (keys_of last)
      (λ k set. not (value_of mid' set f.before) && case_or mid' set last k false) grown
      (λ c there. ap (λ (u : List ℕ). has u c) ((grows_trans mid mid' new g' g'').universe) ∙ of_first c there)
      (λ c there. ap (λ (u : List ℕ). has u c) g''.universe ∙ of_last c there)

  pub run_append : IsMapFn old new carried (front ++ back) m
  unfolding test
  run_append = record {
    inside = record {
      before = either.before.inside;
      permit = either.permit.inside;
      rest = either.rest.inside;
      lps = either.lps.inside;
      adds = either.adds.inside;
      present = either.present.inside;
      odd = either.odd.inside;
      adds_small = keys_from (λ k. k ≤ 255) mid' new f.adds m.adds (keys_of l.adds)
          (λ k set. not (value_of mid' set f.before) && case_or mid' set l.adds k false) either.adds of_front.inside.adds_small of_back.inside.adds_small;
      present_known = known f.present l.present m.present either.present of_front.inside.present_known of_back.inside.present_known;
      odd_known = known f.odd l.odd m.odd either.odd of_front.inside.odd_known of_back.inside.odd_known;
    };
    before = λ set. either.before.value set ∙ rw (sooner set, of_back.before set ∙ ap is_some (back_is set)) (sym (some_append (test set) front back));
    permit = λ set. either.permit.value set ∙ choice_append set permits_it f.permit l.permit of_front.inside.permit (of_front.permit set) (of_back.permit set);
    rest = λ set. either.rest.value set ∙ choice_append set leaves_rest f.rest l.rest of_front.inside.rest (of_front.rest set) (of_back.rest set);
    lps = table_append f.lps l.lps m.lps prefers of_front.inside.lps of_front.lps of_back.lps either.lps;
    adds = table_append f.adds l.adds m.adds adds_it of_front.inside.adds of_front.adds of_back.adds either.adds;
    present = table_append f.present l.present m.present puts of_front.inside.present of_front.present of_back.present either.present;
    odd = table_append f.odd l.odd m.odd is_odd of_front.inside.odd of_front.odd of_back.odd either.odd;
  }
