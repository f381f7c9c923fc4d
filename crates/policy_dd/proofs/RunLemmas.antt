-- Runs over the entries of a map: the first that holds decides.
use Rattle.std.proofs.Common.{◌≡◌, ℕ, ◌<◌, ◌≤◌, Bool, true, false, not, ◌&&◌, ◌||◌, nat_eq, List, [], ◌∷◌, ◌++◌, length, Option, Some, None, refl, sym, ◌∙◌, ap, arith, inl, inr}
use Rattle.std.specs.Bool.{beq}
use Rattle.std.specs.List.{find}
use Rattle.std.specs.Option.{unwrap_or, is_some, option_or}
use Rattle.std.proofs.lemmas.Bool.{cases_eq}
use Rattle.std.proofs.lemmas.List.Folds.{find-append}
use Rattle.std.specs.Prelude.{if◌then◌else◌, IfSome}
use Rattle.base_kit.specs.Sets.{has}
use Rattle.base_kit.proofs.SetFacts.{other_number}
use Rattle.route_maps.specs.declared.plain.PlainEntry.{PlainEntry}
use Rattle.route_maps.specs.Within.{IsEntryWithin, AreWithin, IsChangeWithin}
use Rattle.cfg_ast.specs.declared.policy.Change.{Change}
use Rattle.cfg_ast.specs.declared.policy.Change.TheVariants.{Clear, Replace, Append}
use Rattle.dd_core.specs.Sets.{Shown, value_of, Means, Grows}
use Rattle.dd_core.proofs.ShownLemmas.{value_of_kept, grows_inside, grows_refl, grows_trans}
use Rattle.policy_dd.specs.declared.deletion.Answers.{Answers}
use Rattle.policy_dd.specs.declared.map_run.MapFn.{MapFn}
use Rattle.policy_dd.specs.declared.matches.Carried.{Carried}
use Rattle.policy_dd.specs.Edge.{case_or, keys_of}
use Rattle.policy_dd.specs.Tables.{AllInside, IsTableGrown, IsMoreBy, IsTable}
use Rattle.policy_dd.specs.Deletion.{put_by_change, leaves, leaves_unnamed, IsLeftBy}
use Rattle.policy_dd.specs.Matches.{AreNodesInside, has_in, entry_by, decided}
use Rattle.policy_dd.specs.MapRun.{permits_it, puts, leaves_rest, is_odd, prefers, adds_it, AreMapInside, IsMore, IsEntryTaken, decides_by, IsPushed, deciding, IsMapFn}
use Rattle.policy_dd.proofs.DeletionLemmas.{odd_known}
use Rattle.policy_dd.proofs.MatchLemmas.{there_kept, within_each}
use Rattle.policy_dd.proofs.TableLemmas.{cases_inside_kept, case_kept}

pub map_inside_kept : (old new : Shown) (m : MapFn) → Grows old new → AreMapInside old m → AreMapInside new m
map_inside_kept old new m g i = record {
  before = grows_inside old new m.before g i.before;
  permit = grows_inside old new m.permit g i.permit;
  rest = grows_inside old new m.rest g i.rest;
  lps = cases_inside_kept old new m.lps g i.lps;
  adds = cases_inside_kept old new m.adds g i.adds;
  present = cases_inside_kept old new m.present g i.present;
  odd = cases_inside_kept old new m.odd g i.odd;
  adds_small = i.adds_small;
  present_known = λ c there. ap (λ (u : List ℕ). has u c) g.universe ∙ i.present_known c there;
  odd_known = λ c there. ap (λ (u : List ℕ). has u c) g.universe ∙ i.odd_known c there;
}

-- a table that has grown, seen from an earlier store and from a later one
more_between : (s0 s1 s2 s3 : Shown) (cases more : List (ℕ × ℕ)) (keys : List ℕ) (add add' : ℕ → List ℕ → Bool) → Grows s0 s1 → AllInside s0 cases →
    Grows s2 s3 → IsTableGrown s1 s2 cases more keys add → ((k : ℕ) (set : List ℕ) → add k set ≡ add' k set) → IsMore s0 s3 cases more add'
more_between s0 s1 s2 s3 cases more keys add add' g inside g' grown same = record {
  ascending = grown.ascending;
  value = λ set k. case_kept s2 s3 set more k false false g' grown.inside refl ∙ grown.value set k
      ∙ ap (λ b. b || add k set) (case_kept s0 s1 set cases k false false g inside refl) ∙ ap (λ b. case_or s0 set cases k false || b) (same k set);
}

more_from : (s0 s1 s2 : Shown) (cases more : List (ℕ × ℕ)) (add add' : ℕ → List ℕ → Bool) → Grows s0 s1 → AllInside s0 cases → IsMore s1 s2 cases more add →
    ((k : ℕ) (set : List ℕ) → add k set ≡ add' k set) → IsMore s0 s2 cases more add'
more_from s0 s1 s2 cases more add add' g inside more_is same = record {
  ascending = more_is.ascending;
  value = λ set k. more_is.value set k ∙ ap (λ b. b || add k set) (case_kept s0 s1 set cases k false false g inside refl)
      ∙ ap (λ b. case_or s0 set cases k false || b) (same k set);
}

or_false : (b : Bool) → b ≡ b || false
or_false true = refl
or_false false = refl

more_none : (s0 s1 : Shown) (cases : List (ℕ × ℕ)) (add : ℕ → List ℕ → Bool) → Grows s0 s1 → AllInside s0 cases → ((k : ℕ) (set : List ℕ) → add k set ≡ false) →
    IsMore s0 s1 cases cases add
more_none s0 s1 cases add g inside none = record {
  ascending = λ up. up;
  value = λ set k. case_kept s0 s1 set cases k false false g inside refl ∙ or_false (case_or s0 set cases k false)
      ∙ ap (λ b. case_or s0 set cases k false || b) (sym (none k set));
}

-- the keys of a table that has grown
key_from : (a b : Bool) → a || b ≡ true → a ≡ false → b ≡ true
key_from true b e f = absurd cc
key_from false b e f = e

grown_keys : (old new : Shown) (cases more : List (ℕ × ℕ)) (keys : List ℕ) (add : ℕ → List ℕ → Bool) → IsTableGrown old new cases more keys add → (u : List ℕ) →
    ((c : ℕ) → has (keys_of cases) c ≡ true → has u c ≡ true) → ((c : ℕ) → has keys c ≡ true → has u c ≡ true) → (c : ℕ) → has (keys_of more) c ≡ true →
    has u c ≡ true
grown_keys old new cases more keys add grown u before after c there = by (has (keys_of cases) c) refl
  where
    by : (b : Bool) → has (keys_of cases) c ≡ b → has u c ≡ true
    by true e = before c e
    by false e = after c (key_from (has (keys_of cases) c) (has keys c) (sym (grown.keys_are c) ∙ there) e)

small_keys : (old new : Shown) (cases more : List (ℕ × ℕ)) (key node : ℕ) → IsMoreBy old new cases more key node → key ≤ 255 →
    ((k : ℕ) → has (keys_of cases) k ≡ true → k ≤ 255) → (k : ℕ) → has (keys_of more) k ≡ true → k ≤ 255
small_keys old new cases more key node grown small before k there = by (has (keys_of cases) k) refl
  where
    by : (b : Bool) → has (keys_of cases) k ≡ b → k ≤ 255
    by true e = before k e
    by false e = elim (cases_eq key k) [
      | inl same ↦ omega arith
      | inr ne ↦
          let last = key_from (has (keys_of cases) k) (has (key ∷ []) k) (sym (grown.keys_are k) ∙ there) e in
          let apart = other_number key k ne in absurd (let wrong = rw apart at last in cc)
    ]

-- the odd communities of what an entry leaves
odd_by : (o all : Bool) → o ≡ not (beq (if o then not all else all) all)
odd_by true true = refl
odd_by true false = refl
odd_by false true = refl
odd_by false false = refl

odd_is : (entry : PlainEntry) (left : Answers) → IsLeftBy entry left → (c : ℕ) → has left.odd c ≡ not (beq (leaves entry c) (leaves_unnamed entry))
odd_is entry left is c = odd_by (has left.odd c) left.all ∙ ap (λ b. not (beq b left.all)) (is.each c) ∙ ap (λ b. not (beq (leaves entry c) b)) is.all_is

pub named_within : (universe : List ℕ) (change : Option Change) → IfSome change (IsChangeWithin universe) → AreWithin universe (put_by_change change)
named_within universe None within = tt
named_within universe (Some Clear) within = tt
named_within universe (Some (Replace by)) within = within
named_within universe (Some (Append more)) within = within

pub named_known : (universe : List ℕ) (entry : PlainEntry) → IsEntryWithin universe entry → (c : ℕ) → has (put_by_change entry.change) c ≡ true →
    has universe c ≡ true
named_known universe entry within c there = within_each universe (put_by_change entry.change) c (named_within universe entry.change within.change) there

module _ (s0 s1 s2 s3 s4 s5 s6 : Shown) (g1 : Grows s0 s1) (g2 : Grows s1 s2) (g3 : Grows s2 s3) (g4 : Grows s3 s4) (g5 : Grows s4 s5) (g6 : Grows s5 s6)
    (m : MapFn) (before decides permit rest lp : ℕ) (lps adds present odd : List (ℕ × ℕ)) (left : Answers) (entry : PlainEntry)
    (im : AreMapInside s0 m) (ib : before < length s0.nodes) (id : decides < length s0.nodes) (known : IsEntryWithin s0.universe entry)
    (is_left : IsLeftBy entry left) (lp_is : lp ≡ unwrap_or entry.lp 100) (small : entry.adds ≤ 255)
    (of_permit : Means s1 permit (λ set. value_of s0 set m.permit || value_of s0 set decides))
    (of_rest : Means s2 rest (λ set. value_of s1 set m.rest || (value_of s1 set decides && left.all)))
    (of_lps : IsMoreBy s2 s3 m.lps lps lp decides)
    (of_adds : IsMoreBy s3 s4 m.adds adds entry.adds decides)
    (of_present : IsTableGrown s4 s5 m.present present (put_by_change entry.change) (λ k set. has (put_by_change entry.change) k && value_of s4 set decides))
    (of_odd : IsTableGrown s5 s6 m.odd odd left.odd (λ k set. has left.odd k && value_of s5 set decides)) where
  g02 : Grows s0 s2
  g02 = grows_trans s0 s1 s2 g1 g2

  g03 : Grows s0 s3
  g03 = grows_trans s0 s2 s3 g02 g3

  g04 : Grows s0 s4
  g04 = grows_trans s0 s3 s4 g03 g4

  g05 : Grows s0 s5
  g05 = grows_trans s0 s4 s5 g04 g5

  g06 : Grows s0 s6
  g06 = grows_trans s0 s5 s6 g05 g6

  g46 : Grows s4 s6
  g46 = grows_trans s4 s5 s6 g5 g6

  g36 : Grows s3 s6
  g36 = grows_trans s3 s4 s6 g4 g46

  g26 : Grows s2 s6
  g26 = grows_trans s2 s3 s6 g3 g36

  g16 : Grows s1 s6
  g16 = grows_trans s1 s2 s6 g2 g26

  taken_inside : AreMapInside s6 (record { before = before; permit = permit; rest = rest; lps = lps; adds = adds; present = present; odd = odd })
  taken_inside = record {
    before = grows_inside s0 s6 before g06 ib;
    permit = grows_inside s1 s6 permit g16 of_permit.inside;
    rest = grows_inside s2 s6 rest g26 of_rest.inside;
    lps = cases_inside_kept s3 s6 lps g36 of_lps.inside;
    adds = cases_inside_kept s4 s6 adds g46 of_adds.inside;
    present = cases_inside_kept s5 s6 present g6 of_present.inside;
    odd = of_odd.inside;
    adds_small = small_keys s3 s4 m.adds adds entry.adds decides of_adds small im.adds_small;
    present_known = λ c there. ap (λ (u : List ℕ). has u c) g06.universe
        ∙ grown_keys s4 s5 m.present present (put_by_change entry.change) (λ k set. has (put_by_change entry.change) k && value_of s4 set decides) of_present
        s0.universe im.present_known (named_known s0.universe entry known) c there;
    odd_known = λ c there. ap (λ (u : List ℕ). has u c) g06.universe
        ∙ grown_keys s5 s6 m.odd odd left.odd (λ k set. has left.odd k && value_of s5 set decides) of_odd s0.universe im.odd_known
        (odd_known s0.universe entry left is_left known.delete) c there;
  }

  pub taken_is : IsEntryTaken s0 s6 m (record { before = before; permit = permit; rest = rest; lps = lps; adds = adds; present = present; odd = odd }) before
      decides entry
  taken_is = record {
    inside = taken_inside;
    before = λ set. value_of_kept s0 s6 set before g06 ib;
    permit = λ set. value_of_kept s1 s6 set permit g16 of_permit.inside ∙ of_permit.value set;
    rest = λ set.
        value_of_kept s2 s6 set rest g26 of_rest.inside ∙ of_rest.value set
        ∙ ap (λ b. b || (value_of s1 set decides && left.all)) (value_of_kept s0 s1 set m.rest g1 im.rest)
        ∙ ap (λ b. value_of s0 set m.rest || (b && left.all)) (value_of_kept s0 s1 set decides g1 id)
        ∙ ap (λ b. value_of s0 set m.rest || (value_of s0 set decides && b)) is_left.all_is;
    lps = more_between s0 s2 s3 s6 m.lps lps (lp ∷ []) (λ k set. nat_eq lp k && value_of s2 set decides)
        (λ key set. nat_eq (unwrap_or entry.lp 100) key && value_of s0 set decides) g02 im.lps g36 of_lps
        (λ k set. ap (λ n. nat_eq n k && value_of s2 set decides) lp_is
        ∙ ap (λ b. nat_eq (unwrap_or entry.lp 100) k && b) (value_of_kept s0 s2 set decides g02 id));
    adds = more_between s0 s3 s4 s6 m.adds adds (entry.adds ∷ []) (λ k set. nat_eq entry.adds k && value_of s3 set decides)
        (λ key set. nat_eq entry.adds key && value_of s0 set decides) g03 im.adds g46 of_adds
        (λ k set. ap (λ b. nat_eq entry.adds k && b) (value_of_kept s0 s3 set decides g03 id));
    present = more_between s0 s4 s5 s6 m.present present (put_by_change entry.change) (λ k set. has (put_by_change entry.change) k && value_of s4 set decides)
        (λ key set. has (put_by_change entry.change) key && value_of s0 set decides) g04 im.present g6 of_present
        (λ k set. ap (λ b. has (put_by_change entry.change) k && b) (value_of_kept s0 s4 set decides g04 id));
    odd = more_between s0 s5 s6 s6 m.odd odd left.odd (λ k set. has left.odd k && value_of s5 set decides)
        (λ key set. not (beq (leaves entry key) (leaves_unnamed entry)) && value_of s0 set decides) g05 im.odd (grows_refl s6) of_odd
        (λ k set. ap (λ b. b && value_of s5 set decides) (odd_is entry left is_left k)
        ∙ ap (λ b. not (beq (leaves entry k) (leaves_unnamed entry)) && b) (value_of_kept s0 s5 set decides g05 id));
  }

idle_none : (d p b : Bool) → d && p ≡ false → d && (p && b) ≡ false
idle_none true p b e = rw e refl
idle_none false p b e = refl

and_some : (d p b : Bool) → p ≡ true → b && d ≡ d && (p && b)
and_some true p true e = rw e refl
and_some true p false e = rw e refl
and_some false p true e = refl
and_some false p false e = refl

permitted_some : (d p b : Bool) → p ≡ true → d && b ≡ d && (p && b)
permitted_some d p b e = rw e refl

permitted : (d p : Bool) → p ≡ true → d ≡ d && p
permitted true p e = sym e
permitted false p e = refl

denied : (d p : Bool) → p ≡ false → d && p ≡ false
denied true p e = e
denied false p e = refl

module _ (s0 s1 s2 s3 : Shown) (carried : Carried) (m : MapFn) (entry : PlainEntry) (here decides before : ℕ) (g1 : Grows s0 s1) (g2 : Grows s1 s2)
    (g3 : Grows s2 s3) (im : AreMapInside s0 m)
    (of_here : Means s1 here (λ set. entry_by s0.universe (has_in s0 carried set) (value_of s0 set carried.others) entry))
    (of_decides : Means s2 decides (λ set. not (value_of s1 set m.before) && value_of s1 set here))
    (of_before : Means s3 before (λ set. value_of s2 set m.before || value_of s2 set here)) where
  to2 : Grows s0 s2
  to2 = grows_trans s0 s1 s2 g1 g2

  to3 : Grows s0 s3
  to3 = grows_trans s0 s2 s3 to2 g3

  decides_is : (set : List ℕ) → value_of s3 set decides ≡ decides_by s0 carried m set entry
  decides_is set =
      value_of_kept s2 s3 set decides g3 of_decides.inside ∙ of_decides.value set
      ∙ ap (λ b. not b && value_of s1 set here) (value_of_kept s0 s1 set m.before g1 im.before)
      ∙ ap (λ b. not (value_of s0 set m.before) && b) (of_here.value set)

  before_is : (set : List ℕ) → value_of s3 set before ≡ value_of s0 set m.before
      || entry_by s0.universe (has_in s0 carried set) (value_of s0 set carried.others) entry
  before_is set =
      of_before.value set
      ∙ ap (λ b. b || value_of s2 set here) (value_of_kept s0 s2 set m.before to2 im.before)
      ∙ ap (λ b. value_of s0 set m.before || b) (value_of_kept s1 s2 set here g2 of_here.inside ∙ of_here.value set)

  -- an entry that denies, or never decides
  pub pushed_idle : ((set : List ℕ) → decides_by s0 carried m set entry && entry.permit ≡ false) → IsPushed s0 s3 carried m (record m { before = before }) entry
  pushed_idle idle =
      let all = map_inside_kept s0 s3 m to3 im in
      record {
        inside = record {
          before = of_before.inside;
          permit = all.permit;
          rest = all.rest;
          lps = all.lps;
          adds = all.adds;
          present = all.present;
          odd = all.odd;
          adds_small = all.adds_small;
          present_known = all.present_known;
          odd_known = all.odd_known;
        };
        before = before_is;
        permit = λ set. value_of_kept s0 s3 set m.permit to3 im.permit ∙ or_false (value_of s0 set m.permit)
            ∙ ap (λ b. value_of s0 set m.permit || b) (sym (idle set));
        rest = λ set. value_of_kept s0 s3 set m.rest to3 im.rest ∙ or_false (value_of s0 set m.rest)
            ∙ ap (λ b. value_of s0 set m.rest || b) (sym (idle_none (decides_by s0 carried m set entry) entry.permit (leaves_unnamed entry) (idle set)));
        lps = more_none s0 s3 m.lps (λ key set. decides_by s0 carried m set entry && prefers key entry) to3 im.lps
            (λ k set. idle_none (decides_by s0 carried m set entry) entry.permit (nat_eq (unwrap_or entry.lp 100) k) (idle set));
        adds = more_none s0 s3 m.adds (λ key set. decides_by s0 carried m set entry && adds_it key entry) to3 im.adds
            (λ k set. idle_none (decides_by s0 carried m set entry) entry.permit (nat_eq entry.adds k) (idle set));
        present = more_none s0 s3 m.present (λ key set. decides_by s0 carried m set entry && puts key entry) to3 im.present
            (λ k set. idle_none (decides_by s0 carried m set entry) entry.permit (has (put_by_change entry.change) k) (idle set));
        odd = more_none s0 s3 m.odd (λ key set. decides_by s0 carried m set entry && is_odd key entry) to3 im.odd
            (λ k set. idle_none (decides_by s0 carried m set entry) entry.permit (not (beq (leaves entry k) (leaves_unnamed entry))) (idle set));
      }

  pub pushed_denied : entry.permit ≡ false → IsPushed s0 s3 carried m (record m { before = before }) entry
  pushed_denied off = pushed_idle (λ set. denied (decides_by s0 carried m set entry) entry.permit off)

  pub pushed_never : ((set : List ℕ) → value_of s3 set decides ≡ false) → IsPushed s0 s3 carried m (record m { before = before }) entry
  pushed_never none = pushed_idle (λ set. ap (λ b. b && entry.permit) (sym (decides_is set) ∙ none set))

  and_decides : (k : ℕ) (set : List ℕ) (test : Bool) → entry.permit ≡ true → test && value_of s3 set decides ≡ decides_by s0 carried m set entry
      && (entry.permit && test)
  and_decides k set test on = ap (λ b. test && b) (decides_is set) ∙ and_some (decides_by s0 carried m set entry) entry.permit test on

  pub pushed_taken : (s4 : Shown) (r : MapFn) → Grows s3 s4 → entry.permit ≡ true → IsEntryTaken s3 s4 m r before decides entry →
      IsPushed s0 s4 carried m r entry
  pushed_taken s4 r g4 on taken = record {
    inside = taken.inside;
    before = λ set. taken.before set ∙ before_is set;
    permit = λ set.
        taken.permit set
        ∙ ap (λ b. b || value_of s3 set decides) (value_of_kept s0 s3 set m.permit to3 im.permit)
        ∙ ap (λ b. value_of s0 set m.permit || b) (decides_is set ∙ permitted (decides_by s0 carried m set entry) entry.permit on);
    rest = λ set.
        taken.rest set
        ∙ ap (λ b. b || (value_of s3 set decides && leaves_unnamed entry)) (value_of_kept s0 s3 set m.rest to3 im.rest)
        ∙ ap (λ b. value_of s0 set m.rest || b) (ap (λ b. b && leaves_unnamed entry) (decides_is set)
        ∙ permitted_some (decides_by s0 carried m set entry) entry.permit (leaves_unnamed entry) on);
    lps = more_from s0 s3 s4 m.lps r.lps (λ key set. nat_eq (unwrap_or entry.lp 100) key && value_of s3 set decides)
        (λ key set. decides_by s0 carried m set entry && prefers key entry) to3 im.lps taken.lps
        (λ k set. and_decides k set (nat_eq (unwrap_or entry.lp 100) k) on);
    adds = more_from s0 s3 s4 m.adds r.adds (λ key set. nat_eq entry.adds key && value_of s3 set decides)
        (λ key set. decides_by s0 carried m set entry && adds_it key entry) to3 im.adds taken.adds (λ k set. and_decides k set (nat_eq entry.adds k) on);
    present = more_from s0 s3 s4 m.present r.present (λ key set. has (put_by_change entry.change) key && value_of s3 set decides)
        (λ key set. decides_by s0 carried m set entry && puts key entry) to3 im.present taken.present
        (λ k set. and_decides k set (has (put_by_change entry.change) k) on);
    odd = more_from s0 s3 s4 m.odd r.odd (λ key set. not (beq (leaves entry key) (leaves_unnamed entry)) && value_of s3 set decides)
        (λ key set. decides_by s0 carried m set entry && is_odd key entry) to3 im.odd taken.odd
        (λ k set. and_decides k set (not (beq (leaves entry k) (leaves_unnamed entry))) on);
  }

pub entry_kept : (old mid : Shown) (carried : Carried) (set : List ℕ) → Grows old mid → AreNodesInside old carried →
    entry_by mid.universe (has_in mid carried set) (value_of mid set carried.others) ≡ entry_by old.universe (has_in old carried set)
    (value_of old set carried.others)
entry_kept old mid carried set g inside =
    ap (λ (u : List ℕ). entry_by u (has_in mid carried set) (value_of mid set carried.others)) g.universe
    ∙ ap (λ (t : ℕ → Bool). entry_by old.universe t (value_of mid set carried.others)) (there_kept old mid carried set g inside)
    ∙ ap (λ (b : Bool). entry_by old.universe (has_in old carried set) b) (value_of_kept old mid set carried.others g inside.others)

some_push : (test : PlainEntry → Bool) (done : List PlainEntry) (entry : PlainEntry) → is_some (find test (done ++ entry ∷ [])) ≡ is_some (find test done)
    || test entry
some_push test done entry = ap is_some (find-append test done (entry ∷ [])) ∙ by (find test done) (test entry)
  where
    by : (found : Option PlainEntry) (b : Bool) → is_some (option_or found (if b then Some entry else None)) ≡ is_some found || b
    by (Some e) b = refl
    by None true = refl
    by None false = refl

decided_push : (test tells : PlainEntry → Bool) (done : List PlainEntry) (entry : PlainEntry) →
    decided tells (find test (done ++ entry ∷ [])) ≡ decided tells (find test done) || ((not (is_some (find test done)) && test entry) && tells entry)
decided_push test tells done entry = ap (decided tells) (find-append test done (entry ∷ [])) ∙ by (find test done) (test entry)
  where
    by : (found : Option PlainEntry) (b : Bool) → decided tells (option_or found (if b then Some entry else None)) ≡ decided tells found
        || ((not (is_some found) && b) && tells entry)
    by (Some e) b = or_false (tells e)
    by None true = refl
    by None false = refl

module _ (old mid new : Shown) (carried : Carried) (done : List PlainEntry) (entry : PlainEntry) (m r : MapFn) (g : Grows old mid)
    (inside : AreNodesInside old carried) (run : IsMapFn old mid carried done m) (pushed : IsPushed mid new carried m r entry) where
  at_entry : (set : List ℕ) → entry_by mid.universe (has_in mid carried set) (value_of mid set carried.others) entry ≡ entry_by old.universe
      (has_in old carried set) (value_of old set carried.others) entry
  at_entry set = ap (λ (t : PlainEntry → Bool). t entry) (entry_kept old mid carried set g inside)

  decides_at : (set : List ℕ) → decides_by mid carried m set entry ≡ not (is_some (deciding old carried set done))
      && entry_by old.universe (has_in old carried set) (value_of old set carried.others) entry
  decides_at set =
      ap (λ b. not b && entry_by mid.universe (has_in mid carried set) (value_of mid set carried.others) entry) (run.before set)
      ∙ ap (λ b. not (is_some (deciding old carried set done)) && b) (at_entry set)

  push_value : (set : List ℕ) (tells : PlainEntry → Bool) (x : Bool) → x ≡ decided tells (deciding old carried set done) →
      x || (decides_by mid carried m set entry && tells entry) ≡ decided tells (deciding old carried set (done ++ entry ∷ []))
  push_value set tells x e =
      ap (λ b. b || (decides_by mid carried m set entry && tells entry)) e
      ∙ ap (λ b. decided tells (deciding old carried set done) || (b && tells entry)) (decides_at set)
      ∙ sym (decided_push (entry_by old.universe (has_in old carried set) (value_of old set carried.others)) tells done entry)

  table_pushed : (cases more : List (ℕ × ℕ)) (tells : ℕ → PlainEntry → Bool) →
      IsTable mid cases (λ key set. decided (tells key) (deciding old carried set done)) →
      IsMore mid new cases more (λ key set. decides_by mid carried m set entry && tells key entry) →
      IsTable new more (λ key set. decided (tells key) (deciding old carried set (done ++ entry ∷ [])))
  table_pushed cases more tells table grown = record {
    ascending = grown.ascending table.ascending;
    value = λ set k. grown.value set k ∙ push_value set (tells k) (case_or mid set cases k false) (table.value set k);
  }

  pub run_pushed : IsMapFn old new carried (done ++ entry ∷ []) r
  run_pushed = record {
    inside = pushed.inside;
    before = λ set.
        pushed.before set
        ∙ ap (λ b. b || entry_by mid.universe (has_in mid carried set) (value_of mid set carried.others) entry) (run.before set)
        ∙ ap (λ b. is_some (deciding old carried set done) || b) (at_entry set)
        ∙ sym (some_push (entry_by old.universe (has_in old carried set) (value_of old set carried.others)) done entry);
    permit = λ set. pushed.permit set ∙ push_value set permits_it (value_of mid set m.permit) (run.permit set);
    rest = λ set. pushed.rest set ∙ push_value set leaves_rest (value_of mid set m.rest) (run.rest set);
    lps = table_pushed m.lps r.lps prefers run.lps pushed.lps;
    adds = table_pushed m.adds r.adds adds_it run.adds pushed.adds;
    present = table_pushed m.present r.present puts run.present pushed.present;
    odd = table_pushed m.odd r.odd is_odd run.odd pushed.odd;
  }

pub run_none : (store : Shown) (carried : Carried) (never : ℕ) → Means store never (λ _. false) →
    IsMapFn store store carried [] (record { before = never; permit = never; rest = never; lps = []; adds = []; present = []; odd = [] })
run_none store carried never is = record {
  inside = record {
    before = is.inside;
    permit = is.inside;
    rest = is.inside;
    lps = tt;
    adds = tt;
    present = tt;
    odd = tt;
    adds_small = λ k there. absurd cc;
    present_known = λ c there. absurd cc;
    odd_known = λ c there. absurd cc;
  };
  before = is.value;
  permit = is.value;
  rest = is.value;
  lps = record { ascending = tt; value = λ set k. refl };
  adds = record { ascending = tt; value = λ set k. refl };
  present = record { ascending = tt; value = λ set k. refl };
  odd = record { ascending = tt; value = λ set k. refl };
}
