-- Canonical lists can be printed, and name only communities of the universe.
use Rattle.std.proofs.Common.{◌≡◌, ℕ, zero, suc, ◌+◌, ◌-◌, ◌<◌, ◌≤◌, Bool, true, false, ◌||◌, cond, nat_eq, nat_lt, List, [], ◌∷◌, ◌++◌, filter, map, length, Option, Some, None, refl, sym, ◌∙◌, ap, subst, arith, inl, inr}
use Rattle.std.specs.Prelude.{if◌then◌else◌, IfSome}
use Rattle.std.specs.List.{AllByRecursion, list_any}
use Rattle.std.specs.Option.{option_map_or, unwrap_or}
use Rattle.std.proofs.lemmas.Bool.Decides.{nat_tests}
use Rattle.base_kit.specs.Sets.{has, AllAbove, IsAscending}
use Rattle.base_kit.proofs.SetFacts.{has-with_number, has-filter, ascending_filter, ascending_with_numbers}
use Rattle.base_kit.proofs.Elements.{In}
use Rattle.cfg_ast.specs.declared.policy.Change.{Change}
use Rattle.cfg_ast.specs.declared.policy.CommunityLine.{CommunityLine}
use Rattle.cfg_ast.specs.declared.policy.CommunityList.{CommunityList}
use Rattle.cfg_ast.specs.printing.WellFormed.{IsBetween, IsNumber, IsCommunitySet, IsWellFormedCommunityLine, IsWellFormedChange}
use Rattle.route_maps.specs.declared.plain.Imported.{Imported}
use Rattle.route_maps.specs.declared.plain.Plain.{Plain}
use Rattle.route_maps.specs.declared.plain.PlainEntry.{PlainEntry}
use Rattle.route_maps.specs.Printable.{IsPrintableDeletion, ArePrintableLists, IsPrintableEntry, IsPrintable, NamesOne, plain_seqs}
use Rattle.route_maps.specs.Within.{AreWithin, IsLineWithin, IsListWithin, AreListsWithin, IsChangeWithin, IsEntryWithin, IsMapWithin}
use Rattle.canon_policy.specs.declared.fixing.Fixing.{Fixing}
use Rattle.canon_policy.specs.declared.lists.CanonEdge.{CanonEdge}
use Rattle.canon_policy.specs.Functions.{on_sets, accepts, keeps, preference, as_set}
use Rattle.canon_policy.specs.Fixings.{Asked, nothing_fixed, with_present, with_absent, split, settled}
use Rattle.canon_policy.specs.Entries.{alone, match_of, deletion_of, addition_of, replacement_by, lp_of, always_carried, is_removed, is_added, denying, in_entry, out_entry}
use Rattle.canon_policy.specs.Canonical.{in_asked, out_asked, numbered_from, match_is_wide, names_in_change, is_wide, put_before_entries, without_last_denies, limited, in_list, adds_nothing, passing, out_list, lists_of, depends_on_others, canonical_of, canonical_lists_of}
use Rattle.canon_policy.specs.CanonicalProblem.{AreCommunities}
use Rattle.canon_policy.specs.Hanging.{AskedHangsOn}
use Rattle.canon_policy.specs.Plain.{IsPlain}
use Rattle.canon_policy.specs.Printed.{HasSmallNumbers, ArePrintable}
use Rattle.canon_policy.proofs.Leaves.{in_by, out_by}
use Rattle.canon_policy.proofs.Least.{has_in, in_has, equal}
use Rattle.canon_policy.proofs.Limits.{numbered_length}
use Rattle.canon_policy.proofs.Plain.{in_asked_hangs, out_asked_hangs}
use Rattle.canon_policy.proofs.SameSets.{or_none, and_both, ascending-as_set}
use Rattle.canon_policy.proofs.Settled.{all_append}
use Rattle.canon_policy.proofs.Splits.{split_free}

pub pick : {X : Type 0} (P : X → Type 0) (xs : List X) (x : X) → AllByRecursion P xs → In xs x → P x
pick P [] x all h = absurd h
pick P (y ∷ ys) x all (inl e) = subst P e all.0
pick P (y ∷ ys) x all (inr h) = pick P ys x all.1 h

pub all_from : {X : Type 0} (P : X → Type 0) (xs : List X) → ((x : X) → In xs x → P x) → AllByRecursion P xs
all_from P [] each = tt
all_from P (x ∷ xs) each = (each x (inl refl), all_from P xs (λ y h. each y (inr h)))

at_most : (n m : ℕ) → nat_lt n m ≡ false → m ≤ n
at_most n m e = grind (arith, nat_tests)

-- fixings of communities of the universe
pub record IsFixedWithin (universe : List ℕ) (fixing : Fixing) : Type 0 where
  pub ascending : IsAscending fixing.present
  pub known : (c : ℕ) → has fixing.present c ≡ true → has universe c ≡ true

module _ (universe : List ℕ) (asked : Asked) (hang : AskedHangsOn universe asked) where
  abbrev AllWithin : List Fixing → Type 0
  AllWithin = AllByRecursion (IsFixedWithin universe)

  one_more : (fixing : Fixing) (x : ℕ) → IsFixedWithin universe fixing → has universe x ≡ true → IsFixedWithin universe (with_present x fixing)
  one_more fixing x is known = record {
    ascending = ascending_with_numbers (x ∷ []) fixing.present is.ascending;
    known = λ c h. by c (nat_eq x c) refl (sym (has-with_number x fixing.present c) ∙ h);
  }
    where
      by : (c : ℕ) (b : Bool) → nat_eq x c ≡ b → b || has fixing.present c ≡ true → has universe c ≡ true
      by c true same h = ap (has universe) (sym (equal x c same)) ∙ known
      by c false same h = is.known c h

  within_by : (depth : ℕ) → ((fixing : Fixing) → IsFixedWithin universe fixing → AllWithin (settled depth (split universe asked) fixing))
      → (fixing : Fixing) → IsFixedWithin universe fixing → (o : Option ℕ) → split universe asked fixing ≡ o
      → AllWithin (option_map_or
      (λ c. settled depth (split universe asked) (with_present c fixing) ++ settled depth (split universe asked) (with_absent c fixing)) o (fixing ∷ []))
  within_by depth rest fixing is None e = (is, tt)
  within_by depth rest fixing is (Some x) e =
      all_append (IsFixedWithin universe) (settled depth (split universe asked) (with_present x fixing))
      (settled depth (split universe asked) (with_absent x fixing))
      (rest (with_present x fixing) (one_more fixing x is (split_free universe asked fixing x hang e).known))
      (rest (with_absent x fixing) (record { ascending = is.ascending; known = is.known }))

  pub all_within : (depth : ℕ) (fixing : Fixing) → IsFixedWithin universe fixing → AllWithin (settled depth (split universe asked) fixing)
  unfolding settled
  all_within zero fixing is = (is, tt)
  all_within (suc depth) fixing is = within_by depth (all_within depth) fixing is (split universe asked fixing) refl

-- numbered one by one
abbrev IsCounted : ℕ → List PlainEntry → Type 0
IsCounted k [] = Unit {0}
IsCounted k (e ∷ es) = (e.seq ≡ k) × IsCounted (k + 1) es

numbered_counted : (entry : ℕ → Fixing → PlainEntry) → ((seq : ℕ) (fixing : Fixing) → (entry seq fixing).seq ≡ seq)
    → (k : ℕ) (fixings : List Fixing) → IsCounted k (numbered_from k entry fixings)
numbered_counted entry seqs k [] = tt
numbered_counted entry seqs k (f ∷ fs) = (seqs k f, numbered_counted entry seqs (k + 1) fs)

counted_before : (k : ℕ) (e : PlainEntry) (es : List PlainEntry) → e.seq ≡ k → IsCounted (k + 1) es → IsCounted k (put_before_entries e es)
counted_before k e (next ∷ es) is rest = (is, rest)
counted_before k e [] is rest = by e.permit
  where
    by : (b : Bool) → IsCounted k (cond b (e ∷ []) [])
    by true = (is, tt)
    by false = tt

counted_without : (k : ℕ) (es : List PlainEntry) → IsCounted k es → IsCounted k (without_last_denies es)
counted_without k [] all = tt
counted_without k (e ∷ es) all = counted_before k e (without_last_denies es) all.0 (counted_without (k + 1) es all.1)

above : (n m : ℕ) → n < m → (es : List PlainEntry) → IsCounted m es → AllAbove n (plain_seqs es)
above n m lt [] all = tt
above n m lt (e ∷ es) all = let is = all.0 in (omega arith, above n (m + 1) (omega arith) es all.1)

counted_up : (k : ℕ) (es : List PlainEntry) → IsCounted k es → IsAscending (plain_seqs es)
counted_up k [] all = tt
counted_up k (e ∷ es) all = let is = all.0 in (above e.seq (k + 1) (omega arith) es all.1, counted_up (k + 1) es all.1)

all_before : (P : PlainEntry → Type 0) (e : PlainEntry) (es : List PlainEntry) → P e → AllByRecursion P es → AllByRecursion P (put_before_entries e es)
all_before P e (next ∷ es) is rest = (is, rest)
all_before P e [] is rest = by e.permit
  where
    by : (b : Bool) → AllByRecursion P (cond b (e ∷ []) [])
    by true = (is, tt)
    by false = tt

pub all_without : (P : PlainEntry → Type 0) (es : List PlainEntry) → AllByRecursion P es → AllByRecursion P (without_last_denies es)
all_without P [] all = tt
all_without P (e ∷ es) all = all_before P e (without_last_denies es) all.0 (all_without P es all.1)

module _ (universe : List ℕ) (up : IsAscending universe) (communities : AreCommunities universe) where
  -- ascending communities of the universe
  record IsSmallSet (comms : List ℕ) : Type 0 where
    ascending : IsAscending comms
    known : (c : ℕ) → has comms c ≡ true → has universe c ≡ true

  filtered : (p : ℕ → Bool) → IsSmallSet (filter p universe)
  filtered p = record {
    ascending = ascending_filter p universe up;
    known = λ c h. (and_both (p c) (has universe c) (sym (has-filter p universe c) ∙ h)).1;
  }

  within : (comms : List ℕ) → IsSmallSet comms → AreWithin universe comms
  within comms is = all_from (λ c. has universe c ≡ true) comms (λ c h. is.known c (in_has comms c h))

  between : (comms : List ℕ) → IsSmallSet comms → AllByRecursion (IsBetween 1 4294901759) comms
  between comms is =
      all_from (IsBetween 1 4294901759) comms (λ c h. pick (IsBetween 1 4294901759) universe c communities (has_in universe c (is.known c (in_has comms c h))))

  set_of : (c : ℕ) (cs : List ℕ) → IsSmallSet (c ∷ cs) → length (c ∷ cs) ≤ 32 → IsCommunitySet (c ∷ cs)
  set_of c cs is few = record { count = (omega arith, few); each = between (c ∷ cs) is; ascending = is.ascending }

  or_false : (b : Bool) → (b || false) || false ≡ false → b ≡ false
  or_false true e = absurd cc
  or_false false e = refl

  match_printable : (comms : List ℕ) → IsSmallSet comms → list_any match_is_wide (unwrap_or (match_of comms) []) ≡ false
      → IfSome (match_of comms) ArePrintableLists
  match_printable [] is e = tt
  match_printable (c ∷ cs) is e =
      let few = at_most 32 (length (c ∷ cs)) (or_false (nat_lt 32 (length (c ∷ cs))) e) in
      record { count = (omega arith, omega arith); each = (record { some = omega arith; lines = (set_of c cs is few, tt) }, tt) }

  match_within : (comms : List ℕ) → IsSmallSet comms → IfSome (match_of comms) (AreListsWithin universe)
  match_within [] is = tt
  match_within (c ∷ cs) is = ((within (c ∷ cs) is, tt), tt)

  addition_printable : (comms : List ℕ) → IsSmallSet comms → nat_lt 32 (names_in_change (addition_of comms)) ≡ false
      → IfSome (addition_of comms) IsWellFormedChange
  addition_printable [] is e = tt
  addition_printable (c ∷ cs) is e = set_of c cs is (at_most 32 (length (c ∷ cs)) e)

  addition_within : (comms : List ℕ) → IsSmallSet comms → IfSome (addition_of comms) (IsChangeWithin universe)
  addition_within [] is = tt
  addition_within (c ∷ cs) is = within (c ∷ cs) is

  replacement_printable : (comms : List ℕ) → IsSmallSet comms → nat_lt 32 (names_in_change (replacement_by comms)) ≡ false
      → IfSome (replacement_by comms) IsWellFormedChange
  replacement_printable [] is e = tt
  replacement_printable (c ∷ cs) is e = set_of c cs is (at_most 32 (length (c ∷ cs)) e)

  replacement_within : (comms : List ℕ) → IsSmallSet comms → IfSome (replacement_by comms) (IsChangeWithin universe)
  replacement_within [] is = tt
  replacement_within (c ∷ cs) is = within (c ∷ cs) is

  abbrev OneEach : (CommunityLine → Type 0) → List ℕ → Type 0
  OneEach P comms = AllByRecursion P (map alone comms)

  lines_well : (comms : List ℕ) → AllByRecursion (IsBetween 1 4294901759) comms → OneEach IsWellFormedCommunityLine comms
  lines_well [] all = tt
  lines_well (c ∷ cs) all = (record { count = (omega arith, omega arith); each = (all.0, tt); ascending = (tt, tt) }, lines_well cs all.1)

  lines_alone : (comms : List ℕ) → OneEach NamesOne comms
  lines_alone [] = tt
  lines_alone (c ∷ cs) = (refl, lines_alone cs)

  lines_within : (comms : List ℕ) → AreWithin universe comms → OneEach (IsLineWithin universe) comms
  lines_within [] all = tt
  lines_within (c ∷ cs) all = ((all.0, tt), lines_within cs all.1)

  deletion_printable : (comms : List ℕ) → IsSmallSet comms → IfSome (deletion_of comms) IsPrintableDeletion
  deletion_printable [] is = tt
  deletion_printable (c ∷ cs) is = record {
    printable = record { some = omega arith; lines = lines_well (c ∷ cs) (between (c ∷ cs) is) };
    alone = lines_alone (c ∷ cs);
  }

  deletion_within : (comms : List ℕ) → IsSmallSet comms → IfSome (deletion_of comms) (IsListWithin universe)
  deletion_within [] is = tt
  deletion_within (c ∷ cs) is = lines_within (c ∷ cs) (within (c ∷ cs) is)

  lp_printable : (n : ℕ) → IsNumber n → IfSome (lp_of n) IsNumber
  lp_printable n small = by (nat_eq n 100)
    where
      by : (b : Bool) → IfSome (cond b None (Some n)) IsNumber
      by true = tt
      by false = small

  -- an entry that can be printed
  pub record IsGood (entry : PlainEntry) : Type 0 where
    pub printable : IsPrintableEntry entry
    pub within : IsEntryWithin universe entry

  module _ (f : List ℕ → Option Imported) (small : (set : List ℕ) (import : Imported) → f set ≡ Some import → IsNumber import.lp × (import.adds ≤ 10)) where
    wide_parts : (entry : PlainEntry) → is_wide entry ≡ false
        → (list_any match_is_wide (unwrap_or entry.lists []) ≡ false) × (nat_lt 32 (names_in_change entry.change) ≡ false)
    wide_parts entry e = or_none (list_any match_is_wide (unwrap_or entry.lists [])) (nat_lt 32 (names_in_change entry.change)) e

    present_set : (fixing : Fixing) → IsFixedWithin universe fixing → IsSmallSet fixing.present
    present_set fixing is = record { ascending = is.ascending; known = is.known }

    denying_good : (seq : ℕ) (fixing : Fixing) → IsFixedWithin universe fixing → seq ≤ 65535 → is_wide (denying seq fixing) ≡ false
        → IsGood (denying seq fixing)
    denying_good seq fixing is le e = record {
      printable = record {
        seq = le;
        lists = match_printable fixing.present (present_set fixing is) (wide_parts (denying seq fixing) e).0;
        lp = tt;
        change = tt;
        delete = tt;
        adds = omega arith;
      };
      within = record { lists = match_within fixing.present (present_set fixing is); change = tt; delete = tt };
    }

    abbrev change_by : Bool → Fixing → Option Change
    change_by b fixing = if b then addition_of (filter (is_added f fixing) universe) else replacement_by (filter (always_carried f fixing) universe)

    change_printable : (b : Bool) (fixing : Fixing) → nat_lt 32 (names_in_change (change_by b fixing)) ≡ false → IfSome (change_by b fixing) IsWellFormedChange
    change_printable true fixing e = addition_printable (filter (is_added f fixing) universe) (filtered (is_added f fixing)) e
    change_printable false fixing e = replacement_printable (filter (always_carried f fixing) universe) (filtered (always_carried f fixing)) e

    change_within : (b : Bool) (fixing : Fixing) → IfSome (change_by b fixing) (IsChangeWithin universe)
    change_within true fixing = addition_within (filter (is_added f fixing) universe) (filtered (is_added f fixing))
    change_within false fixing = replacement_within (filter (always_carried f fixing) universe) (filtered (always_carried f fixing))

    abbrev delete_by : Bool → Fixing → Option CommunityList
    delete_by b fixing = if b then deletion_of (filter (is_removed f fixing) universe) else None

    delete_printable : (b : Bool) (fixing : Fixing) → IfSome (delete_by b fixing) IsPrintableDeletion
    delete_printable true fixing = deletion_printable (filter (is_removed f fixing) universe) (filtered (is_removed f fixing))
    delete_printable false fixing = tt

    delete_within : (b : Bool) (fixing : Fixing) → IfSome (delete_by b fixing) (IsListWithin universe)
    delete_within true fixing = deletion_within (filter (is_removed f fixing) universe) (filtered (is_removed f fixing))
    delete_within false fixing = tt

    small_lp : (set : List ℕ) (o : Option Imported) → f set ≡ o → IsNumber (option_map_or (λ (i : Imported). i.lp + 1) o 0 - 1)
    small_lp set None e = omega arith
    small_lp set (Some import) e = let s = small set import e in let le = s.0 in omega arith

    small_count : (set : List ℕ) (o : Option Imported) → f set ≡ o → option_map_or (λ (i : Imported). i.adds + 1) o 0 - 1 ≤ 10
    small_count set None e = omega arith
    small_count set (Some import) e = let s = small set import e in let le = s.1 in omega arith

    in_good_by : (b : Bool) (seq : ℕ) (fixing : Fixing) → IsFixedWithin universe fixing → seq ≤ 65535 → is_wide (in_by universe f b seq fixing) ≡ false
        → IsGood (in_by universe f b seq fixing)
    in_good_by true seq fixing is le e = record {
      printable = record {
        seq = le;
        lists = match_printable fixing.present (present_set fixing is) (wide_parts (in_by universe f true seq fixing) e).0;
        lp = lp_printable (preference f fixing.present - 1) (small_lp fixing.present (f fixing.present) refl);
        change = change_printable (keeps f universe fixing.present) fixing (wide_parts (in_by universe f true seq fixing) e).1;
        delete = delete_printable (keeps f universe fixing.present) fixing;
        adds = omega arith;
      };
      within = record {
        lists = match_within fixing.present (present_set fixing is);
        change = change_within (keeps f universe fixing.present) fixing;
        delete = delete_within (keeps f universe fixing.present) fixing;
      };
    }
    in_good_by false seq fixing is le e = denying_good seq fixing is le e

    out_good_by : (b : Bool) (seq : ℕ) (fixing : Fixing) → IsFixedWithin universe fixing → seq ≤ 65535 → is_wide (out_by f b seq fixing) ≡ false
        → IsGood (out_by f b seq fixing)
    out_good_by true seq fixing is le e = record {
      printable = record {
        seq = le;
        lists = match_printable fixing.present (present_set fixing is) (wide_parts (out_by f true seq fixing) e).0;
        lp = tt;
        change = tt;
        delete = tt;
        adds = small_count fixing.present (f fixing.present) refl;
      };
      within = record { lists = match_within fixing.present (present_set fixing is); change = tt; delete = tt };
    }
    out_good_by false seq fixing is le e = denying_good seq fixing is le e

    abbrev AreGoodEntries : (ℕ → Fixing → PlainEntry) → Type 0
    AreGoodEntries entry = (seq : ℕ) (fixing : Fixing) → IsFixedWithin universe fixing → seq ≤ 65535 → is_wide (entry seq fixing) ≡ false
        → IsGood (entry seq fixing)

    all_good : (entry : ℕ → Fixing → PlainEntry) → AreGoodEntries entry → (k : ℕ) (fixings : List Fixing) → k + length fixings ≤ 65536
        → AllByRecursion (IsFixedWithin universe) fixings → list_any is_wide (numbered_from k entry fixings) ≡ false
        → AllByRecursion IsGood (numbered_from k entry fixings)
    all_good entry good k [] few all e = tt
    all_good entry good k (x ∷ xs) few all e =
        let parts = or_none (is_wide (entry k x)) (list_any is_wide (numbered_from (k + 1) entry xs)) e in
        (good k x all.0 (omega arith) parts.0, all_good entry good (k + 1) xs (omega arith) all.1 parts.1)

    -- a list that can be printed
    pub record IsGoodList (list : Plain) : Type 0 where
      pub printable : IsPrintable list
      pub within : IsMapWithin universe list

    good_list : (entries : List PlainEntry) → IsCounted 1 entries → AllByRecursion IsGood entries → IsGoodList (record { entries = entries })
    good_list entries counted all = record {
      printable = record {
        entries = all_from IsPrintableEntry entries (λ e h. (pick IsGood entries e all h).printable);
        ascending = counted_up 1 entries counted;
      };
      within = all_from (IsEntryWithin universe) entries (λ e h. (pick IsGood entries e all h).within);
    }

    limited_good : (entry : ℕ → Fixing → PlainEntry) → AreGoodEntries entry → ((seq : ℕ) (fixing : Fixing) → (entry seq fixing).seq ≡ seq)
        → (fixings : List Fixing) → AllByRecursion (IsFixedWithin universe) fixings → (list : Plain) → limited (numbered_from 1 entry fixings) ≡ Some list
        → IsGoodList list
    unfolding limited
    limited_good entry good seqs fixings all list e = by (nat_lt 65535 (length (numbered_from 1 entry fixings)) || list_any is_wide
        (numbered_from 1 entry fixings)) refl e
      where
        by : (b : Bool) → nat_lt 65535 (length (numbered_from 1 entry fixings)) || list_any is_wide (numbered_from 1 entry fixings) ≡ b
            → (if b then None else Some (record { entries = without_last_denies (numbered_from 1 entry fixings) })) ≡ Some list → IsGoodList list
        by true is e = absurd cc
        by false is e =
            let parts = or_none (nat_lt 65535 (length (numbered_from 1 entry fixings))) (list_any is_wide (numbered_from 1 entry fixings)) is in
            let few = at_most 65535 (length (numbered_from 1 entry fixings)) parts.0 in
            let size = numbered_length entry 1 fixings in
            let same : record { entries = without_last_denies (numbered_from 1 entry fixings) } ≡ list = cc in
            subst IsGoodList same
            (good_list (without_last_denies (numbered_from 1 entry fixings))
            (counted_without 1 (numbered_from 1 entry fixings) (numbered_counted entry seqs 1 fixings))
            (all_without IsGood (numbered_from 1 entry fixings) (all_good entry good 1 fixings (omega arith) all parts.1)))

    in_seqs : (seq : ℕ) (fixing : Fixing) → (in_entry universe f seq fixing).seq ≡ seq
    in_seqs seq fixing = by (accepts f fixing.present)
      where
        by : (b : Bool) → (in_by universe f b seq fixing).seq ≡ seq
        by true = refl
        by false = refl

    out_seqs : (seq : ℕ) (fixing : Fixing) → (out_entry f seq fixing).seq ≡ seq
    out_seqs seq fixing = by (accepts f fixing.present)
      where
        by : (b : Bool) → (out_by f b seq fixing).seq ≡ seq
        by true = refl
        by false = refl

    start : IsFixedWithin universe nothing_fixed
    start = record { ascending = tt; known = λ c h. absurd cc }

    module _ (plain : IsPlain universe f) where
      in_good : (list : Plain) → in_list universe f ≡ Some list → IsGoodList list
      in_good list e =
          limited_good (in_entry universe f) (λ seq fixing. in_good_by (accepts f fixing.present) seq fixing) in_seqs
          (settled (length universe) (split universe (in_asked universe f)) nothing_fixed)
          (all_within universe (in_asked universe f) (in_asked_hangs universe f plain) (length universe) nothing_fixed start) list e

      passing_good : IsGoodList passing
      passing_good = record {
        printable = record {
          entries = (record { seq = omega arith; lists = tt; lp = tt; change = tt; delete = tt; adds = omega arith }, tt);
          ascending = (tt, tt);
        };
        within = (record { lists = tt; change = tt; delete = tt }, tt);
      }

      out_good : (list : Plain) → out_list universe f ≡ Some list → IsGoodList list
      out_good list e = by (adds_nothing universe f) e
        where
          by : (b : Bool) → (if b then Some passing else limited
              (numbered_from 1 (out_entry f) (settled (length universe) (split universe (out_asked universe f)) nothing_fixed))) ≡ Some list → IsGoodList list
          by true e = let same : passing ≡ list = cc in subst IsGoodList same passing_good
          by false e =
              limited_good (out_entry f) (λ seq fixing. out_good_by (accepts f fixing.present) seq fixing) out_seqs
              (settled (length universe) (split universe (out_asked universe f)) nothing_fixed)
              (all_within universe (out_asked universe f) (out_asked_hangs universe f plain) (length universe) nothing_fixed start) list e

      both : (out into : Option Plain) (lists : CanonEdge) → lists_of out into ≡ Some lists → (out ≡ Some lists.out) × (into ≡ Some lists.into)
      both None into lists e = absurd cc
      both (Some out) None lists e = absurd cc
      both (Some out) (Some into) lists e =
          let same : record { out = out; into = into } ≡ lists = cc in
          (ap (λ (l : CanonEdge). Some l.out) same, ap (λ (l : CanonEdge). Some l.into) same)

      pub lists_good : (lists : CanonEdge) → canonical_of universe f ≡ Some lists → ArePrintable universe lists
      unfolding canonical_of
      lists_good lists e = by (depends_on_others universe f) e
        where
          by : (b : Bool) → (if b then None else lists_of (out_list universe f) (in_list universe f)) ≡ Some lists → ArePrintable universe lists
          by true e = absurd cc
          by false e =
              let each = both (out_list universe f) (in_list universe f) lists e in
              let out = out_good lists.out each.0 in
              let into = in_good lists.into each.1 in
              record { out = out.printable; into = into.printable; out_within = out.within; into_within = into.within }

-- the canonical lists of a function with small numbers can be printed
pub printable_lists : (universe : List ℕ) (f : List ℕ → Option Imported) (lists : CanonEdge) → IsAscending universe → AreCommunities universe
    → HasSmallNumbers f
    → IsPlain universe (on_sets f) → canonical_lists_of universe f ≡ Some lists → ArePrintable universe lists
unfolding canonical_lists_of
printable_lists universe f lists up communities small plain e =
    lists_good universe up communities (on_sets f)
    (λ set import is. (small.lp (as_set set) import (ascending-as_set set) is, small.adds (as_set set) import (ascending-as_set set) is)) plain lists e
