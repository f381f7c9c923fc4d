-- The lists that settled fixings make.
use Rattle.std.proofs.Common.{◌≡◌, ◌≢◌, ℕ, suc, ◌+◌, ◌<◌, ◌≤◌, Bool, true, false, ◌&&◌, ◌||◌, nat_lt, nat_eq, List, [], ◌∷◌, length, Option, Some, None, refl, sym, ◌∙◌, ap, subst, arith, inl, inr}
use Rattle.std.specs.List.{list_any, list_all}
use Rattle.std.specs.Option.{unwrap_or}
use Rattle.std.proofs.lemmas.Bool.Decides.{nat_tests}
use Rattle.base_kit.specs.Sets.{has}
use Rattle.base_kit.proofs.Elements.{In}
use Rattle.dd_core.specs.Sets.{Shown, IsShown, value_of}
use Rattle.policy_dd.specs.declared.edge.EdgeFn.{EdgeFn}
use Rattle.policy_dd.specs.Edge.{case_or, keys_of, by_number, never, AllCases, IsCase, IsEdgeFn}
use Rattle.route_maps.specs.declared.plain.Imported.{Imported}
use Rattle.route_maps.specs.declared.plain.PlainEntry.{PlainEntry}
use Rattle.canon_policy.specs.declared.fixing.Fixing.{Fixing}
use Rattle.canon_policy.specs.Functions.{on_sets, accepts, added_count}
use Rattle.canon_policy.specs.Fixings.{nothing_fixed, sets_of, split, settled}
use Rattle.canon_policy.specs.Entries.{match_of, in_entry, out_entry}
use Rattle.canon_policy.specs.Canonical.{in_asked, out_asked, numbered_from, match_is_wide, names_in_change, is_wide, limited, in_list, out_list, adds_nothing, passing}
use Rattle.canon_policy.specs.Made.{asked_of, in_made, out_made, has_no_count}
use Rattle.canon_policy.specs.Nodes.{is_broad, are_over}
use Rattle.canon_policy.specs.Plain.{IsPlain}
use Rattle.canon_policy.proofs.Asked.{splits_same, other_carried}
use Rattle.canon_policy.proofs.LastDenies.{limited_long, limited_wide}
use Rattle.canon_policy.proofs.Leaves.{in_by, out_by}
use Rattle.canon_policy.proofs.MadeEntries.{true_case, all_in, all_out}
use Rattle.canon_policy.proofs.Plain.{in_asked_hangs}
use Rattle.canon_policy.proofs.SameSets.{all_are, all_in as all_passes, filtered_in, named, named_same}
use Rattle.canon_policy.proofs.Says.{adds_table}
use Rattle.canon_policy.proofs.Settled.{all_settled}
use Rattle.canon_policy.proofs.Tables.{at_key, NumberAt}
use Rattle.canon_policy.proofs.Tables.NumberAt.{none, some}

pub numbered_length : (entry : ℕ → Fixing → PlainEntry) (k : ℕ) (xs : List Fixing) → length (numbered_from k entry xs) ≡ length xs
numbered_length entry k [] = refl
numbered_length entry k (x ∷ xs) = ap suc (numbered_length entry (k + 1) xs)

wide_match : (comms : List ℕ) → nat_lt 32 (length comms) ≡ true → list_any match_is_wide (unwrap_or (match_of comms) []) ≡ true
wide_match [] e = absurd cc
wide_match (c ∷ cs) e = rw e refl

wide_by : (entry : PlainEntry) (comms : List ℕ) → entry.lists ≡ match_of comms → nat_lt 32 (length comms) ≡ true → is_wide entry ≡ true
wide_by entry comms lists e =
    by (list_any match_is_wide (unwrap_or entry.lists [])) (nat_lt 32 (names_in_change entry.change))
    (ap (λ l. list_any match_is_wide (unwrap_or l [])) lists ∙ wide_match comms e)
  where
    by : (a b : Bool) → a ≡ true → a || b ≡ true
    by true b e = refl
    by false b e = absurd cc

in_matches : (universe : List ℕ) (f : List ℕ → Option Imported) (seq : ℕ) (fixing : Fixing) → (in_entry universe f seq fixing).lists ≡ match_of fixing.present
in_matches universe f seq fixing = by (accepts f fixing.present)
  where
    by : (b : Bool) → (in_by universe f b seq fixing).lists ≡ match_of fixing.present
    by true = refl
    by false = refl

out_matches : (f : List ℕ → Option Imported) (seq : ℕ) (fixing : Fixing) → (out_entry f seq fixing).lists ≡ match_of fixing.present
out_matches f seq fixing = by (accepts f fixing.present)
  where
    by : (b : Bool) → (out_by f b seq fixing).lists ≡ match_of fixing.present
    by true = refl
    by false = refl

broad_wide : (entry : ℕ → Fixing → PlainEntry) → ((seq : ℕ) (fixing : Fixing) → (entry seq fixing).lists ≡ match_of fixing.present)
    → (k : ℕ) (xs : List Fixing) → list_any is_broad xs ≡ true → list_any is_wide (numbered_from k entry xs) ≡ true
broad_wide entry matches k [] e = absurd cc
broad_wide entry matches k (x ∷ xs) e = by (is_broad x) refl e (broad_wide entry matches (k + 1) xs)
  where
    or_true : (a b : Bool) → a ≡ true → a || b ≡ true
    or_true true b e = refl
    or_true false b e = absurd cc

    or_later : (a b : Bool) → b ≡ true → a || b ≡ true
    or_later true b e = refl
    or_later false b e = e

    by : (b : Bool) → is_broad x ≡ b → b || list_any is_broad xs ≡ true
        → (list_any is_broad xs ≡ true → list_any is_wide (numbered_from (k + 1) entry xs) ≡ true)
        → is_wide (entry k x) || list_any is_wide (numbered_from (k + 1) entry xs) ≡ true
    by true broad e rest = or_true (is_wide (entry k x)) (list_any is_wide (numbered_from (k + 1) entry xs)) (wide_by (entry k x) x.present (matches k x) broad)
    by false broad e rest = or_later (is_wide (entry k x)) (list_any is_wide (numbered_from (k + 1) entry xs)) (rest e)

over_none : (entry : ℕ → Fixing → PlainEntry) → ((seq : ℕ) (fixing : Fixing) → (entry seq fixing).lists ≡ match_of fixing.present) → (xs : List Fixing)
    → are_over xs ≡ true → limited (numbered_from 1 entry xs) ≡ None
unfolding are_over
over_none entry matches xs e = by (nat_lt 65535 (length xs)) refl e
  where
    less : (n : ℕ) → nat_lt 65535 n ≡ true → 65535 < n
    less n e = grind (arith, nat_tests)

    by : (b : Bool) → nat_lt 65535 (length xs) ≡ b → b || list_any is_broad xs ≡ true → limited (numbered_from 1 entry xs) ≡ None
    by true long e = let size = numbered_length entry 1 xs in let lt = less (length xs) long in limited_long (numbered_from 1 entry xs) (omega arith)
    by false long e = limited_wide (numbered_from 1 entry xs) (broad_wide entry matches 1 xs e)

-- counts
no_count_all : (cases : List (ℕ × ℕ)) → has_no_count cases ≡ true → (case : ℕ × ℕ) → In cases case → case.0 ≡ 0
no_count_all cases e case h = zero_is case.0 (all_passes (λ (c : ℕ × ℕ). nat_eq c.0 0) cases case e h)
  where
    zero_is : (n : ℕ) → nat_eq n 0 ≡ true → n ≡ 0
    zero_is n e = grind (arith, nat_tests)

record SomeCount (cases : List (ℕ × ℕ)) : Type 0 where
  case : ℕ × ℕ
  there : In cases case
  above : 0 < case.0

some_count : (cases : List (ℕ × ℕ)) → has_no_count cases ≡ false → SomeCount cases
some_count [] e = absurd cc
some_count (case ∷ cases) e = by (nat_eq case.0 0) refl e (some_count cases)
  where
    positive : nat_eq case.0 0 ≡ false → 0 < case.0
    positive e = grind (arith, nat_tests)

    later : SomeCount cases → SomeCount (case ∷ cases)
    later s = record { case = s.case; there = inr s.there; above = s.above }

    by : (b : Bool) → nat_eq case.0 0 ≡ b → b && has_no_count cases ≡ false → (has_no_count cases ≡ false → SomeCount cases) → SomeCount (case ∷ cases)
    by true is e rest = later (rest e)
    by false is e rest = record { case = case; there = inl refl; above = positive is }

case_of : (shown : Shown) (other : ℕ → List ℕ → Bool) (cases : List (ℕ × ℕ)) (case : ℕ × ℕ) → AllCases shown other cases → In cases case
    → IsCase shown other case
case_of shown other [] case all h = absurd h
case_of shown other (x ∷ xs) case all (inl e) = subst (IsCase shown other) e all.0
case_of shown other (x ∷ xs) case all (inr h) = case_of shown other xs case all.1 h

module _ (shown : Shown) (is : IsShown shown) (edge : EdgeFn) (f : List ℕ → Option Imported) (of : IsEdgeFn shown edge f)
    (plain : IsPlain shown.universe (on_sets f)) where
  few_counts : has_no_count edge.adds ≡ true → (set : List ℕ) → nat_lt (added_count (on_sets f) set) 2 ≡ true
  few_counts e set = by (added_count (on_sets f) set) ((adds_table shown is edge f of).number set)
    where
      by : (n : ℕ) → NumberAt shown edge.permit edge.adds set n → nat_lt n 2 ≡ true
      by n (none denied is_zero) = grind (arith, nat_tests)
      by n (some key is_more holds) =
          let t = true_case shown set edge.adds key holds in
          let zero_key = no_count_all edge.adds e t.case t.there in
          let same = t.key_is in
          let one : n ≡ 1 = omega arith in
          rw one refl

  pub nothing_added : has_no_count edge.adds ≡ true → adds_nothing shown.universe (on_sets f) ≡ true
  unfolding adds_nothing
  nothing_added e = all_are (λ (set : List ℕ). nat_lt (added_count (on_sets f) set) 2) (sets_of shown.universe) (λ set h. few_counts e set)

  many_counts : (s : SomeCount edge.adds) (set : List ℕ) → value_of shown set s.case.1 ≡ true → nat_lt (added_count (on_sets f) set) 2 ≡ false
  many_counts s set holds = by (added_count (on_sets f) set) ((adds_table shown is edge f of).number set)
    where
      here : case_or shown set edge.adds s.case.0 false ≡ true
      here = at_key shown set edge.adds s.case false of.adds.ascending s.there ∙ holds

      by : (n : ℕ) → NumberAt shown edge.permit edge.adds set n → nat_lt n 2 ≡ false
      by n (none denied is_zero) = let out = ((adds_table shown is edge f of).one set).implied s.case.0 denied in absurd (let wrong = sym here ∙ out in cc)
      by n (some key is_more holds') =
          let same = ((adds_table shown is edge f of).one set).one key s.case.0 holds' here in
          let above = s.above in
          let le : 2 ≤ n = omega arith in
          grind (arith, nat_tests)

  pub something_added : has_no_count edge.adds ≡ false → adds_nothing shown.universe (on_sets f) ≡ false
  unfolding adds_nothing
  something_added e = by (list_all (λ (set : List ℕ). nat_lt (added_count (on_sets f) set) 2) (sets_of shown.universe)) refl
    where
      s : SomeCount edge.adds
      s = some_count edge.adds e

      truth : (b : Bool) → b ≢ false → b ≡ true
      truth true ne = refl
      truth false ne = absurd (ne refl)

      by : (b : Bool) → list_all (λ (set : List ℕ). nat_lt (added_count (on_sets f) set) 2) (sets_of shown.universe) ≡ b → b ≡ false
      by true all =
          let s = some_count edge.adds e in
          let case = case_of shown never edge.adds s.case of.adds.each s.there in
          let set : List ℕ = case.set in
          let few = all_passes (λ (a : List ℕ). nat_lt (added_count (on_sets f) a) 2) (sets_of shown.universe) (named shown.universe case.set) all
          (filtered_in (has case.set) shown.universe) in
          let same = plain.adds.same (named shown.universe case.set) case.set (named_same shown.universe case.set) in
          let many = many_counts s case.set (truth (value_of shown case.set s.case.1) case.differ) in
          absurd (let wrong : true ≡ false = sym few ∙ ap (λ n. nat_lt n 2) same ∙ many in cc)
      by false all = refl

  -- the lists that the fixings found make
  keys : List ℕ
  keys = keys_of (by_number edge.outs)

  abbrev found_in : List Fixing
  found_in = settled (length shown.universe) (split shown.universe (asked_of shown.universe (on_sets f) (keys_of (by_number edge.outs)))) nothing_fixed

  in_fixings : found_in ≡ settled (length shown.universe) (split shown.universe (in_asked shown.universe (on_sets f))) nothing_fixed
  in_fixings = ap (λ (by : Fixing → Option ℕ). settled (length shown.universe) by nothing_fixed)
      (splits_same shown.universe (on_sets f) plain (keys_of (by_number edge.outs)) of.outs_known
      (other_carried shown is edge f of plain) is.ascending of.outs.ascending)

  pub in_over : are_over found_in ≡ true → in_list shown.universe (on_sets f) ≡ None
  in_over e = over_none (in_entry shown.universe (on_sets f)) (in_matches shown.universe (on_sets f))
      (settled (length shown.universe) (split shown.universe (in_asked shown.universe (on_sets f))) nothing_fixed) (ap are_over (sym in_fixings) ∙ e)

  pub in_limited : limited (numbered_from 1 (in_made shown edge) found_in) ≡ in_list shown.universe (on_sets f)
  in_limited =
      ap (λ (l : List Fixing). limited (numbered_from 1 (in_made shown edge) l)) in_fixings
      ∙ ap limited (all_in shown is edge f of plain 1
      (settled (length shown.universe) (split shown.universe (in_asked shown.universe (on_sets f))) nothing_fixed)
      (all_settled shown.universe (in_asked shown.universe (on_sets f)) (in_asked_hangs shown.universe (on_sets f) plain)))

  abbrev found_out : List Fixing
  found_out = settled (length shown.universe) (split shown.universe (out_asked shown.universe (on_sets f))) nothing_fixed

  pub out_over : has_no_count edge.adds ≡ false → are_over found_out ≡ true → out_list shown.universe (on_sets f) ≡ None
  out_over some_count e = rw (something_added some_count) (over_none (out_entry (on_sets f)) (out_matches (on_sets f)) found_out e)

  pub out_limited : has_no_count edge.adds ≡ false → limited (numbered_from 1 (out_made shown edge) found_out) ≡ out_list shown.universe (on_sets f)
  out_limited some_count = rw (something_added some_count) (ap limited (all_out shown is edge f of plain 1 found_out))

  pub out_passing : has_no_count edge.adds ≡ true → out_list shown.universe (on_sets f) ≡ Some passing
  out_passing e = rw (nothing_added e) refl
