-- The entries that the calls make by nodes are those that the specification names.
use Rattle.std.proofs.Common.{◌≡◌, ◌≢◌, ℕ, ◌+◌, ◌-◌, Bool, true, false, not, ◌&&◌, ◌||◌, cond, nat_eq, List, [], ◌∷◌, filter, Option, Some, None, refl, sym, ◌∙◌, ap, arith, inl, inr}
use Rattle.std.specs.Prelude.{if◌then◌else◌}
use Rattle.std.specs.List.{AllByRecursion}
use Rattle.std.proofs.lemmas.Bool.{cases_eq}
use Rattle.std.proofs.lemmas.Bool.Decides.{nat_tests}
use Rattle.base_kit.specs.declared.ids.Community.{Community}
use Rattle.base_kit.specs.Sets.{has, with_number, IsAscending}
use Rattle.base_kit.proofs.SetFacts.{same_number, has-with_number, has-filter, one_list, ascending_filter}
use Rattle.base_kit.proofs.Elements.{In}
use Rattle.cfg_ast.specs.declared.policy.Change.{Change}
use Rattle.cfg_ast.specs.declared.policy.CommunityList.{CommunityList}
use Rattle.dd_core.specs.Sets.{Shown, IsShown, value_of}
use Rattle.policy_dd.specs.declared.edge.EdgeFn.{EdgeFn}
use Rattle.policy_dd.specs.Edge.{case_or, keys_of, by_number, IsEdgeFn}
use Rattle.policy_dd.proofs.CaseLemmas.{case_here, case_later}
use Rattle.route_maps.specs.declared.plain.Imported.{Imported}
use Rattle.route_maps.specs.declared.plain.PlainEntry.{PlainEntry}
use Rattle.canon_policy.specs.declared.fixing.Fixing.{Fixing}
use Rattle.canon_policy.specs.Functions.{on_sets, carries, keeps, preference, added_count}
use Rattle.canon_policy.specs.Canonical.{in_asked, numbered_from}
use Rattle.canon_policy.specs.Entries.{match_of, deletion_of, addition_of, replacement_by, lp_of, always_carried, is_removed, is_added, canonical_change, deletion_for, in_entry, out_entry}
use Rattle.canon_policy.specs.Made.{carried_in, is_out, deleted_in, is_not_present, lp_in, count_in, change_made, deletion_made, in_made, out_made}
use Rattle.canon_policy.specs.Plain.{IsPlain}
use Rattle.canon_policy.proofs.Asked.{kept_is, other_carried}
use Rattle.canon_policy.proofs.MadeLists.{lp_here, lp_later, count_here, count_later}
use Rattle.canon_policy.proofs.Plain.{AreSettled, in_settled, more_agrees}
use Rattle.canon_policy.proofs.SameSets.{Agrees}
use Rattle.canon_policy.proofs.Says.{accepts_is, by_node, lps_table, adds_table}
use Rattle.canon_policy.proofs.Settled.{IsSettledBy}
use Rattle.canon_policy.proofs.Tables.{at_key, IsTableOf, NumberAt}
use Rattle.canon_policy.proofs.Tables.NumberAt.{none, some}

-- a test of a number that is true on each case is true of the keys
same_cond : (a b : Bool) (x : ℕ) (xs ys : List ℕ) → a ≡ b → xs ≡ ys → (if a then x ∷ xs else xs) ≡ cond b (x ∷ ys) ys
same_cond true true x xs ys e e' = ap (λ (l : List ℕ). x ∷ l) e'
same_cond true false x xs ys e e' = absurd cc
same_cond false true x xs ys e e' = absurd cc
same_cond false false x xs ys e e' = e'

carried_keys : (shown : Shown) (set : List ℕ) (test : ℕ → Bool) (cases : List (Community × ℕ))
    → ((case : ℕ × ℕ) → In (by_number cases) case → value_of shown set case.1 ≡ test case.0)
    → carried_in shown set cases ≡ filter test (keys_of (by_number cases))
carried_keys shown set test [] says = refl
carried_keys shown set test (case ∷ cases) says =
    same_cond (value_of shown set case.1) (test case.0.0) case.0.0 (carried_in shown set cases) (filter test (keys_of (by_number cases)))
    (says (case.0.0, case.1) (inl refl)) (carried_keys shown set test cases (λ c h. says c (inr h)))

deleted_keys : (shown : Shown) (fixing : Fixing) (test : ℕ → Bool) (cases : List (Community × ℕ))
    → ((case : ℕ × ℕ) → In (by_number cases) case
    → not (has fixing.absent case.0) && not (value_of shown (with_number case.0 fixing.present) case.1) ≡ test case.0)
    → deleted_in shown fixing cases ≡ filter test (keys_of (by_number cases))
deleted_keys shown fixing test [] says = refl
deleted_keys shown fixing test (case ∷ cases) says =
    same_cond (is_out shown fixing case) (test case.0.0) case.0.0 (deleted_in shown fixing cases) (filter test (keys_of (by_number cases)))
    (says (case.0.0, case.1) (inl refl)) (deleted_keys shown fixing test cases (λ c h. says c (inr h)))

filter_twice : (p q : ℕ → Bool) (xs : List ℕ) → filter (λ x. p x && q x) xs ≡ filter q (filter p xs)
filter_twice p q [] = refl
filter_twice p q (x ∷ xs) = by (p x) (q x) refl (filter_twice p q xs)
  where
    by : (a b : Bool) → q x ≡ b → filter (λ y. p y && q y) xs ≡ filter q (filter p xs)
        → cond (a && b) (x ∷ filter (λ y. p y && q y) xs) (filter (λ y. p y && q y) xs) ≡ filter q (cond a (x ∷ filter p xs) (filter p xs))
    by true true e rest = rw e (ap (λ (l : List ℕ). x ∷ l) rest)
    by true false e rest = rw e rest
    by false b e rest = rest

-- of the universe only keys pass
filter_keys : (universe keys : List ℕ) (test : ℕ → Bool) → IsAscending universe → IsAscending keys → ((c : ℕ) → has keys c ≡ true → has universe c ≡ true)
    → ((c : ℕ) → has keys c ≡ false → test c ≡ false) → filter test universe ≡ filter test keys
filter_keys universe keys test up keys_up known out =
    one_list (filter test universe) (filter test keys) (ascending_filter test universe up) (ascending_filter test keys keys_up)
    (λ c. has-filter test universe c ∙ by (test c) (has universe c) (has keys c) (known c) (out c) ∙ sym (has-filter test keys c))
  where
    by : (t u k : Bool) → (k ≡ true → u ≡ true) → (k ≡ false → t ≡ false) → t && u ≡ t && k
    by t u true g h = rw (g refl) refl
    by t u false g h = rw (h refl) refl

-- a key whose node is true
pub record TrueCase (shown : Shown) (set : List ℕ) (cases : List (ℕ × ℕ)) (key : ℕ) : Type 0 where
  pub case : ℕ × ℕ
  pub there : In cases case
  pub key_is : case.0 ≡ key
  pub holds : value_of shown set case.1 ≡ true

pub true_case : (shown : Shown) (set : List ℕ) (cases : List (ℕ × ℕ)) (key : ℕ) → case_or shown set cases key false ≡ true → TrueCase shown set cases key
true_case shown set [] key e = absurd cc
true_case shown set (head ∷ cases) key e = elim (cases_eq head.0 key) [
  | inl same ↦ record { case = head; there = inl refl; key_is = same; holds = sym (case_here shown set head cases key false same) ∙ e }
  | inr ne ↦ (let t = true_case shown set cases key
      (sym (case_later shown set head cases key false ne) ∙ e) in record { case = t.case; there = inr t.there; key_is = t.key_is; holds = t.holds })
]

lp_none : (shown : Shown) (set : List ℕ) (cases : List (ℕ × ℕ)) → ((case : ℕ × ℕ) → In cases case → value_of shown set case.1 ≡ true → case.0 ≡ 100)
    → lp_in shown set cases ≡ None
lp_none shown set [] all = refl
lp_none shown set (head ∷ cases) all = lp_later shown set head cases (λ ne e. ne (all head (inl refl) e)) ∙ lp_none shown set cases (λ c h. all c (inr h))

lp_some : (shown : Shown) (set : List ℕ) (cases : List (ℕ × ℕ)) (lp : ℕ) → lp ≢ 100
    → ((case : ℕ × ℕ) → In cases case → value_of shown set case.1 ≡ true → case.0 ≡ lp) → (t : TrueCase shown set cases lp) → lp_in shown set cases ≡ Some lp
lp_some shown set [] lp ne all t = absurd t.there
lp_some shown set (head ∷ cases) lp ne all t = by (value_of shown set head.1) refl (lp_some shown set cases lp ne (λ c h. all c (inr h)))
  where
    later : value_of shown set head.1 ≡ false → In (head ∷ cases) t.case → TrueCase shown set cases lp
    later e (inl same) = let h = ap (λ (c : ℕ × ℕ). value_of shown set c.1) same in let right = t.holds in absurd cc
    later e (inr h) = record { case = t.case; there = h; key_is = t.key_is; holds = t.holds }

    by : (b : Bool) → value_of shown set head.1 ≡ b → (TrueCase shown set cases lp → lp_in shown set cases ≡ Some lp) → lp_in shown set (head ∷ cases) ≡ Some lp
    by true e rest = let key = all head (inl refl) e in lp_here shown set head cases (λ h. ne (sym key ∙ h)) e ∙ ap (λ (n : ℕ). Some n) key
    by false e rest = lp_later shown set head cases (λ _ right. absurd (let wrong = sym e ∙ right in cc)) ∙ rest (later e t.there)

count_some : (shown : Shown) (set : List ℕ) (cases : List (ℕ × ℕ)) (adds : ℕ)
    → ((case : ℕ × ℕ) → In cases case → value_of shown set case.1 ≡ true → case.0 ≡ adds) → (t : TrueCase shown set cases adds)
    → count_in shown set cases ≡ adds
count_some shown set [] adds all t = absurd t.there
count_some shown set (head ∷ cases) adds all t = by (value_of shown set head.1) refl (count_some shown set cases adds (λ c h. all c (inr h)))
  where
    later : value_of shown set head.1 ≡ false → In (head ∷ cases) t.case → TrueCase shown set cases adds
    later e (inl same) = let h = ap (λ (c : ℕ × ℕ). value_of shown set c.1) same in let right = t.holds in absurd cc
    later e (inr h) = record { case = t.case; there = h; key_is = t.key_is; holds = t.holds }

    by : (b : Bool) → value_of shown set head.1 ≡ b → (TrueCase shown set cases adds → count_in shown set cases ≡ adds)
        → count_in shown set (head ∷ cases) ≡ adds
    by true e rest = count_here shown set head cases e ∙ all head (inl refl) e
    by false e rest = count_later shown set head cases e ∙ rest (later e t.there)

module _ (shown : Shown) (permit : ℕ) (cases : List (ℕ × ℕ)) (part : List ℕ → ℕ) (table : IsTableOf shown permit cases part) (set : List ℕ) where
  one_key : (key : ℕ) → case_or shown set cases key false ≡ true → (case : ℕ × ℕ) → In cases case → value_of shown set case.1 ≡ true → case.0 ≡ key
  one_key key holds case h e = (table.one set).one case.0 key (at_key shown set cases case false table.are.ascending h ∙ e) holds

  by_lp : (n key : ℕ) → n ≡ key + 1 → case_or shown set cases key false ≡ true → lp_in shown set cases ≡ lp_of (n - 1)
  by_lp n key e holds = by (nat_eq key 100) refl
    where
      key_is : n - 1 ≡ key
      key_is = omega arith

      number_is : nat_eq key 100 ≡ true → key ≡ 100
      number_is e = grind (arith, nat_tests)

      by : (b : Bool) → nat_eq key 100 ≡ b → lp_in shown set cases ≡ lp_of (n - 1)
      by true hundred =
          lp_none shown set cases (λ case h e. one_key key holds case h e ∙ number_is hundred)
          ∙ sym (ap lp_of key_is ∙ rw hundred refl)
      by false other =
          lp_some shown set cases key (λ same. let right = same_number key 100 same in absurd cc) (one_key key holds) (true_case shown set cases key holds)
          ∙ sym (ap lp_of key_is ∙ rw other refl)

  -- where the set is accepted
  pub table_lp : value_of shown set permit ≡ true → lp_in shown set cases ≡ lp_of (part set - 1)
  table_lp accepted = by (part set) (table.number set)
    where
      by : (n : ℕ) → NumberAt shown permit cases set n → lp_in shown set cases ≡ lp_of (n - 1)
      by n (none denied e) = absurd (let wrong = sym accepted ∙ denied in cc)
      by n (some key e holds) = by_lp n key e holds

  pub table_count : value_of shown set permit ≡ true → count_in shown set cases ≡ part set - 1
  table_count accepted = by (part set) (table.number set)
    where
      by : (n : ℕ) → NumberAt shown permit cases set n → count_in shown set cases ≡ n - 1
      by n (none denied e) = absurd (let wrong = sym accepted ∙ denied in cc)
      by n (some key e holds) = let same : key ≡ n - 1 = omega arith in count_some shown set cases key (one_key key holds)
          (true_case shown set cases key holds) ∙ same

module _ (shown : Shown) (is : IsShown shown) (edge : EdgeFn) (f : List ℕ → Option Imported) (of : IsEdgeFn shown edge f)
    (plain : IsPlain shown.universe (on_sets f)) (fixing : Fixing) where
  carried_is : carried_in shown fixing.present edge.outs ≡ filter (always_carried (on_sets f) fixing) (keys_of (by_number edge.outs))
  carried_is = carried_keys shown fixing.present (always_carried (on_sets f) fixing) edge.outs
      (λ case h. sym (by_node shown is edge f of fixing.present case h))

  replaced_is : keeps (on_sets f) shown.universe fixing.present ≡ false
      → carried_in shown fixing.present edge.outs ≡ filter (always_carried (on_sets f) fixing) shown.universe
  replaced_is replaces =
      carried_is
      ∙ sym (filter_keys shown.universe (keys_of (by_number edge.outs)) (always_carried (on_sets f) fixing) is.ascending of.outs.ascending of.outs_known
      (λ c bare.
      other_carried shown is edge f of plain c bare fixing.present ∙ rw replaces (nothing (has fixing.present c))))
    where
      nothing : (b : Bool) → b && false ≡ false
      nothing true = refl
      nothing false = refl

  added_is : filter (is_not_present fixing) (carried_in shown fixing.present edge.outs) ≡ filter (is_added (on_sets f) fixing) shown.universe
  added_is =
      ap (λ (l : List ℕ). filter (is_not_present fixing) l) carried_is
      ∙ sym (filter_twice (always_carried (on_sets f) fixing) (is_not_present fixing) (keys_of (by_number edge.outs)))
      ∙ sym (filter_keys shown.universe (keys_of (by_number edge.outs)) (is_added (on_sets f) fixing) is.ascending of.outs.ascending of.outs_known (λ c bare.
      ap (λ b. b && not (has fixing.present c)) (other_carried shown is edge f of plain c bare fixing.present)
      ∙ nothing (has fixing.present c) (keeps (on_sets f) shown.universe fixing.present)))
    where
      nothing : (a k : Bool) → (a && k) && not a ≡ false
      nothing true true = refl
      nothing true false = refl
      nothing false k = refl

  deleted_is : keeps (on_sets f) shown.universe fixing.present ≡ true → AreSettled shown.universe (on_sets f) fixing → Agrees fixing fixing.present
      → deleted_in shown fixing edge.outs ≡ filter (is_removed (on_sets f) fixing) shown.universe
  deleted_is kept settled agrees =
      deleted_keys shown fixing (is_removed (on_sets f) fixing) edge.outs (λ case h.
      ap (λ b. not (has fixing.absent case.0) && not b) (sym (by_node shown is edge f of (with_number case.0 fixing.present) case h)))
      ∙ sym (filter_keys shown.universe (keys_of (by_number edge.outs)) (is_removed (on_sets f) fixing) is.ascending of.outs.ascending of.outs_known (λ c bare.
      by c bare (has fixing.absent c) refl))
    where
      left_true : (a b : Bool) → a ≡ true → a || b ≡ true
      left_true true b e = refl
      left_true false b e = absurd cc

      both : (a b : Bool) → a ≡ true → b ≡ true → a && b ≡ true
      both true true e e' = refl
      both true false e e' = absurd cc
      both false b e e' = absurd cc

      by : (c : ℕ) → has (keys_of (by_number edge.outs)) c ≡ false → (b : Bool) → has fixing.absent c ≡ b
          → not b && not (carries (on_sets f) c (with_number c fixing.present)) ≡ false
      by c bare true e = refl
      by c bare false e =
          let more = more_agrees fixing c agrees e in
          let there : has (with_number c fixing.present) c ≡ true = has-with_number c fixing.present c
          ∙ left_true (nat_eq c c) (has fixing.present c) (same_number c c refl) in
          let here : carries (on_sets f) c (with_number c fixing.present) ≡ true =
          other_carried shown is edge f of plain c bare (with_number c fixing.present)
          ∙ both (has (with_number c fixing.present) c) (keeps (on_sets f) shown.universe (with_number c fixing.present)) there
          (settled.kept (with_number c fixing.present) fixing.present more agrees ∙ kept) in
          rw here refl

  change_is : (b : Bool) → value_of shown fixing.present edge.rest ≡ b → change_made shown edge fixing ≡ canonical_change shown.universe (on_sets f) fixing
  change_is true e =
      let kept = kept_is shown is edge f of plain fixing.present ∙ e in
      rw (e, kept) (ap addition_of added_is)
  change_is false e =
      let kept = kept_is shown is edge f of plain fixing.present ∙ e in
      rw (e, kept) (ap replacement_by (replaced_is kept))

  deletion_is : AreSettled shown.universe (on_sets f) fixing → Agrees fixing fixing.present → (b : Bool) → value_of shown fixing.present edge.rest ≡ b
      → deletion_made shown edge fixing ≡ deletion_for shown.universe (on_sets f) fixing
  deletion_is settled agrees true e =
      let kept = kept_is shown is edge f of plain fixing.present ∙ e in
      rw (e, kept) (ap deletion_of (deleted_is kept settled agrees))
  deletion_is settled agrees false e =
      let kept = kept_is shown is edge f of plain fixing.present ∙ e in
      rw (e, kept) refl

  permitting : ℕ → Option ℕ → Option Change → Option CommunityList → ℕ → PlainEntry
  permitting seq lp change delete adds = record {
    seq = seq;
    permit = true;
    lists = match_of fixing.present;
    lp = lp;
    change = change;
    delete = delete;
    adds =
        adds;
    exact = false;
  }

  pub in_is : (seq : ℕ) → IsSettledBy shown.universe (in_asked shown.universe (on_sets f)) fixing
      → in_made shown edge seq fixing ≡ in_entry shown.universe (on_sets f) seq fixing
  unfolding in_made permitting
  in_is seq settled = by (value_of shown fixing.present edge.permit) refl
    where
      by : (b : Bool) → value_of shown fixing.present edge.permit ≡ b → in_made shown edge seq fixing ≡ in_entry shown.universe (on_sets f) seq fixing
      by true e =
          let accepted = accepts_is shown is edge f of fixing.present ∙ e in
          let all = in_settled shown.universe (on_sets f) fixing plain settled.settled settled.agrees accepted in
          rw (e, accepted) (
          ap (λ (lp : Option ℕ). permitting seq lp (change_made shown edge fixing) (deletion_made shown edge fixing) 0)
          (table_lp shown edge.permit edge.lps (preference (on_sets f)) (lps_table shown is edge f of) fixing.present e)
          ∙ ap (λ (change : Option Change). permitting seq (lp_of (preference (on_sets f) fixing.present - 1)) change (deletion_made shown edge fixing) 0)
          (change_is (value_of shown fixing.present edge.rest) refl)
          ∙ ap (λ (delete : Option CommunityList). permitting seq (lp_of (preference (on_sets f) fixing.present - 1))
          (canonical_change shown.universe (on_sets f) fixing) delete 0) (deletion_is all settled.agrees (value_of shown fixing.present edge.rest) refl))
      by false e = let denied = accepts_is shown is edge f of fixing.present ∙ e in rw (e, denied) refl

  pub out_is : (seq : ℕ) → out_made shown edge seq fixing ≡ out_entry (on_sets f) seq fixing
  unfolding out_made permitting
  out_is seq = by (value_of shown fixing.present edge.permit) refl
    where
      by : (b : Bool) → value_of shown fixing.present edge.permit ≡ b → out_made shown edge seq fixing ≡ out_entry (on_sets f) seq fixing
      by true e =
          let accepted = accepts_is shown is edge f of fixing.present ∙ e in
          rw (e, accepted) (ap (λ (adds : ℕ). permitting seq None None None adds)
          (table_count shown edge.permit edge.adds (added_count (on_sets f)) (adds_table shown is edge f of) fixing.present e))
      by false e = let denied = accepts_is shown is edge f of fixing.present ∙ e in rw (e, denied) refl

module _ (shown : Shown) (is : IsShown shown) (edge : EdgeFn) (f : List ℕ → Option Imported) (of : IsEdgeFn shown edge f)
    (plain : IsPlain shown.universe (on_sets f)) where
  pub all_in : (seq : ℕ) (fixings : List Fixing) → AllByRecursion (IsSettledBy shown.universe (in_asked shown.universe (on_sets f))) fixings
      → numbered_from seq (in_made shown edge) fixings ≡ numbered_from seq (in_entry shown.universe (on_sets f)) fixings
  all_in seq [] all = refl
  all_in seq (fixing ∷ fixings) all =
      ap (λ (e : PlainEntry). e ∷ numbered_from (seq + 1) (in_made shown edge) fixings) (in_is shown is edge f of plain fixing seq all.0)
      ∙ ap (λ (l : List PlainEntry). in_entry shown.universe (on_sets f) seq fixing ∷ l) (all_in (seq + 1) fixings all.1)

  pub all_out : (seq : ℕ) (fixings : List Fixing) → numbered_from seq (out_made shown edge) fixings ≡ numbered_from seq (out_entry (on_sets f)) fixings
  all_out seq [] = refl
  all_out seq (fixing ∷ fixings) =
      ap (λ (e : PlainEntry). e ∷ numbered_from (seq + 1) (out_made shown edge) fixings) (out_is shown is edge f of plain fixing seq)
      ∙ ap (λ (l : List PlainEntry). out_entry (on_sets f) seq fixing ∷ l) (all_out (seq + 1) fixings)
