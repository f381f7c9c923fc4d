-- The entry that decides for a set is that of the settled fixing with which the set agrees.
use Rattle.std.proofs.Common.{◌≡◌, ℕ, zero, suc, ◌+◌, ◌≤◌, Bool, true, false, ◌||◌, cond, List, [], ◌∷◌, ◌++◌, length, nat_eq, Option, Some, None, refl, sym, ◌∙◌, ap, arith, inl, inr, ◌⊎◌}
use Rattle.std.specs.List.{list_all}
use Rattle.std.specs.Option.{option_map_or}
use Rattle.std.proofs.lemmas.List.{append_assoc}
use Rattle.std.proofs.lemmas.Bool.Decides.{nat_tests}
use Rattle.base_kit.specs.Sets.{has}
use Rattle.base_kit.proofs.SetFacts.{same_number, has-with_number}
use Rattle.route_maps.specs.declared.plain.PlainEntry.{PlainEntry}
use Rattle.route_maps.specs.declared.plain.Verdict.{Verdict}
use Rattle.route_maps.specs.declared.plain.Verdict.TheVariants.{Deny}
use Rattle.route_maps.specs.Maps.{entry_holds, entry_verdict, verdict}
use Rattle.canon_policy.specs.declared.fixing.Fixing.{Fixing}
use Rattle.canon_policy.specs.Fixings.{Asked, with_present, with_absent, split, settled}
use Rattle.canon_policy.specs.Canonical.{numbered_from, put_before_entries, without_last_denies}
use Rattle.canon_policy.specs.Hanging.{AskedHangsOn}
use Rattle.canon_policy.proofs.SameSets.{Agrees, all_are, all_in}
use Rattle.canon_policy.proofs.Least.{has_in, in_has}
use Rattle.canon_policy.proofs.Splits.{split_free, none_free, count_free, fewer_present, fewer_absent}

-- entries that match what is present, and say the same whatever their number
pub record AreEntries (entry : ℕ → Fixing → PlainEntry) : Type 0 where
  pub holds : (seq : ℕ) (fixing : Fixing) (set : List ℕ) → entry_holds set (entry seq fixing) ≡ list_all (has set) fixing.present
  pub says : (seq : ℕ) (fixing : Fixing) (set : List ℕ) → entry_verdict (entry seq fixing) set ≡ entry_verdict (entry 0 fixing) set
  pub denies : (seq : ℕ) (fixing : Fixing) (set : List ℕ) → (entry seq fixing).permit ≡ false → entry_verdict (entry seq fixing) set ≡ Deny

pub numbered-append : (entry : ℕ → Fixing → PlainEntry) (k : ℕ) (xs ys : List Fixing)
    → numbered_from k entry (xs ++ ys) ≡ numbered_from k entry xs ++ numbered_from (k + length xs) entry ys
numbered-append entry k [] ys = ap (λ n. numbered_from n entry ys) (omega arith)
numbered-append entry k (x ∷ xs) ys =
    ap (λ (l : List PlainEntry). entry k x ∷ l) (numbered-append entry (k + 1) xs ys
    ∙ ap (λ n. numbered_from (k + 1) entry xs ++ numbered_from n entry ys) (omega arith))

all_agree : (fixing : Fixing) (set : List ℕ) → Agrees fixing set → list_all (has set) fixing.present ≡ true
all_agree fixing set agrees = all_are (has set) fixing.present (λ x h. agrees.present x (in_has fixing.present x h))

lacking : (fixing : Fixing) (set : List ℕ) (x : ℕ) → has fixing.present x ≡ true → has set x ≡ false → list_all (has set) fixing.present ≡ false
lacking fixing set x there none = by (list_all (has set) fixing.present) refl
  where
    by : (b : Bool) → list_all (has set) fixing.present ≡ b → b ≡ false
    by true e = let h = all_in (has set) fixing.present x e (has_in fixing.present x there) in absurd cc
    by false e = refl

holding : (e : PlainEntry) (es : List PlainEntry) (set : List ℕ) → entry_holds set e ≡ true → verdict (e ∷ es) set ≡ entry_verdict e set
holding e es set h = rw h refl

passing_over : (e : PlainEntry) (es : List PlainEntry) (set : List ℕ) → entry_holds set e ≡ false → verdict (e ∷ es) set ≡ verdict es set
passing_over e es set h = rw h refl

true_or : (b : Bool) → true || b ≡ true
true_or b = refl

still_present : (fixing : Fixing) (x y : ℕ) → has fixing.present x ≡ true → has (with_present y fixing).present x ≡ true
still_present fixing x y there = has-with_number y fixing.present x ∙ by (nat_eq y x) (has fixing.present x) there
  where
    by : (a b : Bool) → b ≡ true → a || b ≡ true
    by true b e = refl
    by false b e = e

pub now_present : (fixing : Fixing) (x : ℕ) → has (with_present x fixing).present x ≡ true
now_present fixing x = has-with_number x fixing.present x ∙ rw (same_number x x refl) refl

module _ (entry : ℕ → Fixing → PlainEntry) (are : AreEntries entry) (by : Fixing → Option ℕ) where
  abbrev Skips : ℕ → Type 0
  Skips depth = (k : ℕ) (fixing : Fixing) (set : List ℕ) (x : ℕ) (more : List PlainEntry) → has fixing.present x ≡ true → has set x ≡ false
      → verdict (numbered_from k entry (settled depth by fixing) ++ more) set ≡ verdict more set

  skip_one : (k : ℕ) (fixing : Fixing) (set : List ℕ) (x : ℕ) (more : List PlainEntry) → has fixing.present x ≡ true → has set x ≡ false
      → verdict (entry k fixing ∷ more) set ≡ verdict more set
  skip_one k fixing set x more there none = passing_over (entry k fixing) more set (are.holds k fixing set ∙ lacking fixing set x there none)

  skip_both : (depth : ℕ) → Skips depth → (o : Option ℕ) (k : ℕ) (fixing : Fixing) (set : List ℕ) (x : ℕ) (more : List PlainEntry) → has fixing.present x ≡ true
      → has set x ≡ false → verdict (numbered_from k entry (option_map_or
      (λ c. settled depth by (with_present c fixing) ++ settled depth by (with_absent c fixing)) o (fixing ∷ [])) ++ more) set ≡ verdict more set
  skip_both depth skips None k fixing set x more there none = skip_one k fixing set x more there none
  skip_both depth skips (Some y) k fixing set x more there none =
      let xs = settled depth by (with_present y fixing) in
      let ys = settled depth by (with_absent y fixing) in
      ap (λ (l : List PlainEntry). verdict (l ++ more) set) (numbered-append entry k xs ys)
      ∙ ap (λ (l : List PlainEntry). verdict l set) (append_assoc (numbered_from k entry xs) (numbered_from (k + length xs) entry ys) more)
      ∙ skips k (with_present y fixing) set x (numbered_from (k + length xs) entry ys ++ more) (still_present fixing x y there) none
      ∙ skips (k + length xs) (with_absent y fixing) set x more there none

  -- entries that match a community which the set lacks are passed over
  skipped : (depth : ℕ) → Skips depth
  unfolding settled
  skipped zero k fixing set x more there none = skip_one k fixing set x more there none
  skipped (suc depth) k fixing set x more there none = skip_both depth (skipped depth) (by fixing) k fixing set x more there none

-- the settled fixing that decides
pub record Decided (entry : ℕ → Fixing → PlainEntry) (by : Fixing → Option ℕ) (set : List ℕ) (outcome : Verdict) : Type 0 where
  pub fixing : Fixing
  pub settled : by fixing ≡ None
  pub agrees : Agrees fixing set
  pub says : outcome ≡ entry_verdict (entry 0 fixing) set

pub agrees_present : (fixing : Fixing) (x : ℕ) (set : List ℕ) → Agrees fixing set → has set x ≡ true → Agrees (with_present x fixing) set
agrees_present fixing x set agrees there = record {
  present = λ c h. elim (either (nat_eq x c) (has fixing.present c) (sym (has-with_number x fixing.present c) ∙ h)) [
    | inl e ↦ let same : x ≡ c = equal x c e in ap (has set) (sym same) ∙ there
    | inr e ↦ agrees.present c e
  ];
  absent = agrees.absent;
}
  where
    equal : (a b : ℕ) → nat_eq a b ≡ true → a ≡ b
    equal a b e = grind (arith, nat_tests)

    either : (a b : Bool) → a || b ≡ true → (a ≡ true) ⊎ (b ≡ true)
    either true b e = inl refl
    either false b e = inr e

pub agrees_absent : (fixing : Fixing) (x : ℕ) (set : List ℕ) → Agrees fixing set → has set x ≡ false → Agrees (with_absent x fixing) set
agrees_absent fixing x set agrees none = record {
  present = agrees.present;
  absent = λ c h. elim (either (nat_eq x c) (has fixing.absent c) (sym (has-with_number x fixing.absent c) ∙ h)) [
    | inl e ↦ let same : x ≡ c = equal x c e in ap (has set) (sym same) ∙ none
    | inr e ↦ agrees.absent c e
  ];
}
  where
    equal : (a b : ℕ) → nat_eq a b ≡ true → a ≡ b
    equal a b e = grind (arith, nat_tests)

    either : (a b : Bool) → a || b ≡ true → (a ≡ true) ⊎ (b ≡ true)
    either true b e = inl refl
    either false b e = inr e

module _ (universe : List ℕ) (asked : Asked) (hang : AskedHangsOn universe asked) (entry : ℕ → Fixing → PlainEntry) (are : AreEntries entry) where
  here : (k : ℕ) (fixing : Fixing) (set : List ℕ) (more : List PlainEntry) → split universe asked fixing ≡ None → Agrees fixing set
      → Decided entry (split universe asked) set (verdict (entry k fixing ∷ more) set)
  here k fixing set more none agrees = record {
    fixing = fixing;
    settled = none;
    agrees = agrees;
    says = holding (entry k fixing) more set (are.holds k fixing set ∙ all_agree fixing set agrees) ∙ are.says k fixing set;
  }

  abbrev Decides : ℕ → Type 0
  Decides depth = (k : ℕ) (fixing : Fixing) (set : List ℕ) (more : List PlainEntry) → count_free universe fixing ≤ depth → Agrees fixing set
      → Decided entry (split universe asked) set (verdict (numbered_from k entry (settled depth (split universe asked) fixing) ++ more) set)

  decide_both : (depth : ℕ) → Decides depth → (k : ℕ) (fixing : Fixing) (set : List ℕ) (more : List PlainEntry) (x : ℕ) → split universe asked fixing ≡ Some x
      → count_free universe fixing ≤ suc depth → Agrees fixing set → (b : Bool) → has set x ≡ b
      → Decided entry (split universe asked) set (verdict (numbered_from k entry (settled depth (split universe asked) (with_present x fixing))
      ++ (numbered_from (k + length (settled depth (split universe asked) (with_present x fixing))) entry
      (settled depth (split universe asked) (with_absent x fixing)) ++ more)) set)
  decide_both depth decides k fixing set more x e enough agrees true there =
      let less = fewer_present universe fixing x (split_free universe asked fixing x hang e) in
      decides k (with_present x fixing) set (numbered_from (k + length (settled depth (split universe asked) (with_present x fixing))) entry
      (settled depth (split universe asked) (with_absent x fixing)) ++ more) (omega arith) (agrees_present fixing x set agrees there)
  decide_both depth decides k fixing set more x e enough agrees false none =
      let less = fewer_absent universe fixing x (split_free universe asked fixing x hang e) in
      let k' = k + length (settled depth (split universe asked) (with_present x fixing)) in
      rw (skipped entry are (split universe asked) depth k (with_present x fixing) set x
      (numbered_from k' entry (settled depth (split universe asked) (with_absent x fixing)) ++ more) (now_present fixing x) none)
      (decides k' (with_absent x fixing) set more (omega arith) (agrees_absent fixing x set agrees none))

  decide_step : (depth : ℕ) → Decides depth → (o : Option ℕ) (k : ℕ) (fixing : Fixing) (set : List ℕ) (more : List PlainEntry) → split universe asked fixing ≡ o
      → count_free universe fixing ≤ suc depth → Agrees fixing set
      → Decided entry (split universe asked) set (verdict (numbered_from k entry
      (option_map_or (λ c. settled depth (split universe asked) (with_present c fixing) ++ settled depth (split universe asked) (with_absent c fixing)) o
      (fixing ∷ [])) ++ more) set)
  decide_step depth decides None k fixing set more e enough agrees = here k fixing set more e agrees
  decide_step depth decides (Some x) k fixing set more e enough agrees =
      let xs = settled depth (split universe asked) (with_present x fixing) in
      let ys = settled depth (split universe asked) (with_absent x fixing) in
      let parts : numbered_from k entry (xs ++ ys) ++ more ≡ numbered_from k entry xs ++ (numbered_from (k + length xs) entry ys ++ more) =
      ap (λ (l : List PlainEntry). l ++ more) (numbered-append entry k xs ys)
      ∙ append_assoc (numbered_from k entry xs) (numbered_from (k + length xs) entry ys) more in
      rw parts (decide_both depth decides k fixing set more x e enough agrees (has set x) refl)

  pub decided : (depth : ℕ) → Decides depth
  unfolding settled
  decided zero k fixing set more enough agrees = here k fixing set more (none_free universe asked fixing hang enough) agrees
  decided (suc depth) k fixing set more enough agrees = decide_step depth (decided depth) (split universe asked fixing) k fixing set more refl enough agrees

-- entries that deny at the end say nothing
cons_same : (e : PlainEntry) (xs ys : List PlainEntry) (set : List ℕ) → verdict xs set ≡ verdict ys set → verdict (e ∷ xs) set ≡ verdict (e ∷ ys) set
cons_same e xs ys set same = by (entry_holds set e)
  where
    by : (b : Bool) → cond b (entry_verdict e set) (verdict xs set) ≡ cond b (entry_verdict e set) (verdict ys set)
    by true = refl
    by false = same

both_deny : (b : Bool) (v : Verdict) → v ≡ Deny → cond b v Deny ≡ Deny
both_deny true v e = e
both_deny false v e = refl

put_before_says : (e : PlainEntry) (es : List PlainEntry) (set : List ℕ) → verdict (put_before_entries e es) set ≡ verdict (e ∷ es) set
put_before_says e (next ∷ es) set = refl
put_before_says e [] set = by e.permit refl
  where
    by : (b : Bool) → e.permit ≡ b → verdict (cond b (e ∷ []) []) set ≡ verdict (e ∷ []) set
    by true is = refl
    by false is = sym (both_deny (entry_holds set e) (entry_verdict e set) (rw is refl))

pub without_last_says : (es : List PlainEntry) (set : List ℕ) → verdict (without_last_denies es) set ≡ verdict es set
without_last_says [] set = refl
without_last_says (e ∷ es) set = put_before_says e (without_last_denies es) set ∙ cons_same e (without_last_denies es) es set (without_last_says es set)
