-- What the entry of a settled fixing makes of a set that agrees with it.
use Rattle.std.proofs.Common.{◌≡◌, ℕ, ◌-◌, Bool, true, false, not, ◌&&◌, ◌||◌, nat_eq, List, [], ◌∷◌, filter, map, Option, Some, None, refl, sym, ◌∙◌, ap, inl, inr}
use Rattle.std.specs.Prelude.{if◌then◌else◌}
use Rattle.std.specs.List.{list_all}
use Rattle.std.specs.Option.{option_map_or, unwrap_or}
use Rattle.std.proofs.lemmas.Bool.{cases_eq}
use Rattle.base_kit.specs.Sets.{has, with_number, IsAscending}
use Rattle.base_kit.proofs.SetFacts.{same_number, other_number, has-with_number, has-with_numbers, has-filter, one_list, ascending_with_numbers, ascending_filter}
use Rattle.cfg_ast.specs.meaning.Lists.{community_list_permits, line_holds, first_line_decides}
use Rattle.cfg_ast.specs.meaning.Policy.{without_deleted_by, after_change}
use Rattle.route_maps.specs.declared.plain.Imported.{Imported}
use Rattle.route_maps.specs.declared.plain.PlainEntry.{PlainEntry}
use Rattle.route_maps.specs.declared.plain.Verdict.TheVariants.{Deny}
use Rattle.route_maps.specs.Maps.{lists_hold, entry_holds, entry_verdict}
use Rattle.canon_policy.specs.declared.fixing.Fixing.{Fixing}
use Rattle.canon_policy.specs.Functions.{accepts, carries, keeps, preference, added_count}
use Rattle.canon_policy.specs.Entries.{alone, list_of, match_of, deletion_of, addition_of, replacement_by, lp_of, always_carried, is_removed, is_added, canonical_change, deletion_for, denying, in_entry, out_entry}
use Rattle.canon_policy.proofs.SameSets.{Agrees, same_sets, with_there}
use Rattle.canon_policy.proofs.Verdicts.{AreEntries}
use Rattle.canon_policy.specs.Plain.{IsPlain}
use Rattle.canon_policy.proofs.Plain.{IsSettled, one, following, AreSettled, present_agrees, more_agrees}

-- matches
and_true : (b : Bool) → b && true ≡ b
and_true true = refl
and_true false = refl

one_line : (b : Bool) → (if b then true else false) || false ≡ b
one_line true = refl
one_line false = refl

match_holds : (set comms : List ℕ) → lists_hold false set (match_of comms) ≡ list_all (has set) comms
match_holds set [] = refl
match_holds set (c ∷ cs) = one_line (list_all (has set) (c ∷ cs))

abbrev pub in_by : List ℕ → (List ℕ → Option Imported) → Bool → ℕ → Fixing → PlainEntry
in_by universe f b seq fixing = if b then record {
  seq = seq;
  permit = true;
  lists = match_of fixing.present;
  lp = lp_of (preference f fixing.present - 1);
  change = canonical_change universe f fixing;
  delete = deletion_for universe f fixing;
  adds = 0;
  exact = false;
} else denying seq fixing

pub in_entries : (universe : List ℕ) (f : List ℕ → Option Imported) → AreEntries (in_entry universe f)
in_entries universe f = record {
  holds = λ seq fixing set. by (accepts f fixing.present) seq fixing set;
  says = λ seq fixing set. says_by (accepts f fixing.present) seq fixing set;
  denies = λ seq fixing set e. denies_by (accepts f fixing.present) seq fixing set e;
}
  where
    by : (b : Bool) (seq : ℕ) (fixing : Fixing) (set : List ℕ) → entry_holds set (in_by universe f b seq fixing) ≡ list_all (has set) fixing.present
    by true seq fixing set = match_holds set fixing.present
    by false seq fixing set = match_holds set fixing.present

    says_by : (b : Bool) (seq : ℕ) (fixing : Fixing) (set : List ℕ)
        → entry_verdict (in_by universe f b seq fixing) set ≡ entry_verdict (in_by universe f b 0 fixing) set
    says_by true seq fixing set = refl
    says_by false seq fixing set = refl

    denies_by : (b : Bool) (seq : ℕ) (fixing : Fixing) (set : List ℕ) → (in_by universe f b seq fixing).permit ≡ false
        → entry_verdict (in_by universe f b seq fixing) set ≡ Deny
    denies_by true seq fixing set e = absurd cc
    denies_by false seq fixing set e = refl

abbrev pub out_by : (List ℕ → Option Imported) → Bool → ℕ → Fixing → PlainEntry
out_by f b seq fixing = if b then record {
  seq = seq;
  permit = true;
  lists = match_of fixing.present;
  lp = None;
  change = None;
  delete = None;
  adds = added_count f fixing.present - 1;
  exact = false;
} else denying seq fixing

pub out_entries : (f : List ℕ → Option Imported) → AreEntries (out_entry f)
out_entries f = record {
  holds = λ seq fixing set. by (accepts f fixing.present) seq fixing set;
  says = λ seq fixing set. says_by (accepts f fixing.present) seq fixing set;
  denies = λ seq fixing set e. denies_by (accepts f fixing.present) seq fixing set e;
}
  where
    by : (b : Bool) (seq : ℕ) (fixing : Fixing) (set : List ℕ) → entry_holds set (out_by f b seq fixing) ≡ list_all (has set) fixing.present
    by true seq fixing set = match_holds set fixing.present
    by false seq fixing set = match_holds set fixing.present

    says_by : (b : Bool) (seq : ℕ) (fixing : Fixing) (set : List ℕ) → entry_verdict (out_by f b seq fixing) set ≡ entry_verdict (out_by f b 0 fixing) set
    says_by true seq fixing set = refl
    says_by false seq fixing set = refl

    denies_by : (b : Bool) (seq : ℕ) (fixing : Fixing) (set : List ℕ) → (out_by f b seq fixing).permit ≡ false
        → entry_verdict (out_by f b seq fixing) set ≡ Deny
    denies_by true seq fixing set e = absurd cc
    denies_by false seq fixing set e = refl

-- deletions and changes
same_bit : (d c : ℕ) → nat_eq c d ≡ nat_eq d c
same_bit d c = elim (cases_eq c d) [
  | inl e ↦ same_number c d e ∙ sym (same_number d c (sym e))
  | inr ne ↦ other_number c d ne ∙ sym (other_number d c (λ e. ne (sym e)))
]

line_case : (a b r : Bool) → a ≡ b → (if (a || false) && true then true else r) ≡ b || r
line_case true b r e = rw (← e) refl
line_case false b r e = rw (← e) refl

lines_permit : (ds : List ℕ) (c : ℕ) → first_line_decides (line_holds (c ∷ [])) (map alone ds) ≡ has ds c
lines_permit [] c = refl
lines_permit (d ∷ ds) c = ap (λ b. if (nat_eq c d || false) && true then true else b) (lines_permit ds c)
    ∙ line_case (nat_eq c d) (nat_eq d c) (has ds c) (same_bit d c)

has-deleted : (ds set : List ℕ) (c : ℕ) → has (without_deleted_by (deletion_of ds) set) c ≡ not (has ds c) && has set c
has-deleted [] set c = refl
has-deleted (d ∷ ds) set c =
    has-filter (λ n. not (community_list_permits (list_of (map alone (d ∷ ds))) (n ∷ []))) set c
    ∙ ap (λ b. not b && has set c) (lines_permit (d ∷ ds) c)

ascending-deleted : (ds set : List ℕ) → IsAscending set → IsAscending (without_deleted_by (deletion_of ds) set)
ascending-deleted [] set up = up
ascending-deleted (d ∷ ds) set up = ascending_filter (λ n. not (community_list_permits (list_of (map alone (d ∷ ds))) (n ∷ []))) set up

has-added : (ms set : List ℕ) (c : ℕ) → has (after_change (addition_of ms) set) c ≡ has ms c || has set c
has-added [] set c = refl
has-added (m ∷ ms) set c = has-with_numbers (m ∷ ms) set c

ascending-added : (ms set : List ℕ) → IsAscending set → IsAscending (after_change (addition_of ms) set)
ascending-added [] set up = up
ascending-added (m ∷ ms) set up = ascending_with_numbers (m ∷ ms) set up

replaced : (rs set : List ℕ) → after_change (replacement_by rs) set ≡ rs
replaced [] set = refl
replaced (r ∷ rs) set = refl

-- a preference of 100 needs no line
pub lp_is : (lp : ℕ) → unwrap_or (lp_of lp) 100 ≡ lp
lp_is lp = elim (cases_eq lp 100) [
  | inl e ↦ rw (same_number lp 100 e) (sym e)
  | inr ne ↦ rw (other_number lp 100 ne) refl
]

module _ (universe : List ℕ) (f : List ℕ → Option Imported) (plain : IsPlain universe f) (up : IsAscending universe) (fixing : Fixing)
    (settled : AreSettled universe f fixing) (set : List ℕ) (agrees : Agrees fixing set) where
  least_agrees : Agrees fixing fixing.present
  least_agrees = present_agrees fixing set agrees

  -- the set of what is present, with one more
  more : ℕ → List ℕ
  more c = with_number c fixing.present

  not_deleted_present : (c : ℕ) → has universe c ≡ true → has fixing.present c ≡ true → carries f c (with_number c fixing.present) ≡ carries f c fixing.present
  not_deleted_present c known there = (plain.carried c known).same (with_number c fixing.present) fixing.present
      (same_sets universe (with_number c fixing.present) fixing.present (with_there c fixing.present there))

  -- in the result: added, or in the set and not deleted
  abbrev left : (p n v w s : Bool) → Bool
  left p n v w s = (v && not p) || (not (not n && not w) && s)

  one_case : (c : ℕ) → has universe c ≡ true → ((a b : List ℕ) → Agrees fixing a → Agrees fixing b → carries f c a ≡ carries f c b)
      → left (has fixing.present c) (has fixing.absent c) (carries f c fixing.present) (carries f c (with_number c fixing.present)) (has set c)
      ≡ carries f c fixing.present
  one_case c known same = by (has fixing.present c) (has fixing.absent c) (carries f c fixing.present) (carries f c (with_number c fixing.present)) (has set c)
      refl (agrees.present c) (agrees.absent c) (not_deleted_present c known)
      (λ free. same (with_number c fixing.present) fixing.present (more_agrees fixing c least_agrees free) least_agrees)
    where
      by : (p n v w s : Bool) → has set c ≡ s → (p ≡ true → s ≡ true) → (n ≡ true → s ≡ false) → (p ≡ true → w ≡ v) → (n ≡ false → w ≡ v) → left p n v w s ≡ v
      by true n true w s e f g h k = let e1 = f refl in let e2 = h refl in rw (e1, e2) (both n)
        where
          both : (n : Bool) → not (not n && not true) && true ≡ true
          both true = refl
          both false = refl
      by false n true w s e f g h k = refl
      by p true false w s e f g h k = let e1 = g refl in rw e1 (none p w)
        where
          none : (p w : Bool) → (false && not p) || (not (not true && not w) && false) ≡ false
          none p w = refl
      by p false false w s e f g h k = let e1 = k refl in rw e1 refl

  follow_case : (c : ℕ) → ((a : List ℕ) → Agrees fixing a → carries f c a ≡ has a c)
      → left (has fixing.present c) (has fixing.absent c) (carries f c fixing.present) (carries f c (with_number c fixing.present)) (has set c) ≡ has set c
  follow_case c follows = by (has fixing.present c) (has fixing.absent c) (carries f c fixing.present) (carries f c (with_number c fixing.present)) (has set c)
      (follows fixing.present least_agrees)
      (λ free. follows (with_number c fixing.present) (more_agrees fixing c least_agrees free) ∙ has-with_number c fixing.present c
      ∙ rw (same_number c c refl) refl)
    where
      by : (p n v w s : Bool) → v ≡ p → (n ≡ false → w ≡ true) → left p n v w s ≡ s
      by true true v w s e k = rw e refl
      by true false v w s e k = let e1 = k refl in rw (e, e1) refl
      by false true v w s e k = rw e refl
      by false false v w s e k = let e1 = k refl in rw (e, e1) refl

  outside : (a b s k : Bool) → k ≡ true → (a && false) || (not (b && false) && s) ≡ s && k
  outside true true true k e = sym e
  outside true true false k e = refl
  outside true false true k e = sym e
  outside true false false k e = refl
  outside false true true k e = sym e
  outside false true false k e = refl
  outside false false true k e = sym e
  outside false false false k e = refl

  kept_known : (c : ℕ) → has universe c ≡ true → IsSettled f fixing c (keeps f universe fixing.present)
      → left (has fixing.present c) (has fixing.absent c) (carries f c fixing.present) (carries f c (with_number c fixing.present)) (has set c)
      ≡ carries f c set
  kept_known c known (one same) = one_case c known same ∙ same fixing.present set least_agrees agrees
  kept_known c known (following kept follows) = follow_case c follows ∙ sym (follows set agrees)

  kept_has : keeps f universe fixing.present ≡ true → (c : ℕ) (u : Bool) → has universe c ≡ u
      → (is_added f fixing c && u) || (not (is_removed f fixing c && u) && has set c) ≡ carries f c set
  kept_has kept c true known = two (is_added f fixing c) (is_removed f fixing c) (has set c) ∙ kept_known c known (settled.communities c known)
    where
      two : (a b s : Bool) → (a && true) || (not (b && true) && s) ≡ a || (not b && s)
      two true b s = refl
      two false true s = refl
      two false false s = refl
  kept_has kept c false known = outside (is_added f fixing c) (is_removed f fixing c) (has set c) (keeps f universe set)
      (settled.kept set fixing.present agrees least_agrees ∙ kept) ∙ sym (plain.unnamed set c known)

  replaced_has : keeps f universe fixing.present ≡ false → (c : ℕ) (u : Bool) → has universe c ≡ u → always_carried f fixing c && u ≡ carries f c set
  replaced_has kept c true known = by (settled.communities c known)
    where
      all : (b : Bool) → b && true ≡ b
      all true = refl
      all false = refl

      by : IsSettled f fixing c (keeps f universe fixing.present) → always_carried f fixing c && true ≡ carries f c set
      by (one same) = all (carries f c fixing.present) ∙ same fixing.present set least_agrees agrees
      by (following is follows) = absurd cc
  replaced_has kept c false known = none (carries f c fixing.present) (has set c) (keeps f universe set)
      (settled.kept set fixing.present agrees least_agrees ∙ kept) ∙ sym (plain.unnamed set c known)
    where
      none : (b s k : Bool) → k ≡ false → b && false ≡ s && k
      none true true k e = sym e
      none true false k e = refl
      none false true k e = sym e
      none false false k e = refl

  -- the communities that the entry leaves
  abbrev left_by : Bool → List ℕ
  left_by kept = after_change (if kept then addition_of (filter (is_added f fixing) universe) else replacement_by (filter (always_carried f fixing) universe))
      (without_deleted_by (if kept then deletion_of (filter (is_removed f fixing) universe) else None) set)

  left_has : (kept : Bool) → keeps f universe fixing.present ≡ kept → (c : ℕ) → has (left_by kept) c ≡ carries f c set
  left_has true kept c =
      has-added (filter (is_added f fixing) universe) (without_deleted_by (deletion_of (filter (is_removed f fixing) universe)) set) c
      ∙ ap (λ b. has (filter (is_added f fixing) universe) c || b) (has-deleted (filter (is_removed f fixing) universe) set c)
      ∙ ap (λ b. b || (not (has (filter (is_removed f fixing) universe) c) && has set c)) (has-filter (is_added f fixing) universe c)
      ∙ ap (λ b. (is_added f fixing c && has universe c) || (not b && has set c)) (has-filter (is_removed f fixing) universe c)
      ∙ kept_has kept c (has universe c) refl
  left_has false kept c =
      ap (λ (l : List ℕ). has l c) (replaced (filter (always_carried f fixing) universe) set)
      ∙ has-filter (always_carried f fixing) universe c
      ∙ replaced_has kept c (has universe c) refl

  left_ascends : (kept : Bool) → IsAscending set → IsAscending (left_by kept)
  left_ascends true set_up = ascending-added (filter (is_added f fixing) universe)
      (without_deleted_by (deletion_of (filter (is_removed f fixing) universe)) set) (ascending-deleted (filter (is_removed f fixing) universe) set set_up)
  left_ascends false set_up = rw (replaced (filter (always_carried f fixing) universe) set) (ascending_filter (always_carried f fixing) universe up)

  -- they are those of the import
  pub left_is : IsAscending set → (import : Imported) → f set ≡ Some import → left_by (keeps f universe fixing.present) ≡ import.comms
  left_is set_up import is = one_list (left_by (keeps f universe fixing.present)) import.comms (left_ascends (keeps f universe fixing.present) set_up)
      (plain.ascending set import is)
      (λ c. left_has (keeps f universe fixing.present) refl c ∙ ap (λ (o : Option Imported). option_map_or (λ (i : Imported). has i.comms c) o false) is)
