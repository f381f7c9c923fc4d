-- Canonical lists import as the function does.
use Rattle.std.proofs.Common.{◌≡◌, ℕ, ◌+◌, ◌-◌, ◌<◌, Bool, true, false, ◌||◌, nat_lt, List, [], length, Option, Some, None, refl, sym, ◌∙◌, ap, arith}
use Rattle.std.specs.Prelude.{if◌then◌else◌}
use Rattle.std.specs.List.{list_any}
use Rattle.std.specs.Option.{option_map, option_map_or, is_some, unwrap_or}
use Rattle.std.proofs.lemmas.Bool.Decides.{nat_tests}
use Rattle.std.proofs.lemmas.List.{append-nil}
use Rattle.base_kit.specs.Sets.{has, IsAscending}
use Rattle.route_maps.specs.declared.plain.Imported.{Imported}
use Rattle.route_maps.specs.declared.plain.Plain.{Plain}
use Rattle.route_maps.specs.declared.plain.PlainEntry.{PlainEntry}
use Rattle.route_maps.specs.declared.plain.Verdict.{Verdict}
use Rattle.route_maps.specs.declared.plain.Verdict.TheVariants.{Deny, Permit}
use Rattle.route_maps.specs.Maps.{comms_after, entry_verdict, verdict, accepted, received, import_of}
use Rattle.canon_policy.specs.declared.fixing.Fixing.{Fixing}
use Rattle.canon_policy.specs.declared.lists.CanonEdge.{CanonEdge}
use Rattle.canon_policy.specs.Functions.{accepts, preference, added_count}
use Rattle.canon_policy.specs.Fixings.{Asked, nothing_fixed, agreeing, sets_of, least, split}
use Rattle.canon_policy.specs.Entries.{lp_of, in_entry, out_entry}
use Rattle.canon_policy.specs.Canonical.{in_asked, out_asked, canonical_entries, limited, in_list, out_list, adds_nothing, passing, is_wide, without_last_denies, lists_of, depends_on_others, canonical_of}
use Rattle.canon_policy.specs.Hanging.{AskedHangsOn}
use Rattle.canon_policy.proofs.SameSets.{Agrees, all_in, filtered_in, named, named_same}
use Rattle.canon_policy.proofs.Splits.{no_split, or_none, count_free-start}
use Rattle.canon_policy.proofs.Verdicts.{AreEntries, Decided, decided, without_last_says}
use Rattle.canon_policy.specs.Plain.{IsPlain}
use Rattle.canon_policy.proofs.Plain.{in_asked_hangs, out_asked_hangs, one_value, one_answer, at_least_set, present_agrees, in_accepted, in_settled}
use Rattle.canon_policy.proofs.Leaves.{in_by, out_by, in_entries, out_entries, lp_is, left_is}

abbrev made : ℕ → List ℕ → ℕ → Imported
made lp comms adds = record { lp = lp; comms = comms; adds = adds }

-- the import with a count
abbrev given : ℕ → Imported → Imported
given adds import = record { lp = import.lp; comms = import.comms; adds = adds }

-- a list that is not too long
limited_by : (b : Bool) (entries : List PlainEntry) (list : Plain) → (if b then None else Some (record { entries = without_last_denies entries })) ≡ Some list
    → list.entries ≡ without_last_denies entries
limited_by true entries list e = absurd cc
limited_by false entries list e = let same : record { entries = without_last_denies entries } ≡ list = cc in sym (ap (λ (p : Plain). p.entries) same)

pub limited_is : (entries : List PlainEntry) (list : Plain) → limited entries ≡ Some list → list.entries ≡ without_last_denies entries
unfolding limited
limited_is entries list e = limited_by (nat_lt 65535 (length entries) || list_any is_wide entries) entries list e

nothing_agrees : (set : List ℕ) → Agrees nothing_fixed set
nothing_agrees set = record { present = λ c h. cc; absent = λ c h. cc }

list_says : (universe : List ℕ) (asked : Asked) → AskedHangsOn universe asked → (entry : ℕ → Fixing → PlainEntry) → AreEntries entry → (list : Plain)
    → limited (canonical_entries universe asked entry) ≡ Some list → (set : List ℕ) → Decided entry (split universe asked) set (verdict list.entries set)
list_says universe asked hang entry are list e set =
    let d = decided universe asked hang entry are (length universe) 1 nothing_fixed set [] (count_free-start universe) (nothing_agrees set) in
    record {
      fixing = d.fixing;
      settled = d.settled;
      agrees = d.agrees;
      says = ap (λ (l : List PlainEntry). verdict l set) (limited_is (canonical_entries universe asked entry) list e)
          ∙ without_last_says (canonical_entries universe asked entry) set
          ∙ ap (λ (l : List PlainEntry). verdict l set) (sym (append-nil (canonical_entries universe asked entry)))
          ∙ d.says;
    }

module _ (universe : List ℕ) (f : List ℕ → Option Imported) (plain : IsPlain universe f) (up : IsAscending universe) (set : List ℕ) (set_up : IsAscending set)
  where
    in_leaf : (adds : ℕ) (fixing : Fixing) → split universe (in_asked universe f) fixing ≡ None → Agrees fixing set → (b : Bool) → accepts f fixing.present ≡ b
        → (o : Option Imported) → f set ≡ o → accepted adds (entry_verdict (in_by universe f b 0 fixing) set) ≡ option_map (given adds) o
    in_leaf adds fixing none agrees true yes' None e =
        let same = in_accepted universe f fixing fixing.present set plain none (present_agrees fixing set agrees) agrees in
        let here : accepts f set ≡ false = ap (λ (o : Option Imported). is_some o) e in
        absurd cc
    in_leaf adds fixing none agrees false no' None e = refl
    in_leaf adds fixing none agrees false no' (Some import) e =
        let same = in_accepted universe f fixing fixing.present set plain none (present_agrees fixing set agrees) agrees in
        let here : accepts f set ≡ true = ap (λ (o : Option Imported). is_some o) e in
        absurd cc
    in_leaf adds fixing none agrees true yes' (Some import) e =
        let least_agrees = present_agrees fixing set agrees in
        let all = in_settled universe f fixing plain none least_agrees yes' in
        let here : preference f set ≡ import.lp + 1 = ap (λ (o : Option Imported). option_map_or (λ (i : Imported). i.lp + 1) o 0) e in
        let lp : preference f fixing.present ≡ import.lp + 1 = all.lp fixing.present set least_agrees agrees ∙ here in
        let one : preference f fixing.present - 1 ≡ import.lp = omega arith in
        let comms : comms_after (in_by universe f true 0 fixing) set ≡ import.comms = left_is universe f plain up fixing all set agrees set_up import e in
        let first : unwrap_or (lp_of (preference f fixing.present - 1)) 100 ≡ import.lp = lp_is (preference f fixing.present - 1) ∙ one in
        ap Some (ap (λ n. made n (comms_after (in_by universe f true 0 fixing) set) adds) first ∙ ap (λ (l : List ℕ). made import.lp l adds) comms)

    pub in_list_says : (adds : ℕ) (into : Plain) → in_list universe f ≡ Some into → accepted adds (verdict into.entries set) ≡ option_map (given adds) (f set)
    in_list_says adds into e =
        let d = list_says universe (in_asked universe f) (in_asked_hangs universe f plain) (in_entry universe f) (in_entries universe f) into e set in
        ap (accepted adds) d.says ∙ in_leaf adds d.fixing d.settled d.agrees (accepts f d.fixing.present) refl (f set) refl

    abbrev out_verdict : Option Imported → Verdict
    out_verdict None = Deny
    out_verdict (Some import) = Permit None set import.adds

    out_leaf : (fixing : Fixing) → split universe (out_asked universe f) fixing ≡ None → Agrees fixing set → (b : Bool) → accepts f fixing.present ≡ b
        → (o : Option Imported) → f set ≡ o → entry_verdict (out_by f b 0 fixing) set ≡ out_verdict o
    out_leaf fixing none agrees true yes' None e =
        let same = one_answer universe (accepts f) fixing fixing.present set plain.accepted (no_split universe (out_asked universe f) fixing none).accepted
        (present_agrees fixing set agrees) agrees in
        let here : accepts f set ≡ false = ap (λ (o : Option Imported). is_some o) e in
        absurd cc
    out_leaf fixing none agrees false no' None e = refl
    out_leaf fixing none agrees false no' (Some import) e =
        let same = one_answer universe (accepts f) fixing fixing.present set plain.accepted (no_split universe (out_asked universe f) fixing none).accepted
        (present_agrees fixing set agrees) agrees in
        let here : accepts f set ≡ true = ap (λ (o : Option Imported). is_some o) e in
        absurd cc
    out_leaf fixing none agrees true yes' (Some import) e =
        let least_agrees = present_agrees fixing set agrees in
        let parts = no_split universe (out_asked universe f) fixing none in
        let start : accepts f (agreeing fixing []) ≡ true = at_least_set universe (accepts f) fixing fixing.present plain.accepted parts.accepted least_agrees
        ∙ yes' in
        let settled = (or_none (least universe (λ set. added_count f (agreeing fixing set))) None (parts.parts start)).0 in
        let here : added_count f set ≡ import.adds + 1 = ap (λ (o : Option Imported). option_map_or (λ (i : Imported). i.adds + 1) o 0) e in
        let same = one_value universe (added_count f) fixing fixing.present set plain.adds settled least_agrees agrees in
        let adds : added_count f fixing.present - 1 ≡ import.adds = omega arith in
        ap (λ n. Permit None set n) adds

    out_list_says : (out : Plain) → limited (canonical_entries universe (out_asked universe f) (out_entry f)) ≡ Some out
        → verdict out.entries set ≡ out_verdict (f set)
    out_list_says out e =
        let d = list_says universe (out_asked universe f) (out_asked_hangs universe f plain) (out_entry f) (out_entries f) out e set in
        d.says ∙ out_leaf d.fixing d.settled d.agrees (accepts f d.fixing.present) refl (f set) refl

    -- where nothing is put before the path
    nothing_added : adds_nothing universe f ≡ true → (o : Option Imported) → f set ≡ o → option_map (given 0) o ≡ o
    unfolding adds_nothing
    nothing_added none None e = refl
    nothing_added none (Some import) e =
        let few = all_in (λ (s : List ℕ). nat_lt (added_count f s) 2) (sets_of universe) (named universe set) none (filtered_in (has set) universe) in
        let same = plain.adds.same (named universe set) set (named_same universe set) in
        let here : added_count f set ≡ import.adds + 1 = ap (λ (o : Option Imported). option_map_or (λ (i : Imported). i.adds + 1) o 0) e in
        let lt : added_count f (named universe set) < 2 = less (added_count f (named universe set)) few in
        let zero_adds : 0 ≡ import.adds = omega arith in
        ap (λ n. Some (made import.lp import.comms n)) zero_adds
      where
        less : (n : ℕ) → nat_lt n 2 ≡ true → n < 2
        less n e = grind (arith, nat_tests)

    out_given : (o : Option Imported) (into : Plain) → ((adds : ℕ) → accepted adds (verdict into.entries set) ≡ option_map (given adds) o)
        → received true into.entries (out_verdict o) ≡ o
    out_given None into says = refl
    out_given (Some import) into says = says import.adds

    by_out : (b : Bool) → adds_nothing universe f ≡ b → (out into : Plain)
        → (if b then Some passing else limited (canonical_entries universe (out_asked universe f) (out_entry f))) ≡ Some out → in_list universe f ≡ Some into
        → import_of out true into set ≡ f set
    by_out true none out into e e' =
        let is : passing ≡ out = cc in
        ap (λ (p : Plain). received true into.entries (verdict p.entries set)) (sym is)
        ∙ in_list_says 0 into e'
        ∙ nothing_added none (f set) refl
    by_out false some out into e e' =
        ap (received true into.entries) (out_list_says out e)
        ∙ out_given (f set) into (λ adds. in_list_says adds into e')

    both_lists : (out into : Option Plain) (lists : CanonEdge) → lists_of out into ≡ Some lists → (out ≡ Some lists.out) × (into ≡ Some lists.into)
    both_lists None into lists e = absurd cc
    both_lists (Some out) None lists e = absurd cc
    both_lists (Some out) (Some into) lists e =
        let same : record { out = out; into = into } ≡ lists = cc in
        (ap (λ (l : CanonEdge). Some l.out) same, ap (λ (l : CanonEdge). Some l.into) same)

    canonical_by : (b : Bool) (lists : CanonEdge) → (if b then None else lists_of (out_list universe f) (in_list universe f)) ≡ Some lists
        → (out_list universe f ≡ Some lists.out) × (in_list universe f ≡ Some lists.into)
    canonical_by true lists e = absurd cc
    canonical_by false lists e = both_lists (out_list universe f) (in_list universe f) lists e

    pub imports_as : (lists : CanonEdge) → canonical_of universe f ≡ Some lists → import_of lists.out true lists.into set ≡ f set
    unfolding canonical_of
    imports_as lists e =
        let both = canonical_by (depends_on_others universe f) lists e in
        by_out (adds_nothing universe f) refl lists.out lists.into both.0 both.1
