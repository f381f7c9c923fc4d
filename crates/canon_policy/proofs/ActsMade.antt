-- The canonical act in place of an act, and the acts of a problem after canonical ones took their
-- places.
use Rattle.std.proofs.Common.{◌≡◌, ℕ, ◌+◌, Bool, true, false, ◌||◌, nat_lt, List, [], ◌∷◌, length, Option, Some, None, Err, refl, sym, ap, subst}
use Rattle.std.specs.Prelude.{if◌then◌else◌}
use Rattle.std.specs.List.{AllByRecursion, list_any}
use Rattle.std.specs.Option.{option_map}
use Rattle.std.proofs.lemmas.List.Elements.{All-from_recursion}
use Rattle.base_kit.specs.declared.protocol.Protocol.{Protocol}
use Rattle.base_kit.specs.declared.protocol.Protocol.TheVariants.{Bgp as OverBgp, Ospf as OverOspf}
use Rattle.policy_dd.specs.Imports.{AreOneImport}
use Rattle.route_maps.specs.declared.plain.Plain.{Plain}
use Rattle.route_maps.specs.declared.plain.PlainEntry.{PlainEntry}
use Rattle.route_maps.specs.declared.plain.Imported.{Imported}
use Rattle.route_maps.specs.Maps.{import_of}
use Rattle.srp_core.specs.declared.route.Act.{Act}
use Rattle.srp_core.specs.declared.route.Act.TheVariants.{Import, Cost}
use Rattle.srp_core.specs.Acts.{IsActOf, import_by}
use Rattle.canon_policy.specs.declared.fixing.Fixing.{Fixing}
use Rattle.canon_policy.specs.declared.lists.CanonEdge.{CanonEdge}
use Rattle.canon_policy.specs.declared.lists.CanonRefusal.{CanonRefusal}
use Rattle.canon_policy.specs.declared.lists.CanonRefusal.TheVariants.{NoCanon, Memory}
use Rattle.canon_policy.specs.Canonical.{in_asked, numbered_from, is_wide, without_last_denies, limited, in_list, out_list, lists_of, depends_on_others, canonical_of, canonical_lists_of}
use Rattle.canon_policy.specs.CanonicalProblem.{session_with, canonical_act}
use Rattle.srp_core.specs.ActMaps.{IsPrintableAct, IsActWithin}
use Rattle.canon_policy.specs.Entries.{in_entry}
use Rattle.canon_policy.specs.Fixings.{nothing_fixed, split, settled}
use Rattle.canon_policy.specs.Functions.{on_sets, accepts}
use Rattle.canon_policy.specs.Made.{AreListsOf}
use Rattle.canon_policy.specs.MadeActs.{IsCanonicalActOr, IsActFor}
use Rattle.canon_policy.specs.Printed.{ArePrintable}
use Rattle.canon_policy.proofs.Leaves.{in_by}
use Rattle.canon_policy.proofs.Printed.{all_without}

-- the importer's canonical list puts nothing before the path
abbrev PutsNothing : PlainEntry → Type 0
PutsNothing entry = entry.adds ≡ 0

entry_puts : (universe : List ℕ) (f : List ℕ → Option Imported) (seq : ℕ) (fixing : Fixing) → PutsNothing (in_entry universe f seq fixing)
entry_puts universe f seq fixing = by (accepts f fixing.present)
  where
    by : (b : Bool) → PutsNothing (in_by universe f b seq fixing)
    by true = refl
    by false = refl

entries_put : (universe : List ℕ) (f : List ℕ → Option Imported) (k : ℕ) (fixings : List Fixing)
    → AllByRecursion PutsNothing (numbered_from k (in_entry universe f) fixings)
entries_put universe f k [] = tt
entries_put universe f k (x ∷ xs) = (entry_puts universe f k x, entries_put universe f (k + 1) xs)

limited_puts : (entries : List PlainEntry) (list : Plain) → AllByRecursion PutsNothing entries → limited entries ≡ Some list
    → AllByRecursion PutsNothing list.entries
unfolding limited
limited_puts entries list all e = by (nat_lt 65535 (length entries) || list_any is_wide entries) e
  where
    by : (b : Bool) → (if b then None else Some (record { entries = without_last_denies entries })) ≡ Some list → AllByRecursion PutsNothing list.entries
    by true e = absurd cc
    by false e =
        let same : record { entries = without_last_denies entries } ≡ list = cc in
        subst (λ (l : Plain). AllByRecursion PutsNothing l.entries) same (all_without PutsNothing entries all)

into_of : (out into : Option Plain) (lists : CanonEdge) → lists_of out into ≡ Some lists → into ≡ Some lists.into
into_of None into lists e = absurd cc
into_of (Some out) None lists e = absurd cc
into_of (Some out) (Some into) lists e = let same : record { out = out; into = into } ≡ lists = cc in ap (λ (l : CanonEdge). Some l.into) same

pub into_puts : (universe : List ℕ) (f : List ℕ → Option Imported) (lists : CanonEdge) → canonical_lists_of universe f ≡ Some lists
    → AllByRecursion PutsNothing lists.into.entries
unfolding canonical_of canonical_lists_of
into_puts universe f lists e = by (depends_on_others universe (on_sets f)) e
  where
    by : (b : Bool) → (if b then None else lists_of (out_list universe (on_sets f)) (in_list universe (on_sets f))) ≡ Some lists
        → AllByRecursion PutsNothing lists.into.entries
    by true e = absurd cc
    by false e =
        limited_puts (numbered_from 1 (in_entry universe (on_sets f))
        (settled (length universe) (split universe (in_asked universe (on_sets f))) nothing_fixed)) lists.into
        (entries_put universe (on_sets f) 1 (settled (length universe) (split universe (in_asked universe (on_sets f))) nothing_fixed))
        (into_of (out_list universe (on_sets f)) (in_list universe (on_sets f)) lists e)

-- one act
pub same_act : (universe : List ℕ) (act : Act) → IsPrintableAct act → IsActWithin universe act → IsActFor universe act act
same_act universe (Import out sends into) printable within = record {
  alike = record { same = λ comms up. refl };
  fits = λ protocol is. is;
  printable = printable;
  within = within;
}
same_act universe (Cost cost) printable within = record { alike = refl; fits = λ protocol is. is; printable = tt; within = tt }

session_fits : (out : Plain) (sends : Bool) (into : Plain) (lists : CanonEdge) → AllByRecursion PutsNothing lists.into.entries
    → (protocol : Protocol) → IsActOf protocol (Import out sends into) → IsActOf protocol (session_with lists)
session_fits out sends into lists puts OverBgp is = All-from_recursion PutsNothing lists.into.entries puts
session_fits out sends into lists puts OverOspf is = is

pub session_for : (universe : List ℕ) (out : Plain) (sends : Bool) (into : Plain) (lists : CanonEdge)
    → canonical_lists_of universe (import_of out sends into) ≡ Some lists
    → AreOneImport (import_of lists.out true lists.into) (import_of out sends into) → ArePrintable universe lists
    → IsActFor universe (Import out sends into) (session_with lists)
unfolding import_by
session_for universe out sends into lists canonical one printable = record {
  alike = record { same = λ comms up. sym (one.same comms up) };
  fits = session_fits out sends into lists (into_puts universe (import_of out sends into) lists canonical);
  printable = (printable.out, printable.into);
  within = (printable.out_within, printable.into_within);
}

pub session_is : (universe : List ℕ) (out : Plain) (sends : Bool) (into : Plain) (lists : CanonEdge)
    → canonical_lists_of universe (import_of out sends into) ≡ Some lists
    → canonical_act universe (Import out sends into) ≡ Some (session_with lists)
unfolding canonical_act
session_is universe out sends into lists e = ap (option_map session_with) e

pub session_refused : (universe : List ℕ) (out : Plain) (sends : Bool) (into : Plain) (refusal : CanonRefusal)
    → AreListsOf (Err refusal) (canonical_lists_of universe (import_of out sends into)) → IsCanonicalActOr universe (Import out sends into) (Err refusal)
unfolding canonical_act
session_refused universe out sends into NoCanon e = ap (option_map session_with) e
session_refused universe out sends into Memory e = tt

pub cost_is : (universe : List ℕ) (cost : ℕ) → canonical_act universe (Cost cost) ≡ Some (Cost cost)
unfolding canonical_act
cost_is universe cost = refl

pub cost_for : (universe : List ℕ) (cost : ℕ) → IsActFor universe (Cost cost) (Cost cost)
cost_for universe cost = same_act universe (Cost cost) tt tt
