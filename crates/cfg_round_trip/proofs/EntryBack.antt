-- The printed lines of an entry of a route map are read back as the entry.
use Rattle.std.proofs.Common.{◌≡◌, ℕ, Bool, true, false, List, [], ◌∷◌, ◌++◌, Option, Some, None, Ok, refl, sym, ap, ◌∙◌}
use Rattle.std.specs.Prelude.{IfSome}
use Rattle.std.specs.Option.{option_map}
use Rattle.cfg_ast.specs.declared.network.Named.{Named}
use Rattle.cfg_ast.specs.declared.policy.NameLine.{NameLine}
use Rattle.cfg_ast.specs.declared.policy.Prepend.{Prepend}
use Rattle.cfg_ast.specs.declared.policy.Change.{Change}
use Rattle.cfg_ast.specs.declared.policy.Change.TheVariants.{Clear, Replace, Append}
use Rattle.cfg_ast.specs.declared.policy.MapEntry.{MapEntry}
use Rattle.cfg_ast.specs.declared.items.PolicyScope.TheVariants as scope
use Rattle.cfg_ast.specs.declared.items.PolicyItem.{PolicyItem}
use Rattle.cfg_ast.specs.text.TextLines.{TextLine}
use Rattle.cfg_ast.specs.text.PolicyForms.{policy_item_of}
use Rattle.cfg_ast.specs.text.PolicyLines.{set_entry}
use Rattle.cfg_ast.specs.text.Reading.{in_entry, take_inner}
use Rattle.cfg_ast.specs.printing.Printed.{line_of_given, closing, match_prefixes_line, match_comms_line, lp_line, change_line, delete_line, prepend_line}
use Rattle.cfg_ast.specs.printing.Bare.{bare_named, bare_name_line, bare_prepend, bare_map_entry}
use Rattle.cfg_ast.specs.printing.WellFormed.{IsNumber, IsWellFormedNamed, IsWellFormedNameLine, IsMarkRight, IsWellFormedChange, IsWellFormedPrepend, IsWellFormedMapEntry}
use Rattle.cfg_round_trip.proofs.PolicyItemsBack.{match_prefixes_item, match_comms_item, lp_item, change_item, delete_item, prepend_item}
use Rattle.cfg_round_trip.proofs.PrintedLines.{is_read}
use Rattle.cfg_round_trip.proofs.ReadBack.{at_stanza, Inner, inner_none, inner_then, inner_line, inner_closing}

taken : (name : List ℕ) (l : TextLine) (e f : MapEntry) (said : PolicyItem) → policy_item_of scope.Entry l.number l.words ≡ Ok said →
    set_entry l.number said e ≡ Ok f → take_inner l (in_entry name e) ≡ Ok (in_entry name f)
unfolding take_inner
taken name l e f said read set = rw (read, set) refl

-- an entry of these parts
abbrev entry_with : MapEntry → Option NameLine → Option NameLine → Bool → Option ℕ → Option Change → Option Named → Option Prepend → MapEntry
entry_with e prefixes comms exact lp change delete prepend = record {
  seq = e.seq;
  permit = e.permit;
  line = 0;
  prefixes = prefixes;
  comms = comms;
  exact = exact;
  lp = lp;
  change = change;
  change_line = 0;
  delete = delete;
  prepend = prepend;
}

abbrev Goes : List ℕ → List TextLine → MapEntry → MapEntry → Type 0
Goes name ls e f = Inner ls (in_entry name e) (in_entry name f)

prefixes_stage : (name : List ℕ) (e : MapEntry) (o : Option NameLine) → IfSome o IsWellFormedNameLine →
    Goes name (line_of_given match_prefixes_line o) (entry_with e None None false None None None None)
    (entry_with e (option_map bare_name_line o) None false None None None None)
unfolding match_prefixes_line set_entry
prefixes_stage name e None is = inner_none _
prefixes_stage name e (Some l) is = inner_line (match_prefixes_line l) _ _ refl refl (taken name (match_prefixes_line l) _ _ _ (match_prefixes_item l is) refl)

comms_stage : (name : List ℕ) (e : MapEntry) (p : Option NameLine) (exact : Bool) (o : Option NameLine) → IfSome o IsWellFormedNameLine → IsMarkRight o exact
    → Goes name (line_of_given (match_comms_line exact) o) (entry_with e p None false None None None None)
    (entry_with e p (option_map bare_name_line o) exact None None None None)
unfolding match_comms_line set_entry
comms_stage name e p exact None is right rs d =
    inner_none _ rs d ∙ ap (λ (b : Bool). Ok (at_stanza rs d (in_entry name (entry_with e p None b None None None None)))) (sym right)
comms_stage name e p true (Some l) is right rs d =
    inner_line (match_comms_line true l) _ _ refl refl (taken name (match_comms_line true l) _ _ _ (match_comms_item true l is right) refl) rs d
comms_stage name e p false (Some l) is right rs d =
    inner_line (match_comms_line false l) _ _ refl refl (taken name (match_comms_line false l) _ _ _ (match_comms_item false l is right) refl) rs d

lp_stage : (name : List ℕ) (e : MapEntry) (p c : Option NameLine) (x : Bool) (o : Option ℕ) → IfSome o IsNumber →
    Goes name (line_of_given lp_line o) (entry_with e p c x None None None None) (entry_with e p c x o None None None)
unfolding lp_line set_entry
lp_stage name e p c x None is = inner_none _
lp_stage name e p c x (Some n) is = inner_line (lp_line n) _ _ refl refl (taken name (lp_line n) _ _ _ (lp_item n is) refl)

-- a line that changes communities stands in an entry
change_indent : (change : Change) → (change_line change).indent ≡ 1
unfolding change_line
change_indent Clear = refl
change_indent (Replace comms) = refl
change_indent (Append comms) = refl

change_number : (change : Change) → (change_line change).number ≡ 0
unfolding change_line
change_number Clear = refl
change_number (Replace comms) = refl
change_number (Append comms) = refl

change_read : (change : Change) → is_read (change_line change) ≡ true
unfolding change_line
change_read Clear = refl
change_read (Replace comms) = refl
change_read (Append comms) = refl

change_taken : (name : List ℕ) (e f : MapEntry) (change : Change) (said : PolicyItem) → policy_item_of scope.Entry 0 (change_line change).words ≡ Ok said →
    set_entry 0 said e ≡ Ok f → take_inner (change_line change) (in_entry name e) ≡ Ok (in_entry name f)
change_taken name e f change said read set =
    taken name (change_line change) e f said (ap (λ n. policy_item_of scope.Entry n (change_line change).words) (change_number change) ∙ read)
    (ap (λ n. set_entry n said e) (change_number change) ∙ set)

change_stage : (name : List ℕ) (e : MapEntry) (p c : Option NameLine) (x : Bool) (lp : Option ℕ) (o : Option Change) → IfSome o IsWellFormedChange →
    Goes name (line_of_given change_line o) (entry_with e p c x lp None None None) (entry_with e p c x lp o None None)
unfolding set_entry
change_stage name e p c x lp None is = inner_none _
change_stage name e p c x lp (Some change) is =
    inner_line (change_line change) _ _ (change_indent change) (change_read change) (change_taken name _ _ change _ (change_item change is) refl)

delete_stage : (name : List ℕ) (e : MapEntry) (p c : Option NameLine) (x : Bool) (lp : Option ℕ) (change : Option Change) (o : Option Named) →
    IfSome o IsWellFormedNamed
    → Goes name (line_of_given delete_line o) (entry_with e p c x lp change None None) (entry_with e p c x lp change (option_map bare_named o) None)
unfolding delete_line set_entry
delete_stage name e p c x lp change None is = inner_none _
delete_stage name e p c x lp change (Some list) is =
    inner_line (delete_line list) _ _ refl refl (taken name (delete_line list) _ _ _ (delete_item list is) refl)

prepend_stage : (name : List ℕ) (e : MapEntry) (p c : Option NameLine) (x : Bool) (lp : Option ℕ) (change : Option Change) (delete : Option Named)
    (o : Option Prepend) → IfSome o IsWellFormedPrepend
    → Goes name (line_of_given prepend_line o) (entry_with e p c x lp change delete None) (entry_with e p c x lp change delete (option_map bare_prepend o))
unfolding prepend_line set_entry
prepend_stage name e p c x lp change delete None is = inner_none _
prepend_stage name e p c x lp change delete (Some prepend) is =
    inner_line (prepend_line prepend) _ _ refl refl (taken name (prepend_line prepend) _ _ _ (prepend_item prepend is) refl)

-- the lines behind the first
abbrev pub entry_rest : MapEntry → List TextLine
entry_rest e =
    line_of_given match_prefixes_line e.prefixes ++ line_of_given (match_comms_line e.exact) e.comms ++ line_of_given lp_line e.lp
    ++ line_of_given change_line e.change ++ line_of_given delete_line e.delete ++ line_of_given prepend_line e.prepend ++ closing ∷ []

pub entry_inner : (name : List ℕ) (e : MapEntry) → IsWellFormedMapEntry e →
    Inner (entry_rest e) (in_entry name (entry_with e None None false None None None None)) (in_entry name (bare_map_entry e))
entry_inner name e is =
    let one = line_of_given match_prefixes_line e.prefixes in
    let two = line_of_given (match_comms_line e.exact) e.comms in
    let three = line_of_given lp_line e.lp in
    let four = line_of_given change_line e.change in
    let five = line_of_given delete_line e.delete in
    let six = line_of_given prepend_line e.prepend in
    let p = option_map bare_name_line e.prefixes in
    let c = option_map bare_name_line e.comms in
    inner_then (one ++ two ++ three ++ four ++ five ++ six) (closing ∷ []) _ _ _
    (inner_then (one ++ two ++ three ++ four ++ five) six _ _ _
    (inner_then (one ++ two ++ three ++ four) five _ _ _
    (inner_then (one ++ two ++ three) four _ _ _
    (inner_then (one ++ two) three _ _ _
    (inner_then one two _ _ _ (prefixes_stage name e e.prefixes is.prefixes) (comms_stage name e p e.exact e.comms is.comms is.exact))
    (lp_stage name e p c e.exact e.lp is.lp))
    (change_stage name e p c e.exact e.lp e.change is.change))
    (delete_stage name e p c e.exact e.lp e.change e.delete is.delete))
    (prepend_stage name e p c e.exact e.lp e.change (option_map bare_named e.delete) e.prepend is.prepend))
    (inner_closing (in_entry name (bare_map_entry e)))
