-- Canonical lists of an import function: the maps of both ends of a session that import as the function
-- does, and depend on nothing but the function.
use Rattle.std.specs.Prelude.{ℕ, ◌+◌, Bool, true, false, not, ◌||◌, List, [], ◌∷◌, Option, Some, None, length, nat_eq, nat_lt, if◌then◌else◌}
use Rattle.std.specs.Bool.{beq}
use Rattle.std.specs.List.{list_any, list_all}
use Rattle.std.specs.Option.{unwrap_or}
use Rattle.base_kit.specs.Sets.{with_number}
use Rattle.cfg_ast.specs.declared.policy.Change.{Change}
use Rattle.cfg_ast.specs.declared.policy.Change.TheVariants.{Clear, Replace, Append}
use Rattle.cfg_ast.specs.declared.policy.CommunityLine.{CommunityLine}
use Rattle.cfg_ast.specs.declared.policy.CommunityList.{CommunityList}
use Rattle.route_maps.specs.declared.plain.Imported.{Imported}
use Rattle.route_maps.specs.declared.plain.Plain.{Plain}
use Rattle.route_maps.specs.declared.plain.PlainEntry.{PlainEntry}
use Rattle.canon_policy.specs.declared.lists.CanonEdge.{CanonEdge}
use Rattle.canon_policy.specs.declared.fixing.Fixing.{Fixing}
use Rattle.canon_policy.specs.Functions.{on_sets, outside_of, accepts, carries, keeps, preference, added_count}
use Rattle.canon_policy.specs.Fixings.{Part, Asked, nothing_fixed, sets_of, yes, split, settled}
use Rattle.canon_policy.specs.Fixings.Part.{number, community}
use Rattle.canon_policy.specs.Entries.{in_entry, out_entry}

-- Whether one more community, from outside the universe, changes acceptance, the preference, the count,
-- or which communities of the universe are in the result.
abbrev pub differs_with_outside : List ℕ → (List ℕ → Option Imported) → List ℕ → Bool
differs_with_outside universe f set =
    let more = with_number (outside_of universe) set in
    not (nat_eq (preference f set) (preference f more))
    || (not (nat_eq (added_count f set) (added_count f more)) || list_any (λ c. not (beq (carries f c set) (carries f c more))) universe)

unfoldable pub depends_on_others : List ℕ → (List ℕ → Option Imported) → Bool
depends_on_others universe f = list_any (differs_with_outside universe f) (sets_of universe)

-- in the order in which they are asked: whether communities outside the universe are kept, the
-- preference, and each community of the universe
abbrev pub in_parts : List ℕ → (List ℕ → Option Imported) → List ℕ → List Part
in_parts universe f [] = []
in_parts universe f (c ∷ cs) = community c (carries f c) ∷ in_parts universe f cs

abbrev pub in_asked : List ℕ → (List ℕ → Option Imported) → Asked
in_asked universe f = record {
  accepted = accepts f;
  kept = keeps f universe;
  parts = number (λ set. yes (keeps f universe set)) ∷ number (preference f) ∷ in_parts universe f universe;
}

-- acceptance and the count alone
abbrev pub out_asked : List ℕ → (List ℕ → Option Imported) → Asked
out_asked universe f = record { accepted = accepts f; kept = keeps f universe; parts = number (added_count f) ∷ [] }

-- the entries of fixings, numbered from a number on
abbrev pub numbered_from : ℕ → (ℕ → Fixing → PlainEntry) → List Fixing → List PlainEntry
numbered_from seq entry [] = []
numbered_from seq entry (fixing ∷ fixings) = entry seq fixing ∷ numbered_from (seq + 1) entry fixings

abbrev pub canonical_entries : List ℕ → Asked → (ℕ → Fixing → PlainEntry) → List PlainEntry
canonical_entries universe asked entry = numbered_from 1 entry (settled (length universe) (split universe asked) nothing_fixed)

-- the entry names more than 32 communities in a match, an addition or a replacement
abbrev pub names_in_change : Option Change → ℕ
names_in_change None = 0
names_in_change (Some Clear) = 0
names_in_change (Some (Replace by)) = length by
names_in_change (Some (Append more)) = length more

abbrev pub line_is_wide : CommunityLine → Bool
line_is_wide line = nat_lt 32 (length line.comms)

abbrev pub match_is_wide : CommunityList → Bool
match_is_wide list = list_any line_is_wide list.lines

abbrev pub is_wide : PlainEntry → Bool
is_wide entry = list_any match_is_wide (unwrap_or entry.lists []) || nat_lt 32 (names_in_change entry.change)

-- the entries without those that deny at the end
abbrev pub put_before_entries : PlainEntry → List PlainEntry → List PlainEntry
put_before_entries entry [] = if entry.permit then entry ∷ [] else []
put_before_entries entry (next ∷ entries) = entry ∷ next ∷ entries

abbrev pub without_last_denies : List PlainEntry → List PlainEntry
without_last_denies [] = []
without_last_denies (entry ∷ entries) = put_before_entries entry (without_last_denies entries)

-- There is no list if an entry is wide, or if there are more than 65,535 entries, counting those at the
-- end that deny.
unfoldable pub limited : List PlainEntry → Option Plain
limited entries = if nat_lt 65535 (length entries) || list_any is_wide entries then None else Some (record { entries = without_last_denies entries })

-- the importer's list
abbrev pub in_list : List ℕ → (List ℕ → Option Imported) → Option Plain
in_list universe f = limited (canonical_entries universe (in_asked universe f) (in_entry universe f))

-- no set is accepted with a count above 0
unfoldable pub adds_nothing : List ℕ → (List ℕ → Option Imported) → Bool
adds_nothing universe f = list_all (λ set. nat_lt (added_count f set) 2) (sets_of universe)

abbrev pub passing : Plain
passing = record { entries = record { seq = 10; permit = true; lists = None; lp = None; change = None; delete = None; adds = 0; exact = false } ∷ [] }

-- the exporter's list
abbrev pub out_list : List ℕ → (List ℕ → Option Imported) → Option Plain
out_list universe f = if adds_nothing universe f then Some passing else limited (canonical_entries universe (out_asked universe f) (out_entry f))

abbrev pub lists_of : Option Plain → Option Plain → Option CanonEdge
lists_of None into = None
lists_of (Some out) None = None
lists_of (Some out) (Some into) = Some (record { out = out; into = into })

-- A function has no canonical lists if it depends on communities outside the universe, apart from
-- keeping them or not.
unfoldable pub canonical_of : List ℕ → (List ℕ → Option Imported) → Option CanonEdge
canonical_of universe f = if depends_on_others universe f then None else lists_of (out_list universe f) (in_list universe f)

-- The canonical lists of an import function of sets, over a universe of communities.
unfoldable pub canonical_lists_of : List ℕ → (List ℕ → Option Imported) → Option CanonEdge
canonical_lists_of universe f = canonical_of universe (on_sets f)
