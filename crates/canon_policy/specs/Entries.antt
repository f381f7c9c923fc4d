-- The entry of a canonical list for a settled fixing (`Fixings.antt`). What it says is taken from the
-- set of just the communities that are fixed as present.
use Rattle.std.specs.Prelude.{ℕ, ◌-◌, Bool, true, false, not, ◌&&◌, List, [], ◌∷◌, Option, Some, None, map, filter, nat_eq, if◌then◌else◌}
use Rattle.base_kit.specs.Sets.{has, with_number}
use Rattle.cfg_ast.specs.declared.policy.Change.{Change}
use Rattle.cfg_ast.specs.declared.policy.Change.TheVariants.{Clear, Replace, Append}
use Rattle.cfg_ast.specs.declared.policy.CommunityLine.{CommunityLine}
use Rattle.cfg_ast.specs.declared.policy.CommunityList.{CommunityList}
use Rattle.route_maps.specs.declared.plain.Imported.{Imported}
use Rattle.route_maps.specs.declared.plain.PlainEntry.{PlainEntry}
use Rattle.canon_policy.specs.declared.fixing.Fixing.{Fixing}
use Rattle.canon_policy.specs.Functions.{accepts, carries, keeps, preference, added_count}

abbrev pub permitting_line : List ℕ → CommunityLine
permitting_line comms = record { permit = true; comms = comms; line = 0 }

abbrev pub alone : ℕ → CommunityLine
alone c = permitting_line (c ∷ [])

abbrev pub list_of : List CommunityLine → CommunityList
list_of lines = record { name = []; lines = lines }

-- a match of all of the communities by one list of one line, and no match for none
abbrev pub match_of : List ℕ → Option (List CommunityList)
match_of [] = None
match_of (c ∷ cs) = Some (list_of (permitting_line (c ∷ cs) ∷ []) ∷ [])

-- a deletion by one line for each
abbrev pub deletion_of : List ℕ → Option CommunityList
deletion_of [] = None
deletion_of (c ∷ cs) = Some (list_of (map alone (c ∷ cs)))

abbrev pub addition_of : List ℕ → Option Change
addition_of [] = None
addition_of (c ∷ cs) = Some (Append (c ∷ cs))

abbrev pub replacement_by : List ℕ → Option Change
replacement_by [] = Some Clear
replacement_by (c ∷ cs) = Some (Replace (c ∷ cs))

abbrev pub lp_of : ℕ → Option ℕ
lp_of lp = if nat_eq lp 100 then None else Some lp

-- the community is in every result
abbrev pub always_carried : (List ℕ → Option Imported) → Fixing → ℕ → Bool
always_carried f fixing c = carries f c fixing.present

-- it is in no result, and in some set that agrees
abbrev pub is_removed : (List ℕ → Option Imported) → Fixing → ℕ → Bool
is_removed f fixing c = not (has fixing.absent c) && not (carries f c (with_number c fixing.present))

-- it is in every result, and not in every set that agrees
abbrev pub is_added : (List ℕ → Option Imported) → Fixing → ℕ → Bool
is_added f fixing c = always_carried f fixing c && not (has fixing.present c)

-- If communities outside the universe are kept, the communities that are in every result are added; else
-- the result replaces all.
abbrev pub canonical_change : List ℕ → (List ℕ → Option Imported) → Fixing → Option Change
canonical_change universe f fixing =
    if keeps f universe fixing.present then addition_of (filter (is_added f fixing) universe) else replacement_by (filter (always_carried f fixing) universe)

abbrev pub deletion_for : List ℕ → (List ℕ → Option Imported) → Fixing → Option CommunityList
deletion_for universe f fixing =
    if keeps f universe fixing.present then deletion_of (filter (is_removed f fixing) universe) else None

-- the entry with this number
abbrev pub denying : ℕ → Fixing → PlainEntry
denying seq fixing = record { seq = seq; permit = false; lists = match_of fixing.present; lp = None; change = None; delete = None; adds = 0; exact = false }

-- The entry of a fixing whose sets are not accepted denies. Else the entry of the in list sets the
-- preference, which is 100 if no map sets it, and the communities.
abbrev pub in_entry : List ℕ → (List ℕ → Option Imported) → ℕ → Fixing → PlainEntry
in_entry universe f seq fixing =
    if accepts f fixing.present then record {
      seq = seq;
      permit = true;
      lists = match_of fixing.present;
      lp = lp_of (preference f fixing.present - 1);
      change = canonical_change universe f fixing;
      delete = deletion_for universe f fixing;
      adds = 0;
      exact = false;
    } else denying seq fixing

-- that of the out list changes no communities and puts the count of AS numbers before the path
abbrev pub out_entry : (List ℕ → Option Imported) → ℕ → Fixing → PlainEntry
out_entry f seq fixing =
    if accepts f fixing.present then record {
      seq = seq;
      permit = true;
      lists = match_of fixing.present;
      lp = None;
      change = None;
      delete = None;
      adds = added_count f fixing.present - 1;
      exact = false;
    } else denying seq fixing
