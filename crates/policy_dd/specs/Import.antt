-- What an import over a BGP session does to a set (RFC 4271 section 9.1), by the entries of both maps that
-- decide.
use Rattle.std.specs.Prelude.{◌≡◌, ℕ, Bool, true, false, ◌&&◌, ◌||◌, List, Option, Some, None}
use Rattle.std.specs.List.{AllByRecursion}
use Rattle.base_kit.specs.Sets.{has, IsAscending}
use Rattle.route_maps.specs.declared.plain.PlainEntry.{PlainEntry}
use Rattle.route_maps.specs.declared.plain.Imported.{Imported}
use Rattle.route_maps.specs.Within.{IsEntryWithin}
use Rattle.policy_dd.specs.Deletion.{put_by_change}
use Rattle.policy_dd.specs.Matches.{first_of, decided}
use Rattle.policy_dd.specs.MapRun.{permits_it, puts, leaves_it, leaves_rest, prefers, adds_it}

-- whether a community is there after the entry that decides
abbrev pub there_after : Option PlainEntry → (ℕ → Bool) → ℕ → Bool
there_after found there c = decided (puts c) found || (there c && decided (leaves_it c) found)

-- whether communities that no line names are there after it
abbrev pub others_after : Option PlainEntry → Bool → Bool
others_after found others = others && decided leaves_rest found

abbrev pub there_sent : Bool → Option PlainEntry → (ℕ → Bool) → ℕ → Bool
there_sent sends found there c = sends && there_after found there c

abbrev pub others_sent : Bool → Option PlainEntry → Bool → Bool
others_sent sends found others = sends && others_after found others

-- the entry of the importer's map that decides
abbrev pub second_deciding : List ℕ → List PlainEntry → Bool → List PlainEntry → (ℕ → Bool) → Bool → Option PlainEntry
second_deciding universe out sends into there others =
    first_of universe into (there_sent sends (first_of universe out there others) there) (others_sent sends (first_of universe out there others) others)

-- both entries permit
abbrev pub both_permit : List ℕ → List PlainEntry → Bool → List PlainEntry → (ℕ → Bool) → Bool → Bool
both_permit universe out sends into there others =
    decided permits_it (first_of universe out there others) && decided permits_it (second_deciding universe out sends into there others)

-- whether communities that no line names are there after both
abbrev pub others_kept : List ℕ → List PlainEntry → Bool → List PlainEntry → (ℕ → Bool) → Bool → Bool
others_kept universe out sends into there others =
    others_after (second_deciding universe out sends into there others) (others_sent sends (first_of universe out there others) others)

-- whether a community is there after both
abbrev pub there_after_both : List ℕ → List PlainEntry → Bool → List PlainEntry → (ℕ → Bool) → Bool → ℕ → Bool
there_after_both universe out sends into there others c =
    there_after (second_deciding universe out sends into there others) (there_sent sends (first_of universe out there others) there) c

-- the import is what the two entries give
pub record IsGivenByEntries (sends : Bool) (one two : Option PlainEntry) (there : ℕ → Bool) (import : Imported) : Type 0 where
  pub first : decided permits_it one ≡ true
  pub second : decided permits_it two ≡ true
  pub lp : decided (prefers import.lp) two ≡ true
  pub adds : decided (adds_it import.adds) one ≡ true
  pub ascending : IsAscending import.comms
  pub comms : (c : ℕ) → has import.comms c ≡ there_after two (there_sent sends one there) c

abbrev pub GivenBy : Bool → Option PlainEntry → Option PlainEntry → (ℕ → Bool) → Option Imported → Type 0
GivenBy sends one two there None = decided permits_it one && decided permits_it two ≡ false
GivenBy sends one two there (Some import) = IsGivenByEntries sends one two there import

-- the entry names communities of the universe, and changes sets to sets
pub record IsEntryFit (universe : List ℕ) (entry : PlainEntry) : Type 0 where
  pub within : IsEntryWithin universe entry
  pub ascending : IsAscending (put_by_change entry.change)

abbrev pub AreFit : List ℕ → List PlainEntry → Type 0
AreFit universe entries = AllByRecursion (IsEntryFit universe) entries

abbrev pub HasAscendingChange : PlainEntry → Type 0
HasAscendingChange entry = IsAscending (put_by_change entry.change)
