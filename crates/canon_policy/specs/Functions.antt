-- What is asked of an import over a BGP session (RFC 4271 section 9.1; RFC 1997 for communities), as a
-- function of the set of communities that the exporter's route has.
use Rattle.std.specs.Prelude.{ℕ, Bool, false, ◌+◌, List, [], ◌∷◌, Option, max}
use Rattle.std.specs.Option.{is_some, option_map_or}
use Rattle.base_kit.specs.Sets.{has, with_number, with_numbers}
use Rattle.route_maps.specs.declared.plain.Imported.{Imported}

-- a list of numbers as a set
abbrev pub as_set : List ℕ → List ℕ
as_set numbers = with_numbers numbers []

-- the function of the set that a list stands for
abbrev pub on_sets : (List ℕ → Option Imported) → List ℕ → Option Imported
on_sets f numbers = f (as_set numbers)

-- a number above all of the list: a community that no line names
abbrev pub outside_of : List ℕ → ℕ
outside_of [] = 0
outside_of (c ∷ cs) = max (c + 1) (outside_of cs)

-- whether the set is accepted
abbrev pub accepts : (List ℕ → Option Imported) → List ℕ → Bool
accepts f set = is_some (f set)

-- whether the community is in the result
abbrev pub carries : (List ℕ → Option Imported) → ℕ → List ℕ → Bool
carries f c set = option_map_or (λ (import : Imported). has import.comms c) (f set) false

-- whether communities outside the universe are kept: one that is put in is in the result
abbrev pub keeps : (List ℕ → Option Imported) → List ℕ → List ℕ → Bool
keeps f universe set = carries f (outside_of universe) (with_number (outside_of universe) set)

-- one more than the preference, and 0 where the set is not accepted
abbrev pub preference : (List ℕ → Option Imported) → List ℕ → ℕ
preference f set = option_map_or (λ (import : Imported). import.lp + 1) (f set) 0

-- one more than the count of AS numbers put before the path, and 0 where the set is not accepted
abbrev pub added_count : (List ℕ → Option Imported) → List ℕ → ℕ
added_count f set = option_map_or (λ (import : Imported). import.adds + 1) (f set) 0
