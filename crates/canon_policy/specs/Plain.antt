-- Import functions that either keep or drop communities outside a universe, and do not otherwise depend
-- on them. The functions of maps are such functions if the maps name only communities of the universe
-- and no match of theirs is exact.
use Rattle.std.specs.Prelude.{◌≡◌, ℕ, true, false, ◌&&◌, List, Option, Some}
use Rattle.base_kit.specs.Sets.{has, IsAscending}
use Rattle.route_maps.specs.declared.plain.Imported.{Imported}
use Rattle.canon_policy.specs.Functions.{accepts, carries, keeps, preference, added_count}
use Rattle.canon_policy.specs.Hanging.{TestHangsOn, NumberHangsOn}

-- Acceptance, the preference, the count and whether a community of the universe is in the result depend on
-- the communities of the universe that the set has. The others are all kept, or none is.
pub record IsPlain (universe : List ℕ) (f : List ℕ → Option Imported) : Type 0 where
  pub accepted : TestHangsOn universe (accepts f)
  pub kept : TestHangsOn universe (keeps f universe)
  pub lp : NumberHangsOn universe (preference f)
  pub adds : NumberHangsOn universe (added_count f)
  pub carried : (c : ℕ) → has universe c ≡ true → TestHangsOn universe (carries f c)
  pub unnamed : (set : List ℕ) (c : ℕ) → has universe c ≡ false → carries f c set ≡ has set c && keeps f universe set
  pub ascending : (set : List ℕ) (import : Imported) → f set ≡ Some import → IsAscending import.comms
