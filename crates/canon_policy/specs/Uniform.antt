-- Import functions that treat all communities outside a universe alike.
use Rattle.std.specs.Prelude.{◌≡◌, ℕ, true, false, ◌&&◌, List, Option, Some}
use Rattle.base_kit.specs.Sets.{has, IsAscending}
use Rattle.dd_core.specs.Sets.{has_others}
use Rattle.route_maps.specs.declared.plain.Imported.{Imported}
use Rattle.canon_policy.specs.Functions.{carries, keeps, preference, added_count}
use Rattle.canon_policy.specs.Hanging.{SameOn, TestHangsOn}

-- both sets have the same communities of the universe, and both have others or none has
pub record HaveOneTrace (universe a b : List ℕ) : Type 0 where
  pub named : SameOn universe a b
  pub others : has_others universe a ≡ has_others universe b

-- Acceptance, the preference, the count and whether a community of the universe is in the result are the same for
-- sets of one trace. The others are all kept, or none is.
pub record IsUniform (universe : List ℕ) (f : List ℕ → Option Imported) : Type 0 where
  pub lp : (a b : List ℕ) → HaveOneTrace universe a b → preference f a ≡ preference f b
  pub adds : (a b : List ℕ) → HaveOneTrace universe a b → added_count f a ≡ added_count f b
  pub carried : (c : ℕ) → has universe c ≡ true → (a b : List ℕ) → HaveOneTrace universe a b → carries f c a ≡ carries f c b
  pub kept : TestHangsOn universe (keeps f universe)
  pub unnamed : (set : List ℕ) (c : ℕ) → has universe c ≡ false → carries f c set ≡ has set c && keeps f universe set
  pub ascending : (set : List ℕ) (import : Imported) → f set ≡ Some import → IsAscending import.comms
