-- What a route carries behind a route map.
use Rattle.std.specs.Prelude.{◌≡◌, ℕ, Bool, false, not, ◌&&◌, ◌||◌, List, if◌then◌else◌}
use Rattle.base_kit.specs.Sets.{has}
use Rattle.dd_core.specs.Sets.{Shown, value_of}
use Rattle.policy_dd.specs.declared.map_run.MapFn.{MapFn}
use Rattle.policy_dd.specs.declared.matches.Carried.{Carried}
use Rattle.policy_dd.specs.Edge.{case_or, keys_of}
use Rattle.policy_dd.specs.Matches.{has_in, AreNodesInside}

-- the map leaves the community where the route has it
abbrev pub stays_in : Shown → MapFn → List ℕ → ℕ → Bool
stays_in shown m set c = if case_or shown set m.odd c false then not (value_of shown set m.rest) else value_of shown set m.rest

-- the community is carried behind the map: an entry puts it in, or it was there and stays
abbrev pub carries_on : Shown → Carried → MapFn → List ℕ → ℕ → Bool
carries_on shown carried m set c = case_or shown set m.present c false || (has_in shown carried set c && stays_in shown m set c)

-- the communities that have a node before the map, or that an entry names
pub record AreKeysTouched (carried : Carried) (m : MapFn) (keys : List ℕ) : Type 0 where
  pub each : (c : ℕ) → has keys c ≡ has (keys_of carried.outs) c || (has (keys_of m.present) c || has (keys_of m.odd) c)

pub record IsAfter (old new : Shown) (carried : Carried) (m : MapFn) (r : Carried) : Type 0 where
  pub inside : AreNodesInside new r
  pub others : (set : List ℕ) → value_of new set r.others ≡ value_of old set carried.others && value_of old set m.rest
  pub there : (set : List ℕ) (c : ℕ) → has_in new r set c ≡ carries_on old carried m set c

-- the same where communities are sent, and nothing where they are not
pub record IsSent (old new : Shown) (carried : Carried) (m : MapFn) (sends : Bool) (r : Carried) : Type 0 where
  pub inside : AreNodesInside new r
  pub others : (set : List ℕ) → value_of new set r.others ≡ sends && (value_of old set carried.others && value_of old set m.rest)
  pub there : (set : List ℕ) (c : ℕ) → has_in new r set c ≡ sends && carries_on old carried m set c
