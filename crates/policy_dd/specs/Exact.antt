-- Exact matches of the lines of a list, taken community by community.
use Rattle.std.specs.Prelude.{◌≡◌, ℕ, Bool, not, ◌&&◌, List, [], ◌∷◌, if◌then◌else◌}
use Rattle.base_kit.specs.Sets.{has}
use Rattle.dd_core.specs.Sets.{Shown, Means, value_of}
use Rattle.policy_dd.specs.declared.matches.Carried.{Carried}
use Rattle.policy_dd.specs.Edge.{keys_of}
use Rattle.policy_dd.specs.Matches.{has_in}

-- of the table's communities just the wanted ones have a true node, and `none` is true
abbrev pub just_wanted : Shown → List ℕ → ℕ → List (ℕ × ℕ) → List ℕ → Bool
just_wanted shown set none [] wants = value_of shown set none
just_wanted shown set none (case ∷ cases) wants =
    (if has wants case.0 then value_of shown set case.1 else not (value_of shown set case.1)) && just_wanted shown set none cases wants

-- the table's nodes say where its communities are carried
abbrev pub TellCarried : Shown → Shown → Carried → List (ℕ × ℕ) → Type 0
TellCarried old new carried [] = Unit {0}
TellCarried old new carried (case ∷ cases) = Means new case.1 (λ set. has_in old carried set case.0) × TellCarried old new carried cases

-- a table of the communities, whose nodes say where they are carried
pub record AreConditions (old new : Shown) (carried : Carried) (communities : List ℕ) (cases : List (ℕ × ℕ)) : Type 0 where
  pub keys_are : keys_of cases ≡ communities
  pub each : TellCarried old new carried cases
