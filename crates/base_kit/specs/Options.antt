-- Values that may be missing.
use Rattle.std.specs.Prelude.{List, [], ◌∷◌, Option, Some, None}
use Rattle.std.specs.Option.{option_map}

-- all values, if there is one at each place
abbrev pub all_given : {X : Type 0} → List (Option X) → Option (List X)
all_given [] = Some []
all_given (None ∷ xs) = None
all_given (Some x ∷ xs) = option_map (λ rest. x ∷ rest) (all_given xs)
