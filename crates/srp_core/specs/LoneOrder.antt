-- The lone numbers of a path, one after the other.
use Rattle.std.specs.Prelude.{ℕ, Bool, cond, true, List, [], ◌∷◌, Option, Some, None, nat_lt, min}

-- the part of an ascending list above the number; all of it if there is no number
abbrev pub is_over : Option ℕ → ℕ → Bool
is_over None number = true
is_over (Some bound) number = nat_lt bound number

abbrev pub rest_above : Option ℕ → List ℕ → List ℕ
rest_above bound [] = []
rest_above bound (number ∷ numbers) = cond (is_over bound number) (number ∷ numbers) (rest_above bound numbers)

abbrev pub head_of : List ℕ → Option ℕ
head_of [] = None
head_of (number ∷ numbers) = Some number

abbrev pub least_of : ℕ → Option ℕ → ℕ
least_of number None = number
least_of number (Some other) = min number other
