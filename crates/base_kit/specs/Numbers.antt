-- Numbers and addresses as words.
use Rattle.std.specs.Prelude.{ℕ, ◌+◌, ◌-◌, ◌*◌, Bool, false, ◌&&◌, not, nat_le, ◌==◌, List, [], ◌∷◌, Option, Some, None, if◌then◌else◌}
use Rattle.std.specs.List.{list_all}

abbrev pub is_digit : ℕ → Bool
is_digit b = nat_le 48 b && nat_le b 57

-- digits read from the left, after a value
abbrev pub value_from : ℕ → List ℕ → ℕ
value_from value [] = value
value_from value (b ∷ word) = value_from (value * 10 + (b - 48)) word

-- digits, no zero before others
abbrev pub is_numeral : List ℕ → Bool
is_numeral [] = false
is_numeral (b ∷ []) = is_digit b
is_numeral (b ∷ c ∷ word) = not (b == 48) && list_all is_digit (b ∷ c ∷ word)

-- a number of at most `most`
abbrev pub number_up_to : ℕ → List ℕ → Option ℕ
number_up_to most word = if is_numeral word && nat_le (value_from 0 word) most then Some (value_from 0 word) else None

-- a number is 0 or decimal digits without a leading zero, at most 4294967295
abbrev pub number_of : List ℕ → Option ℕ
number_of word = number_up_to 4294967295 word

-- a byte put in front of the first of some parts
abbrev pub onto_first_part : ℕ → List (List ℕ) → List (List ℕ)
onto_first_part b [] = (b ∷ []) ∷ []
onto_first_part b (part ∷ parts) = (b ∷ part) ∷ parts

-- the parts between points
abbrev pub parts_at_points : List ℕ → List (List ℕ)
parts_at_points [] = [] ∷ []
parts_at_points (b ∷ word) = if b == 46 then [] ∷ parts_at_points word else onto_first_part b (parts_at_points word)

abbrev pub address_of_numbers : Option ℕ → Option ℕ → Option ℕ → Option ℕ → Option ℕ
address_of_numbers (Some a) (Some b) (Some c) (Some d) = Some (((a * 256 + b) * 256 + c) * 256 + d)
address_of_numbers a b c d = None

abbrev pub address_of_parts : List (List ℕ) → Option ℕ
address_of_parts (a ∷ b ∷ c ∷ d ∷ []) = address_of_numbers (number_up_to 255 a) (number_up_to 255 b) (number_up_to 255 c) (number_up_to 255 d)
address_of_parts parts = None

-- an address is four numbers from 0 to 255 joined by points
abbrev pub address_of : List ℕ → Option ℕ
address_of word = address_of_parts (parts_at_points word)
